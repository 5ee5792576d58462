use Rattle.figures.proofs.Standing.{figures}
use Rattle.figures.proofs.figures_stands.Goals as goal

pub returns : goal.returns
returns c = figures
