use Rattle.forms.proofs.ByX.{by_x}
use Rattle.forms.proofs.doubling_stands.Goals as goal

pub returns : goal.returns
returns c = by_x
