use Rattle.forms.proofs.Forming.{submitted_lawful}
use Rattle.forms.proofs.submitted_stands.Goals as goal

pub returns : goal.returns
returns c = submitted_lawful
