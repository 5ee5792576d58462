use Rattle.forms.proofs.Forming.{keyed_lawful}
use Rattle.forms.proofs.keyed_stands.Goals as goal

pub returns : goal.returns
returns c = keyed_lawful
