use Rattle.field.proofs.Substitution.{substitutes}
use Rattle.field.proofs.substitution_stands.Goals as goal

pub returns : goal.returns
returns c = substitutes
