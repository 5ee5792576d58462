-- The rule of the whole table is one test, which antt computes.
use Rattle.field.specs.Field.{xtime, mul, inverse}
use Rattle.field.specs.Substitution.{unaffine, unsub}
use Rattle.field.proofs.Test.{tabled}
use Rattle.field.proofs.unsbox.table.Goals as goal

pub returns : goal.returns
unfolding unsub unaffine inverse mul xtime
returns c = tabled unsub _ tt tt
