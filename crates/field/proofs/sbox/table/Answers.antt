-- The rule of the whole table is one test, which antt computes.
use Rattle.field.specs.Field.{xtime, mul, inverse}
use Rattle.field.specs.Substitution.{affine, sub}
use Rattle.field.proofs.Test.{tabled}
use Rattle.field.proofs.sbox.table.Goals as goal

pub returns : goal.returns
unfolding sub affine inverse mul xtime
returns c = tabled sub _ tt tt
