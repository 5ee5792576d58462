use borrow.Author.Rules.{rules}
use Rattle.field.specs.Field.{xtime}
use Rattle.field.proofs.double.Goals as goal

pub returns : goal.returns
unfolding xtime
returns c = search rules
