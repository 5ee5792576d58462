use Rattle.std.proofs.Common.{rules}
use Rattle.aes.specs.State.{shift_rows}
use Rattle.aes.proofs.steps.shift_rows.Goals as goal

pub returns : goal.returns
unfolding shift_rows
returns c = search rules
