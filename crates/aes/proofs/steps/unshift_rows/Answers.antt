use Rattle.std.proofs.Common.{rules}
use Rattle.aes.specs.State.{inv_shift_rows}
use Rattle.aes.proofs.steps.unshift_rows.Goals as goal

pub returns : goal.returns
unfolding inv_shift_rows
returns c = search rules
