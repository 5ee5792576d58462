use Rattle.wire.proofs.Whole.{parsed}
use Rattle.wire.proofs.parsing.parse.Goals as goal

pub returns : goal.returns
returns c = rw c.ok_or.ensures.value (parsed c.args.input.now _ c.read.result (cc) c.read.ensures)
