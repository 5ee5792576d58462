use Rattle.script.proofs.Playings.{headers_more}
use Rattle.script.proofs.calls.header_calls.Goals as goal

pub loop-stretch-preserved : goal.loop-stretch-preserved
loop-stretch-preserved g c = headers_more c.args.stretches.now c.loop-stretch.stretch-index _ _ _ _ _ _ _ c.loop-stretch-test.true c.loop-stretch.invariant c.in_ok-header_call.ensures
