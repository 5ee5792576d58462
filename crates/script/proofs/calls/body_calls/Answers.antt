use Rattle.script.proofs.Playings.{bodies_more}
use Rattle.script.proofs.calls.body_calls.Goals as goal

pub loop-stretch-preserved : goal.loop-stretch-preserved
loop-stretch-preserved g c = bodies_more c.args.stretches.now c.loop-stretch.stretch-index _ _ _ _ _ _ _ c.loop-stretch-test.true c.loop-stretch.invariant c.in_ok-body_call.ensures
