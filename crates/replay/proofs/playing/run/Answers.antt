use Rattle.replay.proofs.Writes.{run_ends}
use Rattle.replay.proofs.playing.run.Goals as goal

pub returns : goal.returns
returns g c = run_ends _ _ _ _ c.in_ok-outcome.outcome c.write.result c.in_ok-outcome.ensures.decides c.write.ensures
