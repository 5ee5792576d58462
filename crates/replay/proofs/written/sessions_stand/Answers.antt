use Rattle.replay.proofs.Reading.{session}
use Rattle.replay.proofs.written.sessions_stand.Goals as goal

pub returns : goal.returns
returns c = session
