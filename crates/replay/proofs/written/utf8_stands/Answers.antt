use Rattle.replay.proofs.Utf8.{law}
use Rattle.replay.proofs.written.utf8_stands.Goals as goal

pub returns : goal.returns
returns c = law
