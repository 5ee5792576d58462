use Rattle.poet.proofs.Streams.{pieces_law}
use Rattle.poet.proofs.pieces_stands.Goals as goal

pub returns : goal.returns
returns c = pieces_law
