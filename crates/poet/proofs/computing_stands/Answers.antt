use Rattle.poet.proofs.Computing.{computing_law}
use Rattle.poet.proofs.Accepting.{seal_law, tag_law}
use Rattle.poet.proofs.computing_stands.Goals as goal

pub returns : goal.returns
returns c = record { one = seal_law; computing = computing_law; lengths = tag_law }
