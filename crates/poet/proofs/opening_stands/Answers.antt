use Rattle.poet.proofs.Accepting.{only_law, opening_law}
use Rattle.poet.proofs.opening_stands.Goals as goal

pub returns : goal.returns
returns c = record { only = only_law; accepts = opening_law }
