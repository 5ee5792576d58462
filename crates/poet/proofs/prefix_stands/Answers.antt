use Rattle.poet.proofs.Prefix.{prefix_law, sealing_prefix, opening_prefix}
use Rattle.poet.proofs.prefix_stands.Goals as goal

pub returns : goal.returns
returns c = record { rows = prefix_law; sealing = sealing_prefix; opening = opening_prefix }
