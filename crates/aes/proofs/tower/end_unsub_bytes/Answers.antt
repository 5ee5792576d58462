use Rattle.aes.proofs.EachState.{unsub_bytes_is}
use Rattle.aes.proofs.tower.end_unsub_bytes.Goals as goal

pub returns : goal.returns
returns c = λ t bt we. unsub_bytes_is c.args.state t bt we _ c.map_inverses.ensures
