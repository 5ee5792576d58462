use Rattle.aes.proofs.EachState.{sub_bytes_is}
use Rattle.aes.proofs.tower.sub_bytes_leaving.Goals as goal

pub returns : goal.returns
returns c = λ t bt se. sub_bytes_is c.args.state t bt se _ c.map_inverses.ensures
