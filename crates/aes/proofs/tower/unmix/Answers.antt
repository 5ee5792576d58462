use Rattle.aes.proofs.EachState.{unmixed_is}
use Rattle.aes.proofs.tower.unmix.Goals as goal

pub returns : goal.returns
returns c = unmixed_is c.args.bytes c.fits-bytes _ _ _ _ c.map_bytes-by_14.ensures c.map_bytes-by_11.ensures c.map_bytes-by_13.ensures c.map_bytes-by_9.ensures
