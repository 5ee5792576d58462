use Rattle.aes.proofs.Inversion.{low_ok, high_ok, map_by_halves}
use Rattle.aes.proofs.tower.map_bytes.Goals as goal

pub look_up-low-requires : goal.look_up-low-requires
look_up-low-requires c = low_ok c.args.bytes c.fits-bytes

pub look_up-high-requires : goal.look_up-high-requires
look_up-high-requires c = high_ok c.args.bytes c.fits-bytes

pub returns : goal.returns
returns c = map_by_halves c.args.bytes c.fits-bytes c.args.tables _ _ c.look_up-low.ensures c.look_up-high.ensures
