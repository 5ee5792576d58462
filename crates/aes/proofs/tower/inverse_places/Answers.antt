use Rattle.aes.proofs.Inversion.{low_ok, high_ok, halves_sum_ok, sum_i_ok, sum_j_ok, place_i_is, place_j_is}
use Rattle.aes.proofs.tower.inverse_places.Goals as goal

pub look_up-over-requires : goal.look_up-over-requires
look_up-over-requires c = low_ok c.args.bytes c.fits-bytes

pub look_up-requires : goal.look_up-requires
look_up-requires c = high_ok c.args.bytes c.fits-bytes

pub look_up-requires-2 : goal.look_up-requires-2
look_up-requires-2 c = halves_sum_ok c.args.bytes c.fits-bytes

pub look_up-requires-3 : goal.look_up-requires-3
look_up-requires-3 c = sum_i_ok c.args.bytes c.fits-bytes _ _ _ c.look_up-over.ensures c.look_up.ensures c.look_up-2.ensures

pub look_up-requires-4 : goal.look_up-requires-4
look_up-requires-4 c = sum_j_ok c.args.bytes c.fits-bytes _ _ _ c.look_up-over.ensures c.look_up.ensures c.look_up-2.ensures

pub returns-clause-i : goal.returns-clause-i
returns-clause-i c = place_i_is c.args.bytes c.fits-bytes _ _ _ c.look_up-over.ensures c.look_up.ensures c.look_up-2.ensures _ c.look_up-3.ensures

pub returns-clause-j : goal.returns-clause-j
returns-clause-j c = place_j_is c.args.bytes c.fits-bytes _ _ _ c.look_up-over.ensures c.look_up.ensures c.look_up-2.ensures _ c.look_up-4.ensures
