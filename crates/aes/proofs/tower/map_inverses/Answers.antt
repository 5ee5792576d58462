use Rattle.aes.proofs.Inversion.{place_i_ok, place_j_ok, map_by_inverse}
use Rattle.aes.proofs.tower.map_inverses.Goals as goal

pub look_up-requires : goal.look_up-requires
look_up-requires c = place_i_ok c.args.bytes c.fits-bytes _ _ c.inverse_places.ensures.i c.inverse_places.ensures.j

pub look_up-requires-2 : goal.look_up-requires-2
look_up-requires-2 c = place_j_ok c.args.bytes c.fits-bytes _ _ c.inverse_places.ensures.i c.inverse_places.ensures.j

pub returns : goal.returns
returns c =
    let i = c.inverse_places.ensures.i in
    let j = c.inverse_places.ensures.j in
    map_by_inverse c.args.bytes c.fits-bytes _ _ i j c.args.tables _ _ c.look_up.ensures c.look_up-2.ensures
