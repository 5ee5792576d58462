use Rattle.aes.proofs.EachState.{undone_is}
use Rattle.aes.proofs.tower.undo_round_in_tower.Goals as goal

pub returns : goal.returns
returns c =
    λ t k bt bk we ke.
    undone_is c.args.state t bt we c.args.key k _ _ _ _ bk ke c.map_inverses-by_14.ensures c.map_inverses-by_11.ensures c.map_inverses-by_13.ensures c.map_inverses-by_9.ensures
