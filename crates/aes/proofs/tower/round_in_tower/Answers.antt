use Rattle.aes.proofs.EachState.{round_is}
use Rattle.aes.proofs.tower.round_in_tower.Goals as goal

pub returns : goal.returns
returns c = λ t k bt bk se ke. round_is c.args.state t bt se c.args.key k _ _ bk ke c.map_inverses-once.ensures c.map_inverses-twice.ensures
