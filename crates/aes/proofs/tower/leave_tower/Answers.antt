use Rattle.aes.proofs.EachState.{leaves}
use Rattle.aes.proofs.tower.leave_tower.Goals as goal

pub returns : goal.returns
returns c = λ t bt se. leaves c.args.state t bt se _ c.map_bytes.ensures
