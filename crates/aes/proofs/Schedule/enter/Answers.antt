use Rattle.std.proofs.Common.{map, ap, sym, ◌∙◌}
use Rattle.aes.specs.Tower.{in_tower}
use Rattle.aes.proofs.Rounds.{rounds_none}
use Rattle.aes.proofs.Schedule.enter.Goals as goal

pub returns : goal.returns
returns c = c.enter_tower.ensures ∙ ap (map in_tower) (c.add_round_key.ensures ∙ sym (rounds_none c.args.self.now.keys _))
