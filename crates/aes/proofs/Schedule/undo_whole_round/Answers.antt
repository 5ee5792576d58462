use Rattle.std.proofs.Common.{◌+◌, ◌-◌, refl, arith}
use Rattle.aes.proofs.Schedules.{held}
use Rattle.aes.proofs.Undoing.{undoing_goes_on}
use Rattle.aes.proofs.Schedule.undo_whole_round.Goals as goal

pub returns : goal.returns
returns c = λ y h.
    let ks = c.args.self.now.keys in
    let i = c.args.i in
    undoing_goes_on ks c.args.self.now.back (held c.args.self.now) c.args.self.now.unmixed (9 - (i + 1)) (9 - i) (omega (arith, c.requires)) (omega (arith, c.requires)) c.args.s _ c.undo_round_in_tower.result _ refl c.undo_round_in_tower.ensures h
