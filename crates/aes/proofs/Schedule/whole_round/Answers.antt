use Rattle.std.proofs.Common.{◌+◌, ◌<◌, map, ap, sym, ◌∙◌, arith, lit<}
use Rattle.aes.specs.State.{add_round_key}
use Rattle.aes.specs.Cipher.{key_at, rounds}
use Rattle.aes.specs.Tower.{in_tower}
use Rattle.aes.proofs.Inverses.{add_block}
use Rattle.aes.proofs.Rounds.{rounds_more}
use Rattle.aes.proofs.Schedules.{held}
use Rattle.aes.proofs.Undone.{rounds_block}
use Rattle.aes.proofs.Schedule.whole_round.Goals as goal

pub returns : goal.returns
returns c = λ x b e.
    let ks = c.args.self.now.keys in
    let s = held c.args.self.now in
    let i = c.args.i in
    let start = add_round_key (key_at ks 0) x in
    let most : i + 1 < 11 = omega (arith, c.requires) in
    c.round_in_tower.ensures (rounds ks i start) (key_at ks (i + 1)) (rounds_block ks s i (omega (arith, c.requires)) start (add_block (key_at ks 0) x (s.each 0 (lit< tt)) b)) (s.each (i + 1) most) e (c.args.self.now.entered (i + 1) most)
    ∙ ap (map in_tower) (sym (rounds_more ks i start))
