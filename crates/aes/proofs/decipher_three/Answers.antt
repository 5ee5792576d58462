use Rattle.std.proofs.Common.{◌≡◌, ℕ, ◌-◌, ◌<◌, length, get_or, subst, rules, arith}
use Rattle.aes.specs.Between.{BeforeRounds}
use Rattle.aes.proofs.Blocks.{block_from}
use Rattle.aes.proofs.Three.{enciphered}
use Rattle.aes.proofs.decipher_three.Goals as goal

pub loop-i-init : goal.loop-i-init
loop-i-init c = record { first = c.undo_last_round-p.ensures; second = c.enter-q.ensures; third = c.enter-r.ensures }

pub loop-i-preserved : goal.loop-i-preserved
loop-i-preserved c =
    let lx : length c.args.x ≡ 16 = search rules in
    let hx : (i : ℕ) → i < 16 → get_or c.args.x i 0 < 256 = search rules in
    let ly : length c.args.y ≡ 16 = search rules in
    let hy : (i : ℕ) → i < 16 → get_or c.args.y i 0 < 256 = search rules in
    let v = c.loop-i.invariant in
    record {
      first = c.undo_whole_round.ensures c.args.x v.first;
      second = c.whole_round.ensures c.args.x (block_from c.args.x lx hx) v.second;
      third = c.whole_round-in-loop-i.ensures c.args.y (block_from c.args.y ly hy) v.third;
    }

pub returns-clause-first : goal.returns-clause-first
returns-clause-first c =
    let lx : length c.args.x ≡ 16 = search rules in
    let hx : (i : ℕ) → i < 16 → get_or c.args.x i 0 < 256 = search rules in
    let e : c.loop-i.i ≡ 9 = omega arith in
    c.leave_undone.ensures c.args.x (subst (λ n. BeforeRounds c.args.a.now.keys (9 - n) c.args.x c.loop-i.p) e c.loop-i.invariant.first)

pub returns-clause-second : goal.returns-clause-second
returns-clause-second c =
    enciphered c.args.b.now.keys c.args.x c.loop-i.q _ c.loop-i.i (search rules) (search rules) (omega arith) c.loop-i.invariant.second c.last_round.ensures

pub returns-clause-third : goal.returns-clause-third
returns-clause-third c =
    enciphered c.args.b.now.keys c.args.y c.loop-i.r _ c.loop-i.i (search rules) (search rules) (omega arith) c.loop-i.invariant.third c.last_round-2.ensures
