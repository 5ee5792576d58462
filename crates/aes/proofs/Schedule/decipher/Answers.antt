use Rattle.std.proofs.Common.{◌≡◌, ◌-◌, subst, arith}
use Rattle.aes.specs.Between.{BeforeRounds}
use Rattle.aes.proofs.Schedule.decipher.Goals as goal

pub loop-i-init : goal.loop-i-init
loop-i-init c = c.undo_last_round-w.ensures

pub loop-i-preserved : goal.loop-i-preserved
loop-i-preserved c = c.undo_whole_round-next.ensures c.args.y c.loop-i.invariant

pub returns : goal.returns
returns c =
    let e : c.loop-i.i ≡ 9 = omega arith in
    c.leave_undone.ensures c.args.y (subst (λ n. BeforeRounds c.args.self.now.keys (9 - n) c.args.y c.loop-i.w) e c.loop-i.invariant)
