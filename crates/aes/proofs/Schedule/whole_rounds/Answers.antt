use Rattle.std.proofs.Common.{◌≡◌, ℕ, ◌<◌, length, get_or, subst, rules, arith}
use Rattle.aes.specs.Between.{AfterRounds}
use Rattle.aes.proofs.Blocks.{block_from}
use Rattle.aes.proofs.Schedule.whole_rounds.Goals as goal

pub loop-i-init : goal.loop-i-init
loop-i-init c = c.enter-s.ensures

pub loop-i-preserved : goal.loop-i-preserved
loop-i-preserved c =
    let lx : length c.args.x ≡ 16 = search rules in
    let hx : (i : ℕ) → i < 16 → get_or c.args.x i 0 < 256 = search rules in
    c.whole_round-next.ensures c.args.x (block_from c.args.x lx hx) c.loop-i.invariant

pub returns : goal.returns
returns c =
    let e : c.loop-i.i ≡ c.args.n = omega arith in
    subst (λ n. AfterRounds c.args.self.now.keys n c.args.x c.loop-i.s) e c.loop-i.invariant
