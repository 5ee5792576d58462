use Rattle.std.proofs.Common.{◌≡◌, ◌-◌, ◌<◌, length, get_or, suc, sym, ap, ◌∙◌, rules, arith}
use Rattle.forms.specs.Double.{moved}
use Rattle.forms.proofs.Doubles.{moved_first, moved_at}
use Rattle.digests.proofs.doubling.moved_byte.Goals as goal

pub returns-then-i-eq0 : goal.returns-then-i-eq0
returns-then-i-eq0 c =
    let b = c.args.b.now in
    let l : length b ≡ 16 = search rules in
    let e : c.args.i ≡ 0 = search rules in
    omega arith ∙ sym (ap (λ i. get_or (moved 0 b) i 0) e ∙ moved_first 0 b (omega arith))

pub returns-else-i-eq0 : goal.returns-else-i-eq0
returns-else-i-eq0 c =
    let b = c.args.b.now in
    let i = c.args.i in
    let l : length b ≡ 16 = search rules in
    let h : i < 16 = c.requires in
    let s : i ≡ suc (i - 1) = search (rules, arith) in
    moved_at b i (i - 1) s (omega arith)
