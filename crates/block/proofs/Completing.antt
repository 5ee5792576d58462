-- Blocks that are filled up.
use Rattle.std.proofs.Common.{◌≡◌, ℕ, ◌+◌, ◌-◌, ◌≤◌, List, ◌++◌, length, take, min, sym, ap, ap₂, ◌∙◌, inl, inr, arith, length-take-le, take_all, append-nil}
use lib.Seq.{take-append-add}
use Rattle.std.proofs.lemmas.Bool.{cases_lt}
use Rattle.std.proofs.lemmas.List.{take-append-le, take_at}
use Rattle.std.proofs.lemmas.Slice.{take-put_mid}
use borrow.Rule.Slice.PartMut.{put_mid}

-- sixteen bytes that begin with p
pub completes : (p q : List ℕ) → length p ≤ 16 → take 16 (p ++ q) ≡ p ++ take (16 - length p) q
completes p q l =
    let e : length p + (16 - length p) ≡ 16 = omega arith in
    ap (λ n. take n (p ++ q)) (sym e) ∙ take-append-add p q (16 - length p)

-- a block whose first n bytes are x takes y behind them
pub filled : (p q x y z : List ℕ) (n : ℕ) → length q ≡ 16 → n ≡ min (length p) 16 → x ≡ take n p → y ≡ take (16 - n) q → length (x ++ z) ≡ 16 → length (put_mid n (16 - n) (x ++ z) y) ≡ 16 → put_mid n (16 - n) (x ++ z) y ≡ take 16 (p ++ q)
filled p q x y z n ql ne xe ye l l' =
    let xl : length x ≡ n = ap length xe ∙ length-take-le n p (omega arith) in
    let yl : length y ≡ 16 - n = ap length ye ∙ length-take-le (16 - n) q (omega arith) in
    let m : put_mid n (16 - n) (x ++ z) y ≡ x ++ y =
    sym (take_all 16 (put_mid n (16 - n) (x ++ z) y) (omega arith)) ∙ take-put_mid n (16 - n) (x ++ z) y 16 (omega arith) (omega arith) ∙ ap (λ a. a ++ y) (take_at x z n xl) in
    m ∙ elim (cases_lt (length p) 16) [
      | inl less ↦ (let e : n ≡ length p = omega arith in ap₂ ◌++◌ (xe ∙ take_all n p (omega arith)) (ye ∙ ap (λ k. take (16 - k) q) e) ∙ sym (completes p q (omega arith)))
      | inr more ↦ (let e : n ≡ 16 = omega arith in ap₂ ◌++◌ (xe ∙ ap (λ k. take k p) e) (ye ∙ ap (λ k. take (16 - k) q) e) ∙ append-nil (take 16 p) ∙ sym (take-append-le 16 p q more))
    ]
