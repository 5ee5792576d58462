-- Bytes put behind those that a buffer holds.
use Rattle.std.proofs.Common.{◌≡◌, ℕ, ◌+◌, ◌-◌, ◌≤◌, List, ◌++◌, length, take, min, sym, ap, ap₂, ◌∙◌, inl, inr, arith, length-take-le, take_all}
use Rattle.std.proofs.Math.Seq.{take-append-add}
use Rattle.std.proofs.lemmas.Bool.{cases_lt}
use Rattle.std.proofs.lemmas.Slice.{take-put_mid}
use borrow.Rule.Slice.PartMut.{put_mid}

-- as many as there are, or as there is room for
room_or_all : (k m : ℕ) (s : List ℕ) → m ≡ min (length s) k → take m s ≡ take k s
room_or_all k m s e = elim (cases_lt (length s) k) [
  | inl short ↦ take_all m s (omega arith) ∙ sym (take_all k s (omega arith))
  | inr long ↦ ap (λ i. take i s) (omega arith)
]

-- b held n bytes; as many of s as there is room for go behind them
pub extended : (N n m : ℕ) (b s x old : List ℕ) → take n b ≡ old → n ≤ N → length b ≡ N → m ≡ min (length s) (N - n) → x ≡ take m s → take (n + m) (put_mid n (n + m - n) b x) ≡ take N (old ++ s)
extended N n m b s x old v l lb me xe =
    let xl : length x ≡ m = ap length xe ∙ length-take-le m s (omega arith) in
    let ol : length old ≡ n = ap length (sym v) ∙ length-take-le n b (omega arith) in
    take-put_mid n (n + m - n) b x (n + m) (omega arith) (omega arith)
    ∙ ap₂ ◌++◌ v (xe ∙ room_or_all (N - n) m s me)
    ∙ sym (take-append-add old s (N - n))
    ∙ ap (λ i. take i (old ++ s)) (omega arith)
