-- The elements that `array::from_fn` makes.
use Rattle.std.proofs.Common.{◌≡◌, ℕ, zero, suc, ◌+◌, ◌<◌, ◌≤◌, inl, inr, List, get_or, subst, sym, arith}
use Rattle.std.proofs.lemmas.Bool.{cases_lt}
use Rattle.std.specs.Array.{IsFromFnResultFrom}
use denote.Param.Members.{Mut, Called}

-- What holds of the closure at first, and is kept by each call, holds at each call; so the element at k is what v says of k.
module _ {F B : Type 0} (g : Mut F (ℕ × Unit {0}) B) (P : F → Type 0) (v : ℕ → B → Type 0) (step : (p q : F) (i : ℕ) (y : B) → P p → Called g p (i, tt) y q → P q × v i y) (ys : List B) where
  pub made : (f : F) (i n : ℕ) → P f → IsFromFnResultFrom g f ys i n → (k : ℕ) (d : B) → i ≤ k → k < i + n → v k (get_or ys k d)
  made f i zero h r k d l m = absurd (omega arith)
  made f i (suc n) h (q, y, e, call, rest) k d l m = elim (cases_lt i k) [
    | inl more ↦ made q (i + 1) n (step f q i y h call).0 rest k d (omega arith) (omega arith)
    | inr same ↦ (let s : i ≡ k = omega arith in subst (λ j. v j (get_or ys j d)) s (subst (v i) (sym (e.1 d)) (step f q i y h call).1))
  ]
