-- A rule proved at every entry of a table, or at every number below a bound, by one test that antt computes.
use mathlib.Core.Path.{◌≡◌, ◌∙◌, subst, sym}
use mathlib.Core.Bool.{Bool, true, false}
use mathlib.Core.Logic.{◌⊎◌, inl, inr}
use mathlib.Core.List.{List, [], ◌∷◌}
use Prim.Native.Nat.{ℕ, zero, suc, ◌+◌, ◌<◌}
use native.Mathlib.Nat.{eq-or-lt_of_le, add-zero, zero-add, add-suc, suc-add, le_of_suc-le-suc, not-suc-le-zero}
use lib.Dec.{T, eqb, eqb→eq}
use lib.ListN.{length, get_or}
use Rattle.field.specs.Substitution.{Tabled}

abbrev pub both : Bool → Bool → Bool
both true b = b
both false b = false

both_left : (a b : Bool) → T (both a b) → T a
both_left true b t = tt
both_left false b t = t

both_right : (a b : Bool) → T (both a b) → T b
both_right true b t = t
both_right false b t = absurd t

-- each entry of the list is what f gives for its place, counted from i
abbrev pub every : (ℕ → ℕ) → ℕ → List ℕ → Bool
every f i [] = true
every f i (x ∷ xs) = both (eqb x (f i)) (every f (suc i) xs)

from : (f : ℕ → ℕ) (xs : List ℕ) (i : ℕ) → T (every f i xs) → (k : ℕ) → k < length xs → T (eqb (get_or xs k 0) (f (i + k)))
from f [] i t k h = absurd (not-suc-le-zero h)
from f (x ∷ xs) i t zero h = subst (λ (m : ℕ). T (eqb x (f m))) (sym (add-zero i)) (both_left (eqb x (f i)) (every f (suc i) xs) t)
from f (x ∷ xs) i t (suc k) h =
    subst (λ (m : ℕ). T (eqb (get_or xs k 0) (f m))) (suc-add i k ∙ sym (add-suc i k))
    (from f xs (suc i) (both_right (eqb x (f i)) (every f (suc i) xs) t) k (le_of_suc-le-suc h))

pub tabled : (f : ℕ → ℕ) (xs : List ℕ) → T (eqb (length xs) 256) → T (every f 0 xs) → Tabled f xs
tabled f xs l t = record {
  entry =
      λ k h.
      eqb→eq (get_or xs k 0) (f k)
      (subst (λ (m : ℕ). T (eqb (get_or xs k 0) (f m))) (zero-add k) (from f xs 0 t k (subst (λ (n : ℕ). k < n) (sym (eqb→eq (length xs) 256 l)) h)));
}

-- f and g agree below n
abbrev pub agree : (f g : ℕ → ℕ) → ℕ → Bool
agree f g zero = true
agree f g (suc n) = both (eqb (f n) (g n)) (agree f g n)

last_or_less : (n k : ℕ) → k < suc n → (k ≡ n) ⊎ (k < n)
last_or_less n k h = eq-or-lt_of_le (le_of_suc-le-suc h)

pub agreed : (f g : ℕ → ℕ) (n : ℕ) → T (agree f g n) → (k : ℕ) → k < n → f k ≡ g k
agreed f g zero t k h = absurd (not-suc-le-zero h)
agreed f g (suc n) t k h =
    elim (last_or_less n k h) [
      | inl e ↦ subst (λ (m : ℕ). f m ≡ g m) (sym e) (eqb→eq (f n) (g n) (both_left (eqb (f n) (g n)) (agree f g n) t))
      | inr l ↦ agreed f g n (both_right (eqb (f n) (g n)) (agree f g n) t) k l
    ]
