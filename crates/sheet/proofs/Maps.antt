-- A test at each number below another.
use Rattle.std.proofs.Common.{◌≡◌, ℕ, ◌*◌, ◌/◌, ◌%◌, ◌<◌, ◌≤◌, Bool, true, false, not, sym, refl, ap, ◌∙◌, ⊎_elim, subst, length, zero-add, arith}
use native.Mathlib.Nat.{div-eq_of_lt-le}
use Rattle.std.proofs.str.Laws.{order}
use Rattle.std.specs.List.{range_with_len}
use Rattle.std.proofs.lemmas.List.FromFn.{length-range_with_len, get_or-range_with_len}
use Rattle.std.proofs.lemmas.List.Sums.{AllPass-from_list_all}
use Rattle.sheet.specs.Table.{all_below}

pub all_at : (t : ℕ → Bool) (n k : ℕ) → all_below t n ≡ true → k < n → t k ≡ true
unfolding all_below
all_at t n k h l =
    let w : k < length (range_with_len 0 n) = simp length-range_with_len l in
    subst (λ j. t j ≡ true) (get_or-range_with_len 0 n k 0 l ∙ zero-add k) (AllPass-from_list_all t (range_with_len 0 n) h k 0 w)

pub not_false : (b : Bool) → not b ≡ true → b ≡ false
not_false true e = sym e
not_false false e = refl

under : (n x : ℕ) → x < n * 2 → x / n % 2 ≡ 0 → x < n
under n x w h =
    ⊎_elim
    (λ (l : x < n). l)
    (λ (l : n ≤ x). let q : x / n ≡ 1 = div-eq_of_lt-le {k = 1} n {m = x} (omega arith) (omega arith) in let z : ◌≡◌ {A = ℕ} 1 0 = sym (ap (λ (k : ℕ). k % 2) q) ∙ h in absurd (omega arith))
    (order x n)

pub down : {G : Type 0} (n x : ℕ) → x < n * 2 → x / n % 2 ≡ 0 → (x < n → G) → G
down n x w h g = g (under n x w h)
