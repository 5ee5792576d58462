use Rattle.std.proofs.Common.{◌≡◌, ℕ, zero, suc, ◌+◌, ◌/◌, ◌^◌, ◌<◌, sym, refl, ap, ◌∙◌, add-zero, add_assoc, pow-suc, zero-add, div-one}
use native.Mathlib.Nat.{div-div-eq-div-mul, div-eq_of_lt}
use lib.Count.{ones, ones_step}
use Rattle.sheet.specs.Table.{bit, set_below}

pub ones_set : (m k : ℕ) → ones m ≡ set_below m k + ones (m / 2 ^ k)
ones_set m zero = sym (zero-add (ones (m / 1)) ∙ ap ones (div-one m))
ones_set m (suc k) =
    ones_set m k ∙ ap (λ n. set_below m k + n) (ones_step (m / 2 ^ k) ∙ ap (λ n. bit m k + ones n) (div-div-eq-div-mul m (2 ^ k) 2 ∙ ap (λ n. m / n) (sym (pow-suc 2 k)))) ∙ sym (add_assoc (set_below m k) (bit m k) (ones (m / 2 ^ suc k)))

none : ones 0 ≡ 0
unfolding ones
none = refl

pub ones_16 : (m : ℕ) → m < 2 ^ 16 → ones m ≡ set_below m 16
ones_16 m h = ones_set m 16 ∙ ap (λ n. set_below m 16 + n) (ap ones (div-eq_of_lt h) ∙ none) ∙ add-zero (set_below m 16)
