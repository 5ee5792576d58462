-- The inverse of a byte is a byte, and times it gives 1.
use mathlib.Core.Path.{◌≡◌}
use Prim.Native.Nat.{ℕ, zero, suc, ◌<◌}
use native.Mathlib.Nat.{le_of_suc-le-suc, not-suc-le-zero}
use Rattle.field.specs.Field.{xtime, mul, inverse}
use Rattle.field.proofs.Test.{agreed}
use Rattle.field.proofs.Linear.{mul_lt}

pub inverse_lt : (b : ℕ) → b < 256 → inverse b < 256
unfolding inverse
inverse_lt b h = mul_lt _ _ (mul_lt _ b h)

pub inverse_law : (b : ℕ) → 0 < b → b < 256 → mul b (inverse b) ≡ 1
unfolding mul xtime inverse
inverse_law zero p h = absurd (not-suc-le-zero p)
inverse_law (suc b) p h = agreed (λ k. mul (suc k) (inverse (suc k))) (λ _. 1) 255 tt b (le_of_suc-le-suc h)
