-- The substitution of a byte and its inverse give bytes, and undo one another.
use Prim.Native.Nat.{ℕ, ◌<◌}
use native.Mathlib.Omega.{arith}
use Rattle.field.specs.Field.{xtime, mul, inverse}
use Rattle.field.specs.Substitution.{affine, unaffine, sub, unsub}
use Rattle.field.specs.Laws.{Substitutes}
use Rattle.field.proofs.Test.{agreed}
use Rattle.field.proofs.Inverses.{inverse_lt}

affine_lt : (b : ℕ) → affine b < 256
unfolding affine
affine_lt b = omega arith

unaffine_lt : (b : ℕ) → unaffine b < 256
unfolding unaffine
unaffine_lt b = omega arith

pub sub_lt : (b : ℕ) → sub b < 256
unfolding sub
sub_lt b = affine_lt (inverse b)

pub unsub_lt : (b : ℕ) → unsub b < 256
unfolding unsub
unsub_lt b = inverse_lt (unaffine b) (unaffine_lt b)

pub substitutes : (b : ℕ) → b < 256 → Substitutes b
unfolding sub unsub affine unaffine inverse mul xtime
substitutes b h = record {
  sub_byte = sub_lt b;
  unsub_byte = unsub_lt b;
  unsub_sub = agreed (λ k. unsub (sub k)) (λ k. k) 256 tt b h;
  sub_unsub = agreed (λ k. sub (unsub k)) (λ k. k) 256 tt b h;
}
