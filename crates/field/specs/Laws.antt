-- The laws of the field, of the substitution and of the two matrices.
use Rattle.std.specs.Prelude.{◌≡◌, ℕ, ◌<◌}
use Rattle.std.specs.Int.Bits.{bit_xor}
use Rattle.field.specs.Field.{mul, inverse}
use Rattle.field.specs.Substitution.{sub, unsub}
use Rattle.field.specs.Columns.{mixed, unmixed}

-- A product of bytes goes through a sum.
abbrev pub ProductOfSum : Type 0
ProductOfSum = (c a b : ℕ) → a < 256 → b < 256 → mul c (bit_xor a b) ≡ bit_xor (mul c a) (mul c b)

-- `inverse` is the inverse of the field.
abbrev pub InverseLaw : Type 0
InverseLaw = (b : ℕ) → 0 < b → b < 256 → mul b (inverse b) ≡ 1

-- Substitution and its inverse give bytes, and undo one another.
pub record Substitutes (b : ℕ) : Type 0 where
  pub sub_byte : sub b < 256
  pub unsub_byte : unsub b < 256
  pub unsub_sub : unsub (sub b) ≡ b
  pub sub_unsub : sub (unsub b) ≡ b

abbrev pub SubstitutionLaw : Type 0
SubstitutionLaw = (b : ℕ) → b < 256 → Substitutes b

-- byte r that f makes of the column that g makes
abbrev pub after : (f g : ℕ → ℕ → ℕ → ℕ → ℕ → ℕ) → ℕ → ℕ → ℕ → ℕ → ℕ → ℕ
after f g r a b c d = f r (g 0 a b c d) (g 1 a b c d) (g 2 a b c d) (g 3 a b c d)

-- f gives back the column that went into g
pub record Undoes (f g : ℕ → ℕ → ℕ → ℕ → ℕ → ℕ) (a b c d : ℕ) : Type 0 where
  pub first : after f g 0 a b c d ≡ a
  pub second : after f g 1 a b c d ≡ b
  pub third : after f g 2 a b c d ≡ c
  pub fourth : after f g 3 a b c d ≡ d

-- The two matrices are inverse to one another, in both orders.
abbrev pub Unmixes : Type 0
Unmixes = (a b c d : ℕ) → a < 256 → b < 256 → c < 256 → d < 256 → Undoes unmixed mixed a b c d

abbrev pub Remixes : Type 0
Remixes = (a b c d : ℕ) → a < 256 → b < 256 → c < 256 → d < 256 → Undoes mixed unmixed a b c d
