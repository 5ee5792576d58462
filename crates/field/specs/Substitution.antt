-- The substitution of bytes of FIPS 197: the inverse in the field and then an affine map of the
-- bits, and back.
use Rattle.std.specs.Prelude.{◌≡◌, List, ℕ, zero, suc, ◌+◌, ◌*◌, ◌/◌, ◌%◌, ◌<◌, get_or}
use Rattle.field.specs.Field.{inverse}

-- bit i of b
abbrev pub bit : ℕ → ℕ → ℕ
bit zero b = b % 2
bit (suc i) b = bit i (b / 2)

-- the byte with the bits f 0 to f 7
abbrev pub byte_of : (ℕ → ℕ) → ℕ
byte_of f = f 0 + 2 * f 1 + 4 * f 2 + 8 * f 3 + 16 * f 4 + 32 * f 5 + 64 * f 6 + 128 * f 7

-- bit i of the affine map: the sum of the bits i, i+4, i+5, i+6 and i+7 of b, counted modulo 8, and
-- of bit i of 63 (hexadecimal)
abbrev pub affine_bit : ℕ → ℕ → ℕ
affine_bit i b = (bit i b + bit ((i + 4) % 8) b + bit ((i + 5) % 8) b + bit ((i + 6) % 8) b
    + bit ((i + 7) % 8) b + bit i 0x63) % 2

-- bit i of its inverse: the sum of the bits i+2, i+5 and i+7 of b, and of bit i of 5
abbrev pub unaffine_bit : ℕ → ℕ → ℕ
unaffine_bit i b = (bit ((i + 2) % 8) b + bit ((i + 5) % 8) b + bit ((i + 7) % 8) b
    + bit i 0x05) % 2

unfoldable pub affine : ℕ → ℕ
affine b = byte_of (λ i. affine_bit i b)

unfoldable pub unaffine : ℕ → ℕ
unaffine b = byte_of (λ i. unaffine_bit i b)

-- what a byte is replaced by
unfoldable pub sub : ℕ → ℕ
sub b = affine (inverse b)

-- ... and what it replaces
unfoldable pub unsub : ℕ → ℕ
unsub b = inverse (unaffine b)

-- a table of f over the bytes
pub record Tabled (f : ℕ → ℕ) (xs : List ℕ) : Type 0 where
  pub entry : (b : ℕ) → b < 256 → get_or xs b 0 ≡ f b
