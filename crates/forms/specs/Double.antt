-- Blocks as polynomials over the bits, modulo x^128 + x^7 + x^2 + x + 1, in the order of bits of
-- NIST's GCM: the coefficient of 1 is the top bit of byte 0, and that of x^127 the low bit of byte
-- 15.
use Rattle.std.specs.Prelude.{ℕ, zero, suc, ◌+◌, ◌-◌, ◌*◌, ◌/◌, ◌%◌, ◌^◌, List, [], ◌∷◌}
use Rattle.std.specs.Prelude.{slice_index}
use Rattle.block.specs.Bytes.{◌⊕◌}

-- the bytes, each moved down by a bit, with the bit c on top of the first, and the low bit of each
-- byte on top of the next
unfoldable pub moved : (c : ℕ) → List ℕ → List ℕ
moved c [] = []
moved c (x ∷ b) = (128 * c + x / 2) ∷ moved (x % 2) b

-- x times a block: each bit moves one place on, and E1 is added to byte 0 for the one that falls
-- out
unfoldable pub double : List ℕ → List ℕ
double b = moved 0 b ⊕ ((0xE1 * (slice_index b 15 % 2)) ∷ [])

-- the coefficient of x^i
abbrev pub coefficient : List ℕ → ℕ → ℕ
coefficient b i = slice_index b (i / 8) / 2 ^ (7 - i % 8) % 2

-- the one before it
abbrev pub before : List ℕ → ℕ → ℕ
before b zero = 0
before b (suc i) = coefficient b i
