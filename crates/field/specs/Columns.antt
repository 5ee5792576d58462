-- The two matrices of FIPS 197 that mix a column of four bytes, and unmix it.
use Rattle.std.specs.Prelude.{ℕ, zero, suc}
use Rattle.std.specs.Int.Bits.{bit_xor}
use Rattle.field.specs.Field.{mul}

abbrev pub sum4 : ℕ → ℕ → ℕ → ℕ → ℕ
sum4 a b c d = bit_xor (bit_xor (bit_xor a b) c) d

-- the row p q r s of a matrix times the column a b c d
abbrev pub dot : ℕ → ℕ → ℕ → ℕ → ℕ → ℕ → ℕ → ℕ → ℕ
dot p q r s a b c d = sum4 (mul p a) (mul q b) (mul r c) (mul s d)

-- byte r of a mixed column
abbrev pub mixed : ℕ → ℕ → ℕ → ℕ → ℕ → ℕ
mixed zero a b c d = dot 2 3 1 1 a b c d
mixed (suc zero) a b c d = dot 1 2 3 1 a b c d
mixed (suc (suc zero)) a b c d = dot 1 1 2 3 a b c d
mixed (suc (suc (suc r))) a b c d = dot 3 1 1 2 a b c d

-- byte r of an unmixed column
abbrev pub unmixed : ℕ → ℕ → ℕ → ℕ → ℕ → ℕ
unmixed zero a b c d = dot 14 11 13 9 a b c d
unmixed (suc zero) a b c d = dot 9 14 11 13 a b c d
unmixed (suc (suc zero)) a b c d = dot 13 9 14 11 a b c d
unmixed (suc (suc (suc r))) a b c d = dot 11 13 9 14 a b c d
