-- Numbers below 2^64 as blocks.
use Rattle.std.specs.Prelude.{ℕ, ◌/◌, ◌%◌, ◌^◌, List, [], ◌∷◌, ◌++◌, replicate, nat_lt}
use Rattle.std.specs.Prelude.{if◌then◌else◌}

-- byte i of a number, counted from the least significant one
abbrev pub byte : ℕ → ℕ → ℕ
byte n i = n / 256 ^ i % 256

-- the most significant byte first
abbrev pub big_endian : ℕ → List ℕ
big_endian n =
    replicate 8 0
    ++ (byte n 7 ∷ byte n 6 ∷ byte n 5 ∷ byte n 4 ∷ byte n 3 ∷ byte n 2 ∷ byte n 1 ∷ byte n 0 ∷ [])

-- the least significant byte first
abbrev pub little_endian : ℕ → List ℕ
little_endian n =
    (byte n 0 ∷ byte n 1 ∷ byte n 2 ∷ byte n 3 ∷ byte n 4 ∷ byte n 5 ∷ byte n 6 ∷ byte n 7 ∷ [])
    ++ replicate 8 0

-- The submission's numbers: 0 to 7 are constants, with the most significant byte first; a length in
-- bits, which is 8 or more, has the least significant byte first.
abbrev pub coded : ℕ → List ℕ
coded n = if nat_lt n 8 then big_endian n else little_endian n
