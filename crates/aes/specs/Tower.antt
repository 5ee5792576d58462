-- Bytes in the tower, as `src/tower.rt` has them, which says what the tower is. Proofs tie these to
-- the field of AES, and no contract of a public function cites them.
use Rattle.std.specs.Prelude.{ℕ, ◌/◌, List, map, Bool, ◌||◌, T, nat_lt, nat_le, if◌then◌else◌}
use Rattle.std.specs.Prelude.{slice_index, bit_and, bit_xor}
use Rattle.std.specs.Simd.Lanes.{Each1}
use Rattle.aes.specs.declared.tables.HalfTables.{HalfTables}
use Rattle.aes.specs.declared.tables.InverseTables.{InverseTables}
use Rattle.aes.specs.declared.tables.TheConstants.{AFFINE_CONSTANT, INTO_TOWER, INVERSES}
use Rattle.aes.specs.declared.tables.TheConstants.{SEVEN_OVER, UNAFFINE, UNAFFINE_CONSTANT}
use Rattle.aes.specs.State.{inv_mix_columns, inv_shift_rows}

-- ---- look-ups

-- a place in a table: below 16, or 128 and more, which stands for no element
abbrev pub is_index : ℕ → Bool
is_index p = nat_lt p 16 || nat_le 128 p

abbrev pub Indexes : List ℕ → Type 0
Indexes places = Each1 (λ p. T (is_index p)) places

-- what stands there: 0 for no element
abbrev pub look_up : List ℕ → ℕ → ℕ
look_up table p = if nat_le 128 p then 0 else slice_index table p

-- the halves of a byte
abbrev pub low : ℕ → ℕ
low y = bit_and y 15

abbrev pub high : ℕ → ℕ
high y = y / 16

-- a linear map of a byte
unfoldable pub by_halves : HalfTables → ℕ → ℕ
by_halves tables b = bit_xor (look_up tables.low (low b)) (look_up tables.high (high b))

-- ---- the inverse of the byte of the tower with the halves i (high) and k (low)

-- j = i + k
abbrev pub halves_sum : ℕ → ℕ
halves_sum y = bit_xor (low y) (high y)

-- 1/i + 7/k
abbrev pub sum_i : ℕ → ℕ
sum_i y = bit_xor (look_up INVERSES (high y)) (look_up SEVEN_OVER (low y))

-- 1/j + 7/k
abbrev pub sum_j : ℕ → ℕ
sum_j y = bit_xor (look_up INVERSES (halves_sum y)) (look_up SEVEN_OVER (low y))

-- the place I: 1 / (1/i + 7/k) + j
unfoldable pub place_i : ℕ → ℕ
place_i y = bit_xor (look_up INVERSES (sum_i y)) (halves_sum y)

-- the place J: 1 / (1/j + 7/k) + i
unfoldable pub place_j : ℕ → ℕ
place_j y = bit_xor (look_up INVERSES (sum_j y)) (high y)

-- a linear map of the inverse
unfoldable pub by_inverse : InverseTables → ℕ → ℕ
by_inverse tables y = bit_xor (look_up tables.by_i (place_i y)) (look_up tables.by_j (place_j y))

-- ---- bytes and states in the tower

-- a byte of a state
abbrev pub in_tower : ℕ → ℕ
in_tower = by_halves INTO_TOWER

-- a byte of a round key, with the constant of SubBytes
abbrev pub key_in_tower : ℕ → ℕ
key_in_tower k = in_tower (bit_xor k AFFINE_CONSTANT)

-- a byte that InvSubBytes is due for: the affine map undone, in the tower
abbrev pub unaffine_in_tower : ℕ → ℕ
unaffine_in_tower b = bit_xor (by_halves UNAFFINE b) UNAFFINE_CONSTANT

-- a state, or a round key, through InvMixColumns and InvShiftRows to there
abbrev pub unmixed_in_tower : List ℕ → List ℕ
unmixed_in_tower s = map unaffine_in_tower (inv_shift_rows (inv_mix_columns s))
