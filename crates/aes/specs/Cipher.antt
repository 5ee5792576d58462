-- Cipher and InvCipher of FIPS 197 with ten rounds, and both with four whole rounds, under a list
-- of round keys.
use Rattle.std.specs.Prelude.{◌≡◌, ℕ, zero, suc, ◌<◌, List, [], length, slice_index_or}
use Rattle.block.specs.Bytes.{Block}
use Rattle.aes.specs.State.{sub_bytes, shift_rows, mix_columns, add_round_key, inv_sub_bytes}
use Rattle.aes.specs.State.{inv_shift_rows, inv_mix_columns}

-- round key i
abbrev pub key_at : List (List ℕ) → ℕ → List ℕ
key_at ks i = slice_index_or ks i []

-- eleven round keys
pub record IsSchedule (ks : List (List ℕ)) : Type 0 where
  pub count : length ks ≡ 11
  pub each : (i : ℕ) → i < 11 → Block (key_at ks i)

-- a whole round under the key k
abbrev pub round : List ℕ → List ℕ → List ℕ
round k s = add_round_key k (mix_columns (shift_rows (sub_bytes s)))

-- the rounds 1 to n
unfoldable pub rounds : List (List ℕ) → ℕ → List ℕ → List ℕ
rounds ks zero s = s
rounds ks (suc n) s = round (key_at ks (suc n)) (rounds ks n s)

-- Cipher: nine whole rounds, and a last one that does not mix
unfoldable pub cipher : List (List ℕ) → List ℕ → List ℕ
cipher ks x =
    add_round_key (key_at ks 10)
    (shift_rows (sub_bytes (rounds ks 9 (add_round_key (key_at ks 0) x))))

-- a round of InvCipher
abbrev pub inv_round : List ℕ → List ℕ → List ℕ
inv_round k s = inv_mix_columns (add_round_key k (inv_sub_bytes (inv_shift_rows s)))

-- the rounds n to 1
unfoldable pub inv_rounds : List (List ℕ) → ℕ → List ℕ → List ℕ
inv_rounds ks zero s = s
inv_rounds ks (suc n) s = inv_rounds ks n (inv_round (key_at ks (suc n)) s)

-- InvCipher
unfoldable pub inv_cipher : List (List ℕ) → List ℕ → List ℕ
inv_cipher ks y =
    add_round_key (key_at ks 0)
    (inv_sub_bytes (inv_shift_rows (inv_rounds ks 9 (add_round_key (key_at ks 10) y))))

-- the first four rounds, of which each mixes
unfoldable pub cipher4 : List (List ℕ) → List ℕ → List ℕ
cipher4 ks x = rounds ks 4 (add_round_key (key_at ks 0) x)

-- ... undone
unfoldable pub inv_cipher4 : List (List ℕ) → List ℕ → List ℕ
inv_cipher4 ks y =
    let fourth = inv_mix_columns (add_round_key (key_at ks 4) y) in
    add_round_key (key_at ks 0) (inv_sub_bytes (inv_shift_rows (inv_rounds ks 3 fourth)))
