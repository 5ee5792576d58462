-- The same in the groups by which the code goes. Proofs tie them to InvCipher and to KeyExpansion,
-- and no contract of a public function cites them.
use Rattle.std.specs.Prelude.{ℕ, zero, suc, ◌+◌, ◌%◌, List, bit_xor}
use Rattle.field.specs.Substitution.{sub}
use Rattle.aes.specs.State.{byte_at, state, add_round_key, inv_sub_bytes, inv_shift_rows}
use Rattle.aes.specs.State.{inv_mix_columns}
use Rattle.aes.specs.Cipher.{key_at}

-- a whole round undone, but for its key
abbrev pub unround : List ℕ → List ℕ
unround s = inv_sub_bytes (inv_shift_rows (inv_mix_columns s))

-- the whole rounds n to 1 undone
unfoldable pub unrounds : List (List ℕ) → ℕ → List ℕ → List ℕ
unrounds ks zero s = s
unrounds ks (suc n) s = unrounds ks n (unround (add_round_key (key_at ks (suc n)) s))

-- the round constant goes to the first byte of a word
abbrev pub with_rcon : ℕ → ℕ → ℕ → ℕ
with_rcon zero rc t = bit_xor t rc
with_rcon (suc r) rc t = t

-- byte r of word c of the round key after k: four turns of the loop at once
abbrev pub next_byte : ℕ → List ℕ → ℕ → ℕ → ℕ
next_byte rc k r zero = bit_xor (byte_at k r 0) (with_rcon r rc (sub (byte_at k ((r + 1) % 4) 3)))
next_byte rc k r (suc c) = bit_xor (byte_at k r (suc c)) (next_byte rc k r c)

unfoldable pub next_key : ℕ → List ℕ → List ℕ
next_key rc k = state (next_byte rc k)
