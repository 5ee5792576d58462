-- KeyExpansion of FIPS 197 for a key of sixteen bytes: the loop that makes the words w[0] to w[43],
-- and AES-128 under a key.
use Rattle.std.specs.Prelude.{ℕ, zero, suc, ◌+◌, ◌-◌, ◌*◌, ◌/◌, ◌%◌, if◌then◌else◌, List, [], ◌∷◌}
use Rattle.std.specs.Prelude.{◌++◌}
use Rattle.std.specs.Prelude.{◌==◌, bit_xor, slice_index, slice_index_or}
use Rattle.field.specs.Field.{xtime}
use Rattle.field.specs.Substitution.{sub}
use Rattle.aes.specs.State.{byte_at}
use Rattle.aes.specs.Cipher.{cipher, inv_cipher, cipher4, inv_cipher4}

-- the word with the bytes f 0 to f 3
abbrev pub word : (ℕ → ℕ) → List ℕ
word f = f 0 ∷ f 1 ∷ f 2 ∷ f 3 ∷ []

-- w[i]
abbrev pub word_at : List (List ℕ) → ℕ → List ℕ
word_at w i = slice_index_or w i []

abbrev pub xor_word : List ℕ → List ℕ → List ℕ
xor_word a b = word (λ r. bit_xor (slice_index a r) (slice_index b r))

abbrev pub rot_word : List ℕ → List ℕ
rot_word a = word (λ r. slice_index a ((r + 1) % 4))

abbrev pub sub_word : List ℕ → List ℕ
sub_word a = word (λ r. sub (slice_index a r))

-- x to the n, in the field
unfoldable pub power : ℕ → ℕ
power zero = 1
power (suc n) = xtime (power n)

-- Rcon[j], for j from 1
abbrev pub rcon : ℕ → List ℕ
rcon j = power (j - 1) ∷ 0 ∷ 0 ∷ 0 ∷ []

-- temp, from i and w[i-1]
unfoldable pub temp : ℕ → List ℕ → List ℕ
temp i before =
    if i % 4 == 0 then xor_word (sub_word (rot_word before)) (rcon (i / 4)) else before

-- a turn of the loop: w[i], from the words before it
unfoldable pub turn : ℕ → List (List ℕ) → List ℕ
turn i w = xor_word (word_at w (i - 4)) (temp i (word_at w (i - 1)))

-- the words after n turns: the four of the key, and n more
unfoldable pub expanded : List ℕ → ℕ → List (List ℕ)
expanded key zero =
    word (λ r. byte_at key r 0) ∷ word (λ r. byte_at key r 1) ∷
    word (λ r. byte_at key r 2) ∷ word (λ r. byte_at key r 3) ∷ []
expanded key (suc n) = expanded key n ++ (turn (n + 4) (expanded key n) ∷ [])

-- round key j: the words w[4j] to w[4j+3]
abbrev pub round_key : List (List ℕ) → ℕ → List ℕ
round_key w j =
    word_at w (4 * j) ++ word_at w (4 * j + 1) ++ word_at w (4 * j + 2) ++ word_at w (4 * j + 3)

-- the n lists f 0, f 1, ..
abbrev pub listed : ℕ → (ℕ → List ℕ) → List (List ℕ)
listed zero f = []
listed (suc n) f = f 0 ∷ listed n (λ i. f (suc i))

-- the eleven round keys of a key, from all 44 words
unfoldable pub schedule : List ℕ → List (List ℕ)
schedule key = listed 11 (round_key (expanded key 40))

-- AES-128 and its inverse under a key
abbrev pub aes : List ℕ → List ℕ → List ℕ
aes key = cipher (schedule key)

abbrev pub inv_aes : List ℕ → List ℕ → List ℕ
inv_aes key = inv_cipher (schedule key)

-- ... and with four rounds
abbrev pub aes4 : List ℕ → List ℕ → List ℕ
aes4 key = cipher4 (schedule key)

abbrev pub inv_aes4 : List ℕ → List ℕ → List ℕ
inv_aes4 key = inv_cipher4 (schedule key)
