-- Speck128/128: 32 rounds on a block of two words of 64 bits, under a key of two words.
-- `rotate_left w64 x n` is the word x rotated left by n bits; `bit_xor` is exclusive or.
use Rattle.std.specs.Prelude.{ℕ, zero, suc, ◌+◌, ◌-◌, ◌%◌, ◌^◌, List, [], ◌∷◌, ◌++◌, take, drop}
use Rattle.std.specs.Prelude.{map, bit_xor}
use Rattle.std.specs.List.{range_with_len}
use Rattle.std.specs.Int.{w64, rotate_left, rotate_right, from_be_bytes, to_be_bytes}
use Rattle.speck.specs.declared.words.Words.{Words}

-- A block is the words x and y: x first, and each with its most significant byte first.
unfoldable pub words : List ℕ → Words
words b = record { x = from_be_bytes w64 (take 8 b); y = from_be_bytes w64 (drop 8 b) }

unfoldable pub bytes : Words → List ℕ
bytes w = to_be_bytes w64 w.x ++ to_be_bytes w64 w.y

-- A round under the round key k replaces x by ((x rotated right by 8) + y modulo 2^64) ⊕ k,
abbrev pub next_x : ℕ → Words → ℕ
next_x k w = bit_xor ((rotate_right w64 w.x 8 + w.y) % 2 ^ 64) k

-- and then y by (y rotated left by 3) ⊕ x, with the new x.
abbrev pub next_y : ℕ → Words → ℕ
next_y k w = bit_xor (rotate_left w64 w.y 3) (next_x k w)

unfoldable pub round : ℕ → Words → Words
round k w = record { x = next_x k w; y = next_y k w }

-- The words of the key, l and k.
pub record KeyWords : Type 0 where
  pub l : ℕ
  pub k : ℕ

-- Round i uses k. After it l becomes ((l rotated right by 8) + k modulo 2^64) ⊕ i,
abbrev pub next_l : ℕ → KeyWords → ℕ
next_l i s = bit_xor ((rotate_right w64 s.l 8 + s.k) % 2 ^ 64) i

-- and then k becomes (k rotated left by 3) ⊕ l, with the new l.
abbrev pub next_k : ℕ → KeyWords → ℕ
next_k i s = bit_xor (rotate_left w64 s.k 3) (next_l i s)

-- l and k in round i. The key has l first, then k.
unfoldable pub key_at : List ℕ → ℕ → KeyWords
key_at key zero = record { l = (words key).x; k = (words key).y }
key_at key (suc i) = record { l = next_l i (key_at key i); k = next_k i (key_at key i) }

-- the round keys: k in each of the rounds 0 to 31
unfoldable pub schedule : List ℕ → List ℕ
schedule key = map (λ i. (key_at key i).k) (range_with_len 0 32)

-- the rounds under a list of round keys, from the first to the last
unfoldable pub rounds : List ℕ → Words → Words
rounds [] w = w
rounds (k ∷ ks) w = rounds ks (round k w)

-- A round undone: y becomes (y ⊕ x) rotated right by 3,
abbrev pub former_y : Words → ℕ
former_y w = rotate_right w64 (bit_xor w.y w.x) 3

-- and then x becomes (x ⊕ k) - y modulo 2^64, rotated left by 8, with the new y.
abbrev pub former_x : ℕ → Words → ℕ
former_x k w = rotate_left w64 ((bit_xor w.x k + (2 ^ 64 - former_y w)) % 2 ^ 64) 8

unfoldable pub unround : ℕ → Words → Words
unround k w = record { x = former_x k w; y = former_y w }

-- the rounds undone, from the last to the first
unfoldable pub unrounds : List ℕ → Words → Words
unrounds [] w = w
unrounds (k ∷ ks) w = unround k (unrounds ks w)

-- a block enciphered and deciphered under a list of round keys
abbrev pub enciphered : List ℕ → List ℕ → List ℕ
enciphered ks b = bytes (rounds ks (words b))

abbrev pub deciphered : List ℕ → List ℕ → List ℕ
deciphered ks b = bytes (unrounds ks (words b))

-- Speck128/128 and its inverse under a key
abbrev pub speck : List ℕ → List ℕ → List ℕ
speck key = enciphered (schedule key)

abbrev pub inv_speck : List ℕ → List ℕ → List ℕ
inv_speck key = deciphered (schedule key)
