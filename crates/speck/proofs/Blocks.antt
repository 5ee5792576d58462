-- A block is its two words.
use Rattle.std.proofs.Common.{◌≡◌, ℕ, zero, suc, ◌/◌, ◌^◌, ◌<◌, List, [], ◌∷◌, ◌++◌, get_or, take, drop, ap₂, ◌∙◌, refl, arith, length-drop, length-take-le}
use Rattle.std.specs.Int.{w64, byte_at, bytes_high_first, from_be_bytes, to_be_bytes}
use Rattle.std.proofs.lemmas.Nat.{mod_below, be_bytes_8, from_be_bytes-to_be_bytes_8}
use Rattle.std.proofs.lemmas.List.{take-append-drop}
use Rattle.block.specs.Bytes.{Bytes, Block}
use Rattle.block.proofs.Xors.{bytes_take, bytes_drop, bytes_append}
use Rattle.speck.specs.declared.words.Words.{Words}
use Rattle.speck.specs.Cipher.{words, bytes}
use Rattle.speck.proofs.Undone.{Fit}

byte_below : (b : List ℕ) → Bytes b → (i : ℕ) → get_or b i 0 < 256
unfolding Bytes
byte_below [] p i = omega arith
byte_below (x ∷ b) p zero = p.0
byte_below (x ∷ b) p (suc i) = byte_below b p.1 i

word_below : (b : List ℕ) → ((i : ℕ) → get_or b i 0 < 256) → from_be_bytes w64 b < 2 ^ 64
word_below b h = omega (arith, h 0, h 1, h 2, h 3, h 4, h 5, h 6, h 7)

pub words_fit : (b : List ℕ) → Block b → Fit (words b)
unfolding words
words_fit b p = record {
  x = word_below (take 8 b) (byte_below (take 8 b) (bytes_take 8 b p.bytes));
  y = word_below (drop 8 b) (byte_below (drop 8 b) (bytes_drop 8 b p.bytes));
}

byte_at_below : (k n : ℕ) → byte_at k n < 256
byte_at_below zero n = omega arith
byte_at_below (suc k) n = mod_below (n / 256 ^ suc k) 256 (omega arith)

word_bytes : (k n : ℕ) → Bytes (bytes_high_first k n)
unfolding Bytes
word_bytes zero n = tt
word_bytes (suc k) n = (byte_at_below k n, word_bytes k n)

pub bytes_block : (w : Words) → Block (bytes w)
unfolding bytes
bytes_block w = record { long = refl; bytes = bytes_append (to_be_bytes w64 w.x) (to_be_bytes w64 w.y) (word_bytes 8 w.x) (word_bytes 8 w.y) }

pub words_bytes : (w : Words) → Fit w → words (bytes w) ≡ w
unfolding words bytes
words_bytes w f = λ i. record { x = from_be_bytes-to_be_bytes_8 w.x f.x i; y = from_be_bytes-to_be_bytes_8 w.y f.y i }

pub bytes_words : (b : List ℕ) → Block b → bytes (words b) ≡ b
unfolding words bytes
bytes_words b p =
    ap₂ ◌++◌
    (be_bytes_8 (take 8 b) (from_be_bytes w64 (take 8 b)) (length-take-le 8 b (omega (arith, p.long))) (byte_below (take 8 b) (bytes_take 8 b p.bytes)) refl)
    (be_bytes_8 (drop 8 b) (from_be_bytes w64 (drop 8 b)) (length-drop 8 b ∙ omega (arith, p.long)) (byte_below (drop 8 b) (bytes_drop 8 b p.bytes)) refl)
    ∙ take-append-drop 8 b
