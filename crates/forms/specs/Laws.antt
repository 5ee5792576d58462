-- What holds of doubling, of rules of filling, and of suites made of one cipher.
use Rattle.std.specs.Prelude.{◌≡◌, ℕ, ◌<◌, ◌||◌, List, bit_xor, ◌==◌, if◌then◌else◌}
use Rattle.block.specs.Bytes.{Bytes, Block}
use Rattle.block.specs.Permutes.{Permutes}
use Rattle.poet.specs.Functions.{Lawful}
use Rattle.forms.specs.Double.{double, coefficient, before}
use Rattle.forms.specs.Keyed.{Cipher, keyed_by}
use Rattle.forms.specs.Submitted.{submitted_by}

-- Doubling is by x: each coefficient goes one place up, and the last one is added to those of 1, x,
-- x^2 and x^7, since x^128 is their sum.
abbrev pub DoubleLaw : Type 0
DoubleLaw = (b : List ℕ) → Block b → (i : ℕ) → i < 128
    → coefficient (double b) i
    ≡ bit_xor (before b i) (if i == 0 || i == 1 || i == 2 || i == 7 then coefficient b 127 else 0)

-- a cipher and its inverse, under every key
abbrev pub Inverts : (cipher inverse : Cipher) → Type 0
Inverts cipher inverse = (key : List ℕ) → Block key → Permutes (cipher key) (inverse key)

-- a block comes of a block, under every key
abbrev pub Hashes : (hash : Cipher) → Type 0
Hashes hash = (key b : List ℕ) → Block key → Block b → Block (hash key b)

-- bytes come of bytes
abbrev pub KeepsBytes : (fill : List ℕ → List ℕ) → Type 0
KeepsBytes fill = (H : List ℕ) → Bytes H → Bytes (fill H)

-- no two headers are filled alike, whatever their lengths
abbrev pub Injective : (fill : List ℕ → List ℕ) → Type 0
Injective fill = (H H' : List ℕ) → fill H ≡ fill H' → H ≡ H'

-- Every block cipher and every rule of filling make a lawful suite.
abbrev pub KeyedLaw : Type 0
KeyedLaw = (cipher inverse : Cipher) → Inverts cipher inverse
    → (fill : List ℕ → List ℕ) → KeepsBytes fill
    → (L : List ℕ) → Block L → Lawful (keyed_by cipher inverse fill L)

-- Every block cipher and every hash make a lawful suite in the submission's form, whatever bytes
-- stand before the header.
abbrev pub SubmittedLaw : Type 0
SubmittedLaw = (cipher inverse : Cipher) → Inverts cipher inverse
    → (hash : Cipher) → Hashes hash → (front : List ℕ) → Bytes front
    → (SK : List ℕ) → Block SK → Lawful (submitted_by cipher inverse hash front SK)
