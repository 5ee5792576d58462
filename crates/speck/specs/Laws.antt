-- The laws: under every schedule, and so under every key, Speck takes blocks to blocks, and its
-- inverse undoes it, both ways round. And the vector that holds the definition to the paper.
use Rattle.std.specs.Prelude.{◌≡◌, ℕ, ◌<◌, ◌^◌, List, [], ◌∷◌, length, All}
use Rattle.block.specs.Bytes.{Block}
use Rattle.block.specs.Permutes.{Permutes}
use Rattle.speck.specs.Cipher.{schedule, enciphered, deciphered, speck, inv_speck}

-- 32 words of 64 bits
pub record IsSchedule (ks : List ℕ) : Type 0 where
  pub count : length ks ≡ 32
  pub words : All (λ k. k < 2 ^ 64) ks

abbrev pub CipherLaw : Type 0
CipherLaw = (ks : List ℕ) → IsSchedule ks → Permutes (enciphered ks) (deciphered ks)

-- a key expands to a schedule
abbrev pub ExpansionLaw : Type 0
ExpansionLaw = (key : List ℕ) → Block key → IsSchedule (schedule key)

abbrev pub SpeckLaw : Type 0
SpeckLaw = (key : List ℕ) → Block key → Permutes (speck key) (inv_speck key)

-- The vector of Speck128/128 that its designers published.
abbrev pub published_key : List ℕ
published_key =
    0x0f ∷ 0x0e ∷ 0x0d ∷ 0x0c ∷ 0x0b ∷ 0x0a ∷ 0x09 ∷ 0x08 ∷
    0x07 ∷ 0x06 ∷ 0x05 ∷ 0x04 ∷ 0x03 ∷ 0x02 ∷ 0x01 ∷ 0x00 ∷ []

abbrev pub published_plain : List ℕ
published_plain =
    0x6c ∷ 0x61 ∷ 0x76 ∷ 0x69 ∷ 0x75 ∷ 0x71 ∷ 0x65 ∷ 0x20 ∷
    0x74 ∷ 0x69 ∷ 0x20 ∷ 0x65 ∷ 0x64 ∷ 0x61 ∷ 0x6d ∷ 0x20 ∷ []

abbrev pub published_ciphered : List ℕ
published_ciphered =
    0xa6 ∷ 0x5d ∷ 0x98 ∷ 0x51 ∷ 0x79 ∷ 0x78 ∷ 0x32 ∷ 0x65 ∷
    0x78 ∷ 0x60 ∷ 0xfe ∷ 0xdf ∷ 0x5c ∷ 0x57 ∷ 0x0d ∷ 0x18 ∷ []

abbrev pub Published : Type 0
Published = speck published_key published_plain ≡ published_ciphered
