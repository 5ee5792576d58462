-- The laws: under every schedule, and so under every key, each form takes blocks to blocks, and its
-- inverse undoes it, both ways round.
use Rattle.std.specs.Prelude.{ℕ, List}
use Rattle.block.specs.Bytes.{Block}
use Rattle.block.specs.Permutes.{Permutes}
use Rattle.aes.specs.Cipher.{IsSchedule, cipher, inv_cipher, cipher4, inv_cipher4}
use Rattle.aes.specs.Expansion.{schedule, aes, inv_aes, aes4, inv_aes4}

-- ten rounds under a schedule
abbrev pub CipherLaw : Type 0
CipherLaw = (ks : List (List ℕ)) → IsSchedule ks → Permutes (cipher ks) (inv_cipher ks)

-- four rounds under a schedule
abbrev pub Cipher4Law : Type 0
Cipher4Law = (ks : List (List ℕ)) → IsSchedule ks → Permutes (cipher4 ks) (inv_cipher4 ks)

-- a key expands to a schedule
abbrev pub ExpansionLaw : Type 0
ExpansionLaw = (key : List ℕ) → Block key → IsSchedule (schedule key)

-- ten rounds under a key
abbrev pub AesLaw : Type 0
AesLaw = (key : List ℕ) → Block key → Permutes (aes key) (inv_aes key)

-- four rounds under a key
abbrev pub Aes4Law : Type 0
Aes4Law = (key : List ℕ) → Block key → Permutes (aes4 key) (inv_aes4 key)
