-- The suites that no list has are lawful.
use Rattle.std.specs.Prelude.{List, ℕ}
use Rattle.block.specs.Bytes.{Block}
use Rattle.poet.specs.Functions.{Lawful}
use Rattle.forms.specs.Keyed.{Cipher}
use Rattle.forms.specs.Laws.{Hashes, Inverts}
use Rattle.trial_forms.specs.Flipped.{flipped}
use Rattle.trial_forms.specs.Older.{older_suite}

-- The suite with no cipher is lawful.
abbrev pub FlippedLaw : Type 0
FlippedLaw = (key : List ℕ) → Block key → Lawful (flipped key)

-- So is every suite with the older digest, whatever the cipher and the hash.
abbrev pub OlderLaw : Type 0
OlderLaw = (cipher inverse : Cipher) → Inverts cipher inverse → (hash : Cipher) → Hashes hash
    → (key : List ℕ) → Block key → Lawful (older_suite cipher inverse hash key)
