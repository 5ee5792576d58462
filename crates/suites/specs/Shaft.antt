-- The shaft suites: one block cipher under two keys, both made from the delivered key.
use Rattle.std.specs.Prelude.{ℕ, List}
use Rattle.poet.specs.Functions.{Functions}
use Rattle.aes.specs.Expansion.{aes, inv_aes}
use Rattle.speck.specs.Cipher.{speck, inv_speck}
use Rattle.forms.specs.Filling.{filled, padded}
use Rattle.forms.specs.Keyed.{keyed_by}

-- AES-128, and a header of whole blocks stays as it is
abbrev pub shaft : List ℕ → Functions
shaft = keyed_by aes inv_aes filled

-- AES-128, and every header is padded, so no two are filled alike
abbrev pub shaft_padded : List ℕ → Functions
shaft_padded = keyed_by aes inv_aes padded

-- Speck128/128, and every header is padded
abbrev pub shaft_speck : List ℕ → Functions
shaft_speck = keyed_by speck inv_speck padded
