-- The mirror suite, for trials: no cipher, the key is read and not used.
use Rattle.std.specs.Prelude.{ℕ, List, reverse}
use Rattle.poet.specs.Functions.{Functions}
use Rattle.forms.specs.Filling.{filled}
use Rattle.forms.specs.Keyed.{chained_by}

-- E and D reverse the sixteen bytes, and F returns its block.
abbrev pub mirror : List ℕ → Functions
mirror key = chained_by reverse reverse (λ b. b) filled
