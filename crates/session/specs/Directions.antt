-- The two ways through the rows.
use Rattle.std.specs.Prelude.{ℕ, List}
use Rattle.poet.specs.Rows.{State, turned}

pub data Direction : Type 0 where
  sealing : Direction
  opening : Direction

-- the function of a row: E or D
abbrev pub picks : Direction → (e d : List ℕ → List ℕ) → List ℕ → List ℕ
picks sealing e d = e
picks opening e d = d

-- where the rows begin: sealing takes blocks in at X, and opening at Y
abbrev pub turns : Direction → State → State
turns sealing s = s
turns opening s = turned s
