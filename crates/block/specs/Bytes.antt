-- Bytes, blocks and exclusive or.
use Rattle.std.specs.Prelude.{◌≡◌, ℕ, ◌*◌, ◌<◌, List, [], ◌∷◌, length, take, drop, bit_xor}

infixl 66 ◌⊕◌
-- every number is below 256
unfoldable pub Bytes : List ℕ → Type 0
Bytes [] = Unit {0}
Bytes (x ∷ xs) = (x < 256) × Bytes xs

-- sixteen bytes
pub record Block (b : List ℕ) : Type 0 where
  pub long : length b ≡ 16
  pub bytes : Bytes b

-- block number i of a list of bytes, counted from 0
abbrev pub block : ℕ → List ℕ → List ℕ
block i m = take 16 (drop (16 * i) m)

-- exclusive or, byte by byte; as long as the first list, whose bytes past the second's end stay
unfoldable pub ◌⊕◌ : List ℕ → List ℕ → List ℕ
[] ⊕ b = []
(x ∷ a) ⊕ [] = x ∷ a
(x ∷ a) ⊕ (y ∷ b) = bit_xor x y ∷ (a ⊕ b)
