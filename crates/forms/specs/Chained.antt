-- The chained digest of whole blocks, over e, the permutation, and c, the chaining hash.
use Rattle.std.specs.Prelude.{ℕ, zero, suc, ◌-◌, ◌/◌, List, length}
use Rattle.block.specs.Bytes.{block, ◌⊕◌}

-- the two sequences over the blocks of B, from x and y: X_i = c X_(i-1) ⊕ B_i and Y_i = e X_i
unfoldable pub chain_x : (c : List ℕ → List ℕ) (x B : List ℕ) → ℕ → List ℕ
chain_x c x B zero = x
chain_x c x B (suc i) = c (chain_x c x B i) ⊕ block i B

unfoldable pub chain_y : (e c : List ℕ → List ℕ) (x y B : List ℕ) → ℕ → List ℕ
chain_y e c x y B zero = y
chain_y e c x y B (suc i) = e (chain_x c x B (suc i))

-- with h blocks: c Y_(h-1) ⊕ Y_h
unfoldable pub chained : (e c : List ℕ → List ℕ) (x y B : List ℕ) → List ℕ
chained e c x y B = c (chain_y e c x y B (length B / 16 - 1)) ⊕ chain_y e c x y B (length B / 16)
