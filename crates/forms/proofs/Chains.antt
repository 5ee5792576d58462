-- The chained digest goes on block by block.
use Rattle.std.specs.Prelude.{◌≡◌, ℕ, zero, suc, ◌+◌, ◌-◌, ◌*◌, ◌/◌, ◌≤◌, List, ◌++◌, length, take, drop}
use Rattle.std.proofs.Math.Path.{ap, ap₂}
use Rattle.std.proofs.Common.{sym, ◌∙◌, arith, length-append, drop-drop, drop_at, take_at, take_all}
use Rattle.block.specs.Bytes.{Bytes, Block, block, ◌⊕◌}
use Rattle.poet.proofs.Rows.{block_block}
use Rattle.block.proofs.Xors.{block_xor}
use Rattle.forms.specs.Chained.{chain_x, chain_y, chained}

pub block_first : (p B : List ℕ) → length p ≡ 16 → block 0 (p ++ B) ≡ p
block_first p B l = take_at p B 16 l

pub block_next : (p B : List ℕ) (i : ℕ) → length p ≡ 16 → block (suc i) (p ++ B) ≡ block i B
block_next p B i l =
    let j : 16 * suc i ≡ 16 + 16 * i = omega arith in
    ap (λ n. take 16 (drop n (p ++ B))) j ∙ ap (take 16) (sym (drop-drop (16 * i) 16 (p ++ B)) ∙ ap (drop (16 * i)) (drop_at p B 16 l))

module _ (e c : List ℕ → List ℕ) (x p B : List ℕ) (l : length p ≡ 16) where
  X_next : (i : ℕ) → chain_x c x (p ++ B) (suc i) ≡ chain_x c (c x ⊕ p) B i
  unfolding chain_x
  X_next zero = ap (λ b. c x ⊕ b) (block_first p B l)
  X_next (suc i) = ap₂ (λ u v. c u ⊕ v) (X_next i) (block_next p B i l)

  Y_next : (y : List ℕ) (i : ℕ) → chain_y e c x y (p ++ B) (suc i) ≡ chain_y e c (c x ⊕ p) (e (c x ⊕ p)) B i
  unfolding chain_x chain_y
  Y_next y zero = ap e (X_next 0)
  Y_next y (suc i) = ap e (X_next (suc i))

-- a block that more blocks follow
pub chained_next : (e c : List ℕ → List ℕ) (x y p B : List ℕ) → length p ≡ 16 → 16 ≤ length B → chained e c x y (p ++ B) ≡ chained e c (c x ⊕ p) (e (c x ⊕ p)) B
unfolding chained
chained_next e c x y p B l w =
    let n = length-append p B in
    let h : length (p ++ B) / 16 ≡ suc (length B / 16) = omega arith in
    let k : length (p ++ B) / 16 - 1 ≡ suc (length B / 16 - 1) = omega arith in
    rw (k, h, Y_next e c x p B l y (length B / 16 - 1), Y_next e c x p B l y (length B / 16))

-- the last block
pub chained_last : (e c : List ℕ → List ℕ) (x y p : List ℕ) → length p ≡ 16 → chained e c x y p ≡ c y ⊕ e (c x ⊕ p)
unfolding chained chain_x chain_y
chained_last e c x y p l = rw l (ap (λ b. c y ⊕ e (c x ⊕ b)) (take_all 16 p (omega arith)))

-- blocks in, a block out
module _ (e c : List ℕ → List ℕ) (eb : (b : List ℕ) → Block b → Block (e b)) (cb : (b : List ℕ) → Block b → Block (c b)) (x y : List ℕ) (xb : Block x) (yb : Block y) (B : List ℕ) (bb : Bytes B) where
  X_block : (i : ℕ) → 16 * i ≤ length B → Block (chain_x c x B i)
  unfolding chain_x
  X_block zero l = xb
  X_block (suc i) l = block_xor _ _ (cb _ (X_block i (omega arith))) (block_block i B (omega arith) bb)

  Y_block : (i : ℕ) → 16 * i ≤ length B → Block (chain_y e c x y B i)
  unfolding chain_y
  Y_block zero l = yb
  Y_block (suc i) l = eb _ (X_block (suc i) l)

pub chained_block : (e c : List ℕ → List ℕ) → ((b : List ℕ) → Block b → Block (e b)) → ((b : List ℕ) → Block b → Block (c b)) → (x y : List ℕ) → Block x → Block y → (B : List ℕ) → Bytes B → Block (chained e c x y B)
unfolding chained
chained_block e c eb cb x y xb yb B bb = block_xor _ _ (cb _ (Y_block e c eb cb x y xb yb B bb (length B / 16 - 1) (omega arith))) (Y_block e c eb cb x y xb yb B bb (length B / 16) (omega arith))
