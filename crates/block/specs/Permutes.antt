-- A permutation of the blocks and its inverse.
use Rattle.std.specs.Prelude.{◌≡◌, ℕ, List}
use Rattle.block.specs.Bytes.{Block}

-- e and d take blocks to blocks and undo one another
pub record Permutes (e d : List ℕ → List ℕ) : Type 0 where
  pub dec_enc : (b : List ℕ) → Block b → d (e b) ≡ b
  pub enc_dec : (b : List ℕ) → Block b → e (d b) ≡ b
  pub enc_block : (b : List ℕ) → Block b → Block (e b)
  pub dec_block : (b : List ℕ) → Block b → Block (d b)
