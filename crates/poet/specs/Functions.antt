-- What the mode is built on: the five functions of a suite under one key.
use Rattle.std.specs.Prelude.{ℕ, ◌^◌, ◌<◌, List}
use Rattle.block.specs.Permutes.{Permutes}
use Rattle.block.specs.Bytes.{Bytes, Block}

pub record Functions : Type 0 where
  -- E and D, a permutation of the blocks and its inverse
  pub enc : List ℕ → List ℕ
  pub dec : List ℕ → List ℕ
  -- F, the chaining hash, from block to block
  pub chain : List ℕ → List ℕ
  -- N, a number as a block
  pub num : ℕ → List ℕ
  -- Dig, the header digest, from any bytes to a block
  pub dig : List ℕ → List ℕ

-- what every suite keeps under every key
pub record Lawful (f : Functions) : Type 0 where
  pub permutes : Permutes f.enc f.dec
  pub chain_block : (b : List ℕ) → Block b → Block (f.chain b)
  pub num_block : (n : ℕ) → n < 2 ^ 64 → Block (f.num n)
  pub dig_block : (h : List ℕ) → Bytes h → Block (f.dig h)
