-- The masked digest goes on block by block.
use Rattle.std.specs.Prelude.{◌≡◌, ℕ, zero, suc, ◌*◌, ◌/◌, ◌≤◌, List, ◌++◌, length, refl}
use Rattle.std.proofs.Math.Path.{ap, ap₂}
use Rattle.std.proofs.Common.{arith, length-append, take_all}
use Rattle.block.specs.Bytes.{Bytes, Block, ◌⊕◌}
use Rattle.poet.proofs.Rows.{block_block}
use Rattle.block.proofs.Xors.{block_xor}
use Rattle.forms.specs.Double.{double}
use Rattle.forms.proofs.Doubles.{double_block}
use Rattle.forms.specs.Masked.{mask, summed, masked}
use Rattle.forms.proofs.Chains.{block_first, block_next}

pub mask_next : (L : List ℕ) (i : ℕ) → mask L (suc i) ≡ mask (double L) i
unfolding mask
mask_next L zero = refl
mask_next L (suc i) = ap double (mask_next L i)

module _ (e : List ℕ → List ℕ) (S L p B : List ℕ) (l : length p ≡ 16) where
  pub sum_next : (n : ℕ) → summed e S L (p ++ B) (suc n) ≡ summed e (S ⊕ e (p ⊕ L)) (double L) B n
  unfolding summed mask
  sum_next zero = ap (λ b. S ⊕ e (b ⊕ L)) (block_first p B l)
  sum_next (suc n) = ap₂ (λ s m. s ⊕ e m) (sum_next n) (ap₂ ◌⊕◌ (block_next p B n l) (mask_next L n))

-- a block in front
pub masked_next : (e : List ℕ → List ℕ) (S L p B : List ℕ) → length p ≡ 16 → masked e S L (p ++ B) ≡ masked e (S ⊕ e (p ⊕ L)) (double L) B
unfolding masked
masked_next e S L p B l =
    let n = length-append p B in
    let k : length (p ++ B) / 16 ≡ suc (length B / 16) = omega arith in
    rw k (ap e (sum_next e S L p B l (length B / 16)))

-- the last block
pub masked_last : (e : List ℕ → List ℕ) (S L p : List ℕ) → length p ≡ 16 → masked e S L p ≡ e (S ⊕ e (p ⊕ L))
unfolding masked summed mask
masked_last e S L p l = rw l (ap (λ b. e (S ⊕ e (b ⊕ L))) (take_all 16 p (omega arith)))

-- blocks in, a block out
pub mask_block : (L : List ℕ) → Block L → (i : ℕ) → Block (mask L i)
unfolding mask
mask_block L b zero = b
mask_block L b (suc i) = double_block (mask L i) (mask_block L b i)

module _ (e : List ℕ → List ℕ) (eb : (b : List ℕ) → Block b → Block (e b)) (S L : List ℕ) (sb : Block S) (lb : Block L) (B : List ℕ) (bb : Bytes B) where
  pub sum_block : (n : ℕ) → 16 * n ≤ length B → Block (summed e S L B n)
  unfolding summed
  sum_block zero l = sb
  sum_block (suc n) l = block_xor _ _ (sum_block n (omega arith)) (eb _ (block_xor _ _ (block_block n B (omega arith) bb) (mask_block L lb n)))

pub masked_block : (e : List ℕ → List ℕ) → ((b : List ℕ) → Block b → Block (e b)) → (S L : List ℕ) → Block S → Block L → (B : List ℕ) → Bytes B → Block (masked e S L B)
unfolding masked
masked_block e eb S L sb lb B bb = eb _ (sum_block e eb S L sb lb B bb (length B / 16) (omega arith))
