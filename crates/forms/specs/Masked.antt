-- The masked digest of whole blocks, over e, the permutation.
use Rattle.std.specs.Prelude.{ℕ, zero, suc, ◌/◌, List, length}
use Rattle.block.specs.Bytes.{block, ◌⊕◌}
use Rattle.forms.specs.Double.{double}

-- the mask of block i, counted from 0: L doubled i times
unfoldable pub mask : List ℕ → ℕ → List ℕ
mask L zero = L
mask L (suc i) = double (mask L i)

-- S, to which the first n blocks of B are added, each masked and enciphered
unfoldable pub summed : (e : List ℕ → List ℕ) (S L B : List ℕ) → ℕ → List ℕ
summed e S L B zero = S
summed e S L B (suc n) = summed e S L B n ⊕ e (block n B ⊕ mask L n)

-- the sum over all blocks, enciphered
unfoldable pub masked : (e : List ℕ → List ℕ) (S L B : List ℕ) → List ℕ
masked e S L B = e (summed e S L B (length B / 16))
