-- One byte more for a digest of headers, and one block more for those of whole blocks.
use Rattle.std.proofs.Common.{◌≡◌, ℕ, ◌≤◌, List, [], ◌∷◌, ◌++◌, length, take, sym, ap, ◌∙◌, append_assoc, take_all, length-append, ◌<◌, arith}
use Rattle.block.specs.Bytes.{◌⊕◌}
use Rattle.forms.specs.Chained.{chained}
use Rattle.forms.specs.Double.{double}
use Rattle.forms.specs.Masked.{masked}
use Rattle.forms.proofs.Chains.{chained_next, chained_last}
use Rattle.forms.proofs.Sums.{masked_next, masked_last}

-- a byte for which there is room
pub byte_more : (h n : List ℕ) (b : ℕ) (r : List ℕ) → length h < 16 → n ≡ take 16 (h ++ b ∷ []) → n ++ r ≡ h ++ b ∷ r
byte_more h n b r l e = ap (λ z. z ++ r) (e ∙ take_all 16 (h ++ b ∷ []) (omega (arith, length-append h (b ∷ [])))) ∙ append_assoc h (b ∷ []) r

-- a byte behind a full block: the rule takes that block, and goes on with what the byte begins
pub taken : (fill : List ℕ → List ℕ) → ((p q : List ℕ) → length p ≡ 16 → 1 ≤ length q → fill (p ++ q) ≡ p ++ fill q)
    → (rule rule' : List ℕ → List ℕ) (h b m n : List ℕ) (v : ℕ) (r : List ℕ) → length h ≡ 16 → b ≡ h → m ≡ [] → n ≡ take 16 (m ++ v ∷ [])
    → rule' (fill (v ∷ r)) ≡ rule (b ++ fill (v ∷ r)) → rule' (fill (n ++ r)) ≡ rule (fill (h ++ v ∷ r))
taken fill front rule rule' h b m n v r l be me ne s =
    let k : n ≡ v ∷ [] = ne ∙ ap (λ z. take 16 (z ++ v ∷ [])) me in
    ap (λ z. rule' (fill (z ++ r))) k ∙ s ∙ ap rule (ap (λ z. z ++ fill (v ∷ r)) be ∙ sym (front h (v ∷ r) l (omega arith)))

-- a chained digest: the row of a block that others follow, and the last one
pub row_more : (e c : List ℕ → List ℕ) (x y b v x' y' B : List ℕ) → length b ≡ 16 → 16 ≤ length B → v ≡ c x → x' ≡ v ⊕ b → y' ≡ e x'
    → chained e c x' y' B ≡ chained e c x y (b ++ B)
row_more e c x y b v x' y' B l w ve xe ye = let s = chained_next e c x y b B l w in cc

pub row_last : (e c : List ℕ → List ℕ) (x y b v w t u o : List ℕ) → length b ≡ 16 → v ≡ c x → w ≡ v ⊕ b → t ≡ e w → u ≡ c y → o ≡ u ⊕ t
    → o ≡ chained e c x y b
row_last e c x y b v w t u o l ve we te ue oe = let s = chained_last e c x y b l in cc

-- a masked digest: a block that others follow, and the last one
pub sum_more : (e : List ℕ → List ℕ) (S L b S' L' B : List ℕ) → length b ≡ 16 → S' ≡ S ⊕ e (b ⊕ L) → L' ≡ double L
    → masked e S' L' B ≡ masked e S L (b ++ B)
sum_more e S L b S' L' B l se le = let s = masked_next e S L b B l in cc

pub sum_last : (e : List ℕ → List ℕ) (S L b S' o : List ℕ) → length b ≡ 16 → S' ≡ S ⊕ e (b ⊕ L) → o ≡ e S' → o ≡ masked e S L b
sum_last e S L b S' o l se oe = let s = masked_last e S L b l in cc
