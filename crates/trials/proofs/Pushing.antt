-- One byte more for the older digest, and its end.
use Rattle.std.proofs.Common.{◌≡◌, ℕ, ◌≤◌, List, [], ◌∷◌, ◌++◌, length, take, replicate, append-nil, arith}
use Rattle.block.specs.Bytes.{◌⊕◌}
use Rattle.forms.specs.Double.{double}
use Rattle.trial_forms.specs.Older.{last_mask, older}
use Rattle.trial_forms.proofs.Olders.{older_next, older_end}

pub added : (e : List ℕ → List ℕ) (S L h b x y S' L' : List ℕ) (v : ℕ) (r : List ℕ) → length h ≡ 16 → b ≡ h → x ≡ b ⊕ L → y ≡ e x → S' ≡ S ⊕ y → L' ≡ double L → older e S' L' (v ∷ r) ≡ older e S L (h ++ v ∷ r)
added e S L h b x y S' L' v r l be xe ye se le = let s = older_next e S L h (v ∷ r) l (omega arith) in cc

pub ended : (e : List ℕ → List ℕ) (S L h b m x z o : List ℕ) → length h ≤ 16 → b ≡ take 16 (h ++ 0x80 ∷ replicate 15 0) → m ≡ last_mask h L → x ≡ b ⊕ m → z ≡ S ⊕ x → o ≡ e z → o ≡ older e S L (h ++ [])
ended e S L h b m x z o l be me xe ze oe =
    let p : h ++ [] ≡ h = append-nil h in
    let s = older_end e S L h l in
    cc
