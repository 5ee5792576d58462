-- Doubling: a block comes of a block, and it is by x.
use Rattle.std.specs.Prelude.{◌≡◌, ℕ, zero, suc, ◌+◌, ◌*◌, ◌/◌, ◌%◌, ◌<◌, List, [], ◌∷◌, length, get_or, bit_xor, refl}
use Rattle.std.proofs.Math.Path.{ap}
use Rattle.std.proofs.Common.{set, sym, ◌∙◌, arith, lit<}
use Rattle.std.proofs.lemmas.List.{ext_get_or}
use Rattle.block.specs.Bytes.{Bytes, Block, ◌⊕◌}
use Rattle.block.proofs.Xors.{bytes_xor, length_xor}
use Rattle.forms.specs.Double.{moved, double}

pub length_moved : (c : ℕ) (b : List ℕ) → length (moved c b) ≡ length b
unfolding moved
length_moved c [] = refl
length_moved c (x ∷ b) = ap suc (length_moved (x % 2) b)

bytes_moved : (c : ℕ) (b : List ℕ) → c < 2 → Bytes b → Bytes (moved c b)
unfolding moved Bytes
bytes_moved c [] l p = tt
bytes_moved c (x ∷ b) l p = (let q = p.0 in omega arith, bytes_moved (x % 2) b (omega arith) p.1)

pub moved_first : (c : ℕ) (b : List ℕ) → 0 < length b → get_or (moved c b) 0 0 ≡ 128 * c + get_or b 0 0 / 2
unfolding moved
moved_first c [] l = absurd (omega arith)
moved_first c (x ∷ b) l = refl

pub moved_later : (c : ℕ) (b : List ℕ) (k : ℕ) → suc k < length b → get_or (moved c b) (suc k) 0 ≡ 128 * (get_or b k 0 % 2) + get_or b (suc k) 0 / 2
unfolding moved
moved_later c [] k l = absurd (omega arith)
moved_later c (x ∷ b) zero l = moved_first (x % 2) b (omega arith)
moved_later c (x ∷ b) (suc k) l = moved_later (x % 2) b k (omega arith)

pub moved_at : (b : List ℕ) (i k : ℕ) → i ≡ suc k → i < length b → 128 * (get_or b k 0 % 2) + get_or b i 0 / 2 ≡ get_or (moved 0 b) i 0
moved_at b i k e l = rw e (sym (moved_later 0 b k (omega arith)))

none_added : (a : List ℕ) → a ⊕ [] ≡ a
unfolding ◌⊕◌
none_added [] = refl
none_added (x ∷ a) = refl

-- the first byte alone
pub added_first : (r : List ℕ) (v : ℕ) → 0 < length r → set r 0 (bit_xor (get_or r 0 0) v) ≡ r ⊕ (v ∷ [])
unfolding ◌⊕◌
added_first [] v l = absurd (omega arith)
added_first (x ∷ r) v l = ap (λ a. bit_xor x v ∷ a) (sym (none_added r))

pub doubled : (b r : List ℕ) → length b ≡ 16 → length r ≡ 16 → ((i : ℕ) → i < 16 → get_or r i 0 ≡ get_or (moved 0 b) i 0) → set r 0 (bit_xor (get_or r 0 0) (0xE1 * (get_or b 15 0 % 2))) ≡ double b
unfolding double
doubled b r lb lr h =
    let e : r ≡ moved 0 b = ext_get_or 0 r (moved 0 b) (lr ∙ sym (length_moved 0 b ∙ lb)) (λ i l. h i (omega arith)) in
    added_first r (0xE1 * (get_or b 15 0 % 2)) (omega arith) ∙ ap (λ a. a ⊕ ((0xE1 * (get_or b 15 0 % 2)) ∷ [])) e

low_bytes : (b : List ℕ) → Bytes ((0xE1 * (get_or b 15 0 % 2)) ∷ [])
unfolding Bytes
low_bytes b = (omega arith, tt)

pub double_block : (b : List ℕ) → Block b → Block (double b)
unfolding double
double_block b p = record {
  long = length_xor _ _ ∙ length_moved 0 b ∙ p.long;
  bytes = bytes_xor _ _ (bytes_moved 0 b (lit< tt) p.bytes) (low_bytes b);
}
