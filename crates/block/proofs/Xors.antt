-- Lists of bytes, and exclusive or.
use Rattle.std.proofs.Common.{◌≡◌, ℕ, zero, suc, ◌<◌, List, [], ◌∷◌, ◌++◌, length, get_or, take, drop, replicate, sym, refl, ap, ◌∙◌, arith}
use lib.Bits.{bit_xor, xor_assoc, xor_self, xor_zero_r, xor_lt, xor_comm}
use native.Mathlib.Nat.{suc_inj}
use Rattle.block.specs.Bytes.{Bytes, Block, ◌⊕◌}

pub bytes_nil : Bytes []
unfolding Bytes
bytes_nil = tt

pub bytes_append : (a b : List ℕ) → Bytes a → Bytes b → Bytes (a ++ b)
unfolding Bytes
bytes_append [] b p q = q
bytes_append (x ∷ a) b p q = (p.0, bytes_append a b p.1 q)

pub bytes_take : (n : ℕ) (a : List ℕ) → Bytes a → Bytes (take n a)
unfolding Bytes
bytes_take zero a p = tt
bytes_take (suc n) [] p = tt
bytes_take (suc n) (x ∷ a) p = (p.0, bytes_take n a p.1)

pub bytes_drop : (n : ℕ) (a : List ℕ) → Bytes a → Bytes (drop n a)
unfolding Bytes
bytes_drop zero a p = p
bytes_drop (suc n) [] p = tt
bytes_drop (suc n) (x ∷ a) p = bytes_drop n a p.1

pub bytes_xor : (a b : List ℕ) → Bytes a → Bytes b → Bytes (a ⊕ b)
unfolding Bytes ◌⊕◌
bytes_xor [] b p q = tt
bytes_xor (x ∷ a) [] p q = p
bytes_xor (x ∷ a) (y ∷ b) p q = (xor_lt 8 x y p.0 q.0, bytes_xor a b p.1 q.1)

-- what is below 256 at every place is bytes
pub bytes_from : (a : List ℕ) → ((k : ℕ) → k < length a → get_or a k 0 < 256) → Bytes a
unfolding Bytes
bytes_from [] h = tt
bytes_from (x ∷ a) h = (h 0 (omega arith), bytes_from a (λ k l. h (suc k) (omega arith)))

-- and the other way
pub bytes_at : (a : List ℕ) → Bytes a → (k : ℕ) → k < length a → get_or a k 0 < 256
unfolding Bytes
bytes_at [] b k l = absurd (omega arith)
bytes_at (x ∷ a) b zero l = b.0
bytes_at (x ∷ a) b (suc k) l = bytes_at a b.1 k (omega arith)

pub bytes_replicate : (n y : ℕ) → y < 256 → Bytes (replicate n y)
unfolding Bytes
bytes_replicate zero y h = tt
bytes_replicate (suc n) y h = (h, bytes_replicate n y h)

pub length_xor : (a b : List ℕ) → length (a ⊕ b) ≡ length a
unfolding ◌⊕◌
length_xor [] b = refl
length_xor (x ∷ a) [] = refl
length_xor (x ∷ a) (y ∷ b) = ap suc (length_xor a b)

byte_twice : (x y : ℕ) → bit_xor (bit_xor x y) y ≡ x
byte_twice x y = xor_assoc x y y ∙ ap (bit_xor x) (xor_self y) ∙ xor_zero_r x

pub xor_twice : (a b : List ℕ) → a ⊕ b ⊕ b ≡ a
unfolding ◌⊕◌
xor_twice [] b = refl
xor_twice (x ∷ a) [] = refl
xor_twice (x ∷ a) (y ∷ b) = rw (byte_twice x y, xor_twice a b)

pub block_xor : (a b : List ℕ) → Block a → Block b → Block (a ⊕ b)
block_xor a b p q = record { long = length_xor a b ∙ p.long; bytes = bytes_xor a b p.bytes q.bytes }

xor_comm_list : (a b : List ℕ) → length a ≡ length b → a ⊕ b ≡ b ⊕ a
unfolding ◌⊕◌
xor_comm_list [] [] e = refl
xor_comm_list [] (y ∷ b) e = absurd (omega arith)
xor_comm_list (x ∷ a) [] e = absurd (omega arith)
xor_comm_list (x ∷ a) (y ∷ b) e = rw (xor_comm x y, xor_comm_list a b (suc_inj e))

pub block_comm : (a b : List ℕ) → Block a → Block b → a ⊕ b ≡ b ⊕ a
block_comm a b p q = xor_comm_list a b (p.long ∙ sym q.long)

byte_swap : (x y z : ℕ) → bit_xor (bit_xor x y) z ≡ bit_xor (bit_xor x z) y
byte_swap x y z = xor_assoc x y z ∙ ap (bit_xor x) (xor_comm y z) ∙ sym (xor_assoc x z y)

pub xor_swap : (a b c : List ℕ) → a ⊕ b ⊕ c ≡ a ⊕ c ⊕ b
unfolding ◌⊕◌
xor_swap [] b c = refl
xor_swap (x ∷ a) [] [] = refl
xor_swap (x ∷ a) [] (z ∷ c) = refl
xor_swap (x ∷ a) (y ∷ b) [] = refl
xor_swap (x ∷ a) (y ∷ b) (z ∷ c) = rw (byte_swap x y z, xor_swap a b c)

pub get_or_xor : (a b : List ℕ) (i : ℕ) → i < length a → get_or (a ⊕ b) i 0 ≡ bit_xor (get_or a i 0) (get_or b i 0)
unfolding ◌⊕◌
get_or_xor [] b i l = absurd (omega arith)
get_or_xor (x ∷ a) [] zero l = sym (xor_zero_r x)
get_or_xor (x ∷ a) [] (suc i) l = sym (xor_zero_r (get_or a i 0))
get_or_xor (x ∷ a) (y ∷ b) zero l = refl
get_or_xor (x ∷ a) (y ∷ b) (suc i) l = get_or_xor a b i (omega arith)
