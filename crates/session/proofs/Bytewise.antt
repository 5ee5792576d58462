-- Blocks that are compared byte by byte, and zeros.
use Rattle.std.proofs.Common.{◌≡◌, ℕ, List, [], ◌∷◌, length, sym, refl, ap, ap₂, ◌∙◌, arith, ◌≤◌, ◌++◌, take, drop, replicate, length-take-le}
use Rattle.std.specs.List.{fold, zip}
use lib.Bits.{bit_or, bit_xor, or_add_and, and_le_l, and_le_r, xor_self, xor_zero_l, xor_zero_r, xor_assoc}

-- a difference that is still zero: it was, and the next two bytes are equal
differs_none : (d x y : ℕ) → bit_or d (bit_xor x y) ≡ 0 → (d ≡ 0) × (x ≡ y)
differs_none d x y e =
    let o = or_add_and d (bit_xor x y) in
    let l = and_le_l d (bit_xor x y) in
    let r = and_le_r d (bit_xor x y) in
    let z : bit_xor x y ≡ 0 = omega arith in
    (omega arith, sym (xor_assoc x y y ∙ ap (bit_xor x) (xor_self y) ∙ xor_zero_r x) ∙ ap (λ n. bit_xor n y) z ∙ xor_zero_l y)

differs_more : (d x y : ℕ) → d ≡ 0 → x ≡ y → bit_or d (bit_xor x y) ≡ 0
differs_more d x y e f = rw (e, f, xor_self y)

-- the differences of all bytes, one upon another
abbrev pub differences : ℕ → List ℕ → List ℕ → ℕ
differences d a b = fold (λ (e : ℕ) (p : ℕ × ℕ). bit_or e (bit_xor p.0 p.1)) d (zip a b)

pub same_bytes : (d : ℕ) (a b : List ℕ) → length a ≡ length b → differences d a b ≡ 0 → (d ≡ 0) × (a ≡ b)
same_bytes d [] [] l e = (e, refl)
same_bytes d [] (y ∷ b) l e = absurd (omega arith)
same_bytes d (x ∷ a) [] l e = absurd (omega arith)
same_bytes d (x ∷ a) (y ∷ b) l e =
    let r = same_bytes (bit_or d (bit_xor x y)) a b (omega arith) e in
    let s = differs_none d x y r.0 in
    (s.0, ap₂ ◌∷◌ s.1 r.1)

pub no_differences : (a : List ℕ) → differences 0 a a ≡ 0
no_differences [] = refl
no_differences (x ∷ a) = ap (λ d. differences d a a) (differs_more 0 x x refl refl) ∙ no_differences a

-- a front of n bytes that is filled with zeros; k is how the code counts it
pub zeroed : (w o : List ℕ) (n k : ℕ) → k ≡ n → n ≤ length o → w ≡ replicate (length (take k o)) 0 → w ++ drop k o ≡ replicate n 0 ++ drop n o
zeroed w o n k e l z = ap (λ u. u ++ drop k o) (z ∙ ap (λ i. replicate i 0) (length-take-le k o (omega arith))) ∙ ap (λ i. replicate i 0 ++ drop i o) e
