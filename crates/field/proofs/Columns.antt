-- The two matrices undo one another. Each row of either is the row above it turned by a place, so that one row of the product gives all:
-- turn the column as well. That row is tested at every byte, at each place of the column.
use mathlib.Core.Path.{◌≡◌, ◌∙◌, sym, ap, ap₂}
use mathlib.Core.Bool.{Bool}
use Prim.Native.Nat.{ℕ, zero, suc, ◌<◌}
use lib.Bits.{bit_xor, xor_lt, xor_zero_r, xor_comm, xor_assoc}
use lib.Dec.{T}
use Rattle.field.specs.Field.{xtime, mul}
use Rattle.field.specs.Columns.{sum4, dot}
use Rattle.field.specs.Laws.{Unmixes, Remixes}
use Rattle.field.proofs.Test.{agree, agreed}
use Rattle.field.proofs.Linear.{xor_swap, mul_sum, mul_lt}

sum4_lt : (a b c d : ℕ) → a < 256 → b < 256 → c < 256 → d < 256 → sum4 a b c d < 256
sum4_lt a b c d ha hb hc hd = xor_lt 8 _ d (xor_lt 8 _ c (xor_lt 8 a b ha hb) hc) hd

pub dot_lt : (p q r s a b c d : ℕ) → a < 256 → b < 256 → c < 256 → d < 256 → dot p q r s a b c d < 256
dot_lt p q r s a b c d ha hb hc hd = sum4_lt (mul p a) (mul q b) (mul r c) (mul s d) (mul_lt p a ha) (mul_lt q b hb) (mul_lt r c hc) (mul_lt s d hd)

sum4_of : {a b c d e f g h : ℕ} → a ≡ e → b ≡ f → c ≡ g → d ≡ h → sum4 a b c d ≡ sum4 e f g h
sum4_of p q r s = ap₂ bit_xor (ap₂ bit_xor (ap₂ bit_xor p q) r) s

sum4_swap : (a b c d e f g h : ℕ) → bit_xor (sum4 a b c d) (sum4 e f g h) ≡ sum4 (bit_xor a e) (bit_xor b f) (bit_xor c g) (bit_xor d h)
sum4_swap a b c d e f g h =
    xor_swap (bit_xor (bit_xor a b) c) d (bit_xor (bit_xor e f) g) h
    ∙ ap (λ (x : ℕ). bit_xor x (bit_xor d h))
    (xor_swap (bit_xor a b) c (bit_xor e f) g ∙ ap (λ (x : ℕ). bit_xor x (bit_xor c g)) (xor_swap a b e f))

-- rows for columns
sum4_across : (a b c d e f g h i j k l m n o p : ℕ)
    → sum4 (sum4 a b c d) (sum4 e f g h) (sum4 i j k l) (sum4 m n o p)
    ≡ sum4 (sum4 a e i m) (sum4 b f j n) (sum4 c g k o) (sum4 d h l p)
sum4_across a b c d e f g h i j k l m n o p =
    ap (λ (x : ℕ). bit_xor x (sum4 m n o p))
    (ap (λ (x : ℕ). bit_xor x (sum4 i j k l)) (sum4_swap a b c d e f g h)
    ∙ sum4_swap (bit_xor a e) (bit_xor b f) (bit_xor c g) (bit_xor d h) i j k l)
    ∙ sum4_swap (bit_xor (bit_xor a e) i) (bit_xor (bit_xor b f) j) (bit_xor (bit_xor c g) k) (bit_xor (bit_xor d h) l) m n o p

-- a row and a column turned by a place
pub dot_turn : (p q r s a b c d : ℕ) → dot p q r s a b c d ≡ dot q r s p b c d a
dot_turn p q r s a b c d =
    xor_assoc (bit_xor (mul p a) (mul q b)) (mul r c) (mul s d)
    ∙ xor_assoc (mul p a) (mul q b) (bit_xor (mul r c) (mul s d))
    ∙ xor_comm (mul p a) (bit_xor (mul q b) (bit_xor (mul r c) (mul s d)))
    ∙ ap (λ (x : ℕ). bit_xor x (mul p a)) (sym (xor_assoc (mul q b) (mul r c) (mul s d)))

mul_sum4 : (k a b c d : ℕ) → a < 256 → b < 256 → c < 256 → d < 256 → mul k (sum4 a b c d) ≡ sum4 (mul k a) (mul k b) (mul k c) (mul k d)
mul_sum4 k a b c d ha hb hc hd =
    mul_sum k (bit_xor (bit_xor a b) c) d (xor_lt 8 _ c (xor_lt 8 a b ha hb) hc) hd
    ∙ ap (λ (x : ℕ). bit_xor x (mul k d))
    (mul_sum k (bit_xor a b) c (xor_lt 8 a b ha hb) hc ∙ ap (λ (x : ℕ). bit_xor x (mul k c)) (mul_sum k a b ha hb))

mul_dot : (k p q r s a b c d : ℕ) → a < 256 → b < 256 → c < 256 → d < 256
    → mul k (dot p q r s a b c d) ≡ sum4 (mul k (mul p a)) (mul k (mul q b)) (mul k (mul r c)) (mul k (mul s d))
mul_dot k p q r s a b c d ha hb hc hd =
    mul_sum4 k (mul p a) (mul q b) (mul r c) (mul s d) (mul_lt p a ha) (mul_lt q b hb) (mul_lt r c hc) (mul_lt s d hd)

-- a where e is 1, and 0 where it is 0
abbrev keep : ℕ → ℕ → ℕ
keep zero a = 0
keep (suc e) a = a

-- The matrices with the first rows k l m n and p q r s, whose other rows are those turned.
module _ (k l m n p q r s : ℕ) where
  -- what the first row of one and a column of the other make of a byte
  abbrev entry : ℕ → ℕ → ℕ → ℕ → ℕ → ℕ
  entry u v w x a = sum4 (mul k (mul u a)) (mul l (mul v a)) (mul m (mul w a)) (mul n (mul x a))

  test : ℕ → ℕ → ℕ → ℕ → ℕ → Bool
  test u v w x e = agree (entry u v w x) (keep e) 256

  abbrev row : (k l m n a b c d : ℕ) → ℕ
  row k l m n a b c d = dot k l m n (dot p q r s a b c d) (dot s p q r a b c d) (dot r s p q a b c d) (dot q r s p a b c d)

  row_is : (a b c d : ℕ) → a < 256 → b < 256 → c < 256 → d < 256
      → row k l m n a b c d ≡ sum4 (entry p s r q a) (entry q p s r b) (entry r q p s c) (entry s r q p d)
  row_is a b c d ha hb hc hd =
      sum4_of (mul_dot k p q r s a b c d ha hb hc hd) (mul_dot l s p q r a b c d ha hb hc hd)
      (mul_dot m r s p q a b c d ha hb hc hd) (mul_dot n q r s p a b c d ha hb hc hd)
      ∙ sum4_across (mul k (mul p a)) (mul k (mul q b)) (mul k (mul r c)) (mul k (mul s d))
      (mul l (mul s a)) (mul l (mul p b)) (mul l (mul q c)) (mul l (mul r d))
      (mul m (mul r a)) (mul m (mul s b)) (mul m (mul p c)) (mul m (mul q d))
      (mul n (mul q a)) (mul n (mul r b)) (mul n (mul s c)) (mul n (mul p d))

  -- the next row is this one, at the column turned
  row_turn : (t u v w a b c d : ℕ) → row w t u v a b c d ≡ row t u v w b c d a
  row_turn t u v w a b c d =
      dot_turn w t u v (dot p q r s a b c d) (dot s p q r a b c d) (dot r s p q a b c d) (dot q r s p a b c d)
      ∙ sum4_of (ap (mul t) (dot_turn s p q r a b c d)) (ap (mul u) (dot_turn r s p q a b c d))
      (ap (mul v) (dot_turn q r s p a b c d)) (ap (mul w) (dot_turn p q r s a b c d))

  module _ (one : T (test p s r q 1)) (two : T (test q p s r 0)) (three : T (test r q p s 0)) (four : T (test s r q p 0)) where
    first : (a b c d : ℕ) → a < 256 → b < 256 → c < 256 → d < 256 → row k l m n a b c d ≡ a
    unfolding test
    first a b c d ha hb hc hd =
        row_is a b c d ha hb hc hd
        ∙ sum4_of (agreed (entry p s r q) (keep 1) 256 one a ha) (agreed (entry q p s r) (keep 0) 256 two b hb)
        (agreed (entry r q p s) (keep 0) 256 three c hc) (agreed (entry s r q p) (keep 0) 256 four d hd)
        ∙ xor_zero_r (bit_xor (bit_xor a 0) 0) ∙ xor_zero_r (bit_xor a 0) ∙ xor_zero_r a

    second : (a b c d : ℕ) → a < 256 → b < 256 → c < 256 → d < 256 → row n k l m a b c d ≡ b
    second a b c d ha hb hc hd = row_turn k l m n a b c d ∙ first b c d a hb hc hd ha

    third : (a b c d : ℕ) → a < 256 → b < 256 → c < 256 → d < 256 → row m n k l a b c d ≡ c
    third a b c d ha hb hc hd = row_turn n k l m a b c d ∙ second b c d a hb hc hd ha

    fourth : (a b c d : ℕ) → a < 256 → b < 256 → c < 256 → d < 256 → row l m n k a b c d ≡ d
    fourth a b c d ha hb hc hd = row_turn m n k l a b c d ∙ third b c d a hb hc hd ha

    all : (a b c d : ℕ) → a < 256 → b < 256 → c < 256 → d < 256
        → (row k l m n a b c d ≡ a) × (row n k l m a b c d ≡ b) × (row m n k l a b c d ≡ c) × (row l m n k a b c d ≡ d)
    all a b c d ha hb hc hd = (first a b c d ha hb hc hd, second a b c d ha hb hc hd, third a b c d ha hb hc hd, fourth a b c d ha hb hc hd)

pub unmixes : Unmixes
unfolding test mul xtime
unmixes a b c d ha hb hc hd =
    let u = all 14 11 13 9 2 3 1 1 tt tt tt tt a b c d ha hb hc hd in
    record { first = u.0; second = u.1; third = u.2; fourth = u.3 }

pub remixes : Remixes
unfolding test mul xtime
remixes a b c d ha hb hc hd =
    let u = all 2 3 1 1 14 11 13 9 tt tt tt tt a b c d ha hb hc hd in
    record { first = u.0; second = u.1; third = u.2; fourth = u.3 }
