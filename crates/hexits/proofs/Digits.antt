-- A byte as two digits, by std's words and by those of `hex`.
use Rattle.std.proofs.Common.{◌≡◌, ℕ, zero, suc, ◌+◌, ◌/◌, ◌%◌, ◌<◌, ◌==◌, ◌&&◌, Bool, true, false, List, [], ◌∷◌, ◌++◌, length, take, slice_index, refl, sym, ap, ◌∙◌, arith, inl, inr}
use Rattle.std.proofs.lemmas.Bool.{and_parts, cases_lt, eqb-true}
use Rattle.std.proofs.lemmas.List.{take_more}
use Rattle.std.specs.Fmt.{digit_glyph}
use Rattle.hex.specs.Hex.{encode_with, encode_lower, lower_digits}

-- whether the first n glyphs are the first n digits, which computes
abbrev are_digits : ℕ → Bool
are_digits zero = true
are_digits (suc n) = (digit_glyph false n == slice_index lower_digits n) && are_digits n

glyph_below : (n d : ℕ) → are_digits n ≡ true → d < n → digit_glyph false d ≡ slice_index lower_digits d
glyph_below zero d h below = absurd (omega arith)
glyph_below (suc n) d h below =
    let parts = and_parts (digit_glyph false n == slice_index lower_digits n) (are_digits n) h in
    elim (cases_lt d n) [
      | inl less ↦ glyph_below n d parts.1 less
      | inr most ↦
          let e : d ≡ n = omega arith in
          rw e (eqb-true _ _ parts.0)
    ]

glyph : (d : ℕ) → d < 16 → digit_glyph false d ≡ slice_index lower_digits d
glyph d below = glyph_below 16 d refl below

encode_append : (t xs ys : List ℕ) → encode_with t (xs ++ ys) ≡ encode_with t xs ++ encode_with t ys
unfolding encode_with
encode_append t [] ys = refl
encode_append t (x ∷ xs) ys = ap (λ (l : List ℕ). slice_index t (x / 16) ∷ slice_index t (x % 16) ∷ l) (encode_append t xs ys)

one : (b : ℕ) → b < 256 → digit_glyph false (b / 16) ∷ digit_glyph false (b % 16) ∷ [] ≡ encode_lower (b ∷ [])
unfolding encode_with
one b h = rw (glyph (b / 16) (omega arith), glyph (b % 16) (omega arith)) refl

-- the digits of one byte more
pub one_more : (xs : List ℕ) (i : ℕ) → i < length xs → slice_index xs i < 256
    → encode_lower (take i xs) ++ (digit_glyph false (slice_index xs i / 16) ∷ digit_glyph false (slice_index xs i % 16) ∷ []) ≡ encode_lower (take (i + 1) xs)
one_more xs i h byte =
    ap (λ (l : List ℕ). encode_lower (take i xs) ++ l) (one (slice_index xs i) byte)
    ∙ sym (ap encode_lower (take_more xs i 0 h) ∙ encode_append lower_digits (take i xs) (slice_index xs i ∷ []))

-- no bytes have no digits
pub none : encode_lower [] ≡ []
unfolding encode_with
none = refl
