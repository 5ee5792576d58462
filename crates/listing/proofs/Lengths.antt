-- How long the line of a good entry is, and that its yearly need is the nearest whole number.
use Rattle.std.proofs.Common.{◌≡◌, ℕ, suc, ◌+◌, ◌*◌, ◌<◌, ◌≤◌, List, [], ◌∷◌, ◌++◌, length, ℤ, pos, negsuc, Some, None, decimal, Option, mul_assoc, div-lt_iff_lt-mul, mul-add, arith, length-append}
use native.Mathlib.Nat.{mul-div-le, lt-mul-div-succ}
use Rattle.std.specs.Option.{option_map}
use Rattle.std.specs.Fmt.{signed_decimal}
use Rattle.std.proofs.lemmas.Fmt.{length-decimal-le}
use Rattle.std.proofs.lemmas.Bool.Decides.{nat_tests}
use Rattle.sheet.specs.Table.{row_of}
use Rattle.sheet.specs.Entries.{Item, Good, Held, CodeForm, NumberForm, LandingForm, text}
use Rattle.sheet.proofs.Values.{short}
use Rattle.listing.specs.Lines.{Nearest, LineLaw, need, need_of, shown, line_of}

is_nearest : (c m : ℕ) → 0 < m → Nearest (12 * c) m (need c m)
is_nearest c m h =
    let x = 24 * c + m in
    let q = need c m in
    record {
      not_above = omega (arith, mul-div-le x (2 * m), mul_assoc 2 m q);
      not_below = omega (arith, lt-mul-div-succ x {b = 2 * m} (omega arith), mul-add (2 * m) q 1, mul_assoc 2 m q);
    }

need_small : (c m : ℕ) → c ≤ 9999 → 0 < m → need c m < 1000000
need_small c m h k = (div-lt_iff_lt-mul {k = 2 * m} {x = 24 * c + m} {y = 1000000} (omega arith)).1 (omega arith)

-- what the forms say of numbers and lengths
code_length : (s : List ℕ) → CodeForm 0 s → length s ≡ 8
unfolding row_of
code_length s f = f.0

parent_length : (s : List ℕ) → CodeForm 1 s → length s ≤ 8
unfolding row_of
parent_length s f = omega arith

count_small : (c : ℕ) → NumberForm 2 c → c ≤ 9999
unfolding row_of
count_small c f = grind (arith, nat_tests)

pub months_some : (m : ℕ) → NumberForm 4 m → 0 < m
unfolding row_of
months_some m f = grind (arith, nat_tests)

months_small : (m : ℕ) → NumberForm 4 m → m ≤ 600
unfolding row_of
months_small m f = grind (arith, nat_tests)

landing_length : (z : ℤ) → LandingForm z → length (signed_decimal z) ≤ 2
unfolding row_of
landing_length (pos n) f = let h : n ≤ 40 = grind (arith, nat_tests) in length-decimal-le 2 n (omega arith) (omega arith) (omega arith)
landing_length (negsuc n) f = let h : n ≤ 4 = grind (arith, nat_tests) in let l = length-decimal-le 1 (suc n) (omega arith) (omega arith) (omega arith) in omega arith

months_length : (m : ℕ) → NumberForm 4 m → length (decimal m) ≤ 3
months_length m f = let h = months_small m f in length-decimal-le 3 m (omega arith) (omega arith) (omega arith)

need_length : (c m : ℕ) → c ≤ 9999 → NumberForm 4 m → length (decimal (need c m)) ≤ 6
need_length c m h f = let k = need_small c m h (months_some m f) in length-decimal-le 6 (need c m) (omega arith) (omega arith) (omega arith)

-- a dash is no longer than what may stand there
shown_length : {A : Type 0} {P : A → Type 0} (w : A → List ℕ) (k : ℕ) → 0 < k → ((a : A) → P a → length (w a) ≤ k) → (o : Option A) → Held P o → length (shown w o) ≤ k
shown_length w k h f None p = h
shown_length w k h f (Some a) p = f a p

-- how long the parts of a line are together, with the byte that ends each
abbrev pub together : Item → ℕ
together e = length e.code + length (shown text e.parent) + length (decimal e.count) + length (shown signed_decimal e.landing) + length (shown decimal e.months) + length (shown decimal (need_of e)) + length (shown text e.drawing) + 7

pub line_length : (e : Item) → length (line_of e) ≡ together e
line_length e = total e.code (shown text e.parent) (decimal e.count) (shown signed_decimal e.landing) (shown decimal e.months) (shown decimal (need_of e)) (shown text e.drawing)
  where
    total : (a b c d e f g : List ℕ) → length (a ++ (59 ∷ (b ++ (59 ∷ (c ++ (59 ∷ (d ++ (59 ∷ (e ++ (59 ∷ (f ++ (59 ∷ (g ++ (10 ∷ [])))))))))))))) ≡ length a + length b + length c + length d + length e + length f + length g + 7
    total a b c d e f g = simp length-append (omega arith)

pub fits : (e : Item) → Good e → together e ≤ 70
fits e g =
    let h = count_small e.count g.count in
    let l1 = code_length e.code g.code in
    let l2 = shown_length text 8 (omega arith) parent_length e.parent g.parent in
    let l3 = length-decimal-le 4 e.count (omega arith) (omega arith) (omega arith) in
    let l4 = shown_length signed_decimal 2 (omega arith) landing_length e.landing g.landing in
    let l5 = shown_length decimal 3 (omega arith) months_length e.months g.months in
    let l6 = need_shown e.count h e.months g.months in
    let l7 = shown_length text 32 (omega arith) (λ s f. short (length s) f.0) e.drawing g.drawing in
    omega arith
  where
    need_shown : (c : ℕ) → c ≤ 9999 → (o : Option ℕ) → Held (NumberForm 4) o → length (shown decimal (option_map (need c) o)) ≤ 6
    need_shown c h None f = omega arith
    need_shown c h (Some m) f = need_length c m h f

pub line_law : LineLaw
line_law e g = (omega (arith, fits e g, line_length e), nearest e.count e.months g.months)
  where
    nearest : (c : ℕ) (o : Option ℕ) → Held (NumberForm 4) o → Held (λ m. Nearest (12 * c) m (need c m)) o
    nearest c None f = tt
    nearest c (Some m) f = is_nearest c m (months_some m f)
