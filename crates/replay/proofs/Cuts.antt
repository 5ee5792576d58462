-- The lines of bytes that stand one behind another, and the first line of bytes.
use Rattle.std.proofs.Common.{◌≡◌, ◌≢◌, ℕ, ◌+◌, ◌-◌, ◌<◌, ◌≤◌, ◌==◌, Bool, true, false, ◌⊎◌, inl, inr, List, [], ◌∷◌, ◌++◌, length, take, get_or, map, if◌then◌else◌, refl, sym, ap, ◌∙◌, subst, arith, nat_lt, append_assoc, append-nil}
use Rattle.std.specs.Io.{IsEmptyOrEndsWith, StopsAt}
use Rattle.std.specs.Io.BufRead.{ends_with_byte, take_through, drop_through}
use Rattle.std.specs.List.{All, slice_split, onto_first}
use Rattle.std.specs.Str.Lines.{lines, lines_of_parts, strip_carriage_return}
use Rattle.std.proofs.lemmas.Bool.Decides.{nat_tests}
use Rattle.std.proofs.Math.Seq.{get_or-append_seam, take-append_seam}
use Rattle.std.proofs.lemmas.List.{take_more, take_all, length-append}
use Rattle.std.proofs.lemmas.List.Elements.{All-weaker, All-push}
use Rattle.std.proofs.lemmas.List.Splits.{slice_split_none}

abbrev is_end : ℕ → Bool
is_end b = b == 10

-- ## parts and lines

some_part : (ys : List ℕ) → (y : List ℕ) × (B : List (List ℕ)) × (slice_split is_end ys ≡ y ∷ B)
some_part [] = ([], [], refl)
some_part (x ∷ xs) =
    let (y, B, e) = some_part xs in
    elim (is_end x) as (λ b. (z : List ℕ) × (C : List (List ℕ)) × ((if b then [] ∷ slice_split is_end xs else onto_first x (slice_split is_end xs)) ≡ z ∷ C)) [
      | true ↦ ([], slice_split is_end xs, refl)
      | false ↦ (x ∷ y, B, ap (onto_first x) e)
    ]

onto-append : (x : ℕ) (A B : List (List ℕ)) (y : List ℕ) (C : List (List ℕ)) → A ≡ y ∷ C → onto_first x (A ++ B) ≡ onto_first x A ++ B
onto-append x A B y C e = rw e refl

parts-append : (xs ys : List ℕ) → slice_split is_end (xs ++ 10 ∷ ys) ≡ slice_split is_end xs ++ slice_split is_end ys
parts-append [] ys = refl
parts-append (x ∷ xs) ys =
    let (y, B, e) = some_part xs in
    let i = parts-append xs ys in
    elim (is_end x) as (λ b. (if b then [] ∷ slice_split is_end (xs ++ 10 ∷ ys) else onto_first x (slice_split is_end (xs ++ 10 ∷ ys))) ≡ (if b then [] ∷ slice_split is_end xs else onto_first x (slice_split is_end xs)) ++ slice_split is_end ys) [
      | true ↦ ap (λ (l : List (List ℕ)). [] ∷ l) i
      | false ↦ ap (onto_first x) i ∙ onto-append x (slice_split is_end xs) (slice_split is_end ys) y B e
    ]

before_part : (A : List (List ℕ)) (y : List ℕ) (B : List (List ℕ)) → lines_of_parts (A ++ y ∷ B) ≡ map strip_carriage_return A ++ lines_of_parts (y ∷ B)
before_part [] y B = refl
before_part (x ∷ []) y B = refl
before_part (x ∷ z ∷ A) y B = ap (λ (l : List (List ℕ)). strip_carriage_return x ∷ l) (before_part (z ∷ A) y B)

-- the lines before a byte 10, and those behind it
pub ended : (xs ys : List ℕ) → lines (xs ++ 10 ∷ ys) ≡ map strip_carriage_return (slice_split is_end xs) ++ lines ys
ended xs ys =
    let (y, B, e) = some_part ys in
    let P : List (List ℕ) → Type 0 = λ l. lines_of_parts (slice_split is_end xs ++ l) ≡ map strip_carriage_return (slice_split is_end xs) ++ lines_of_parts l in
    ap lines_of_parts (parts-append xs ys) ∙ subst P (sym e) (before_part (slice_split is_end xs) y B)

ended_all : (xs : List ℕ) → lines (xs ++ 10 ∷ []) ≡ map strip_carriage_return (slice_split is_end xs)
ended_all xs = ended xs [] ∙ append-nil (map strip_carriage_return (slice_split is_end xs))

-- ## whole lines, and what follows them

pub last_apart : (xs : List ℕ) (b : ℕ) → 0 < length xs → get_or xs (length xs - 1) 0 ≡ b → xs ≡ take (length xs - 1) xs ++ b ∷ []
last_apart xs b some e =
    let lt : length xs - 1 < length xs = omega arith in
    let all : length xs ≤ (length xs - 1) + 1 = omega arith in
    sym (take_all ((length xs - 1) + 1) xs all) ∙ take_more xs (length xs - 1) 0 lt ∙ ap (λ y. take (length xs - 1) xs ++ y ∷ []) e

pub lines-append : (xs ys : List ℕ) → IsEmptyOrEndsWith xs 10 → lines (xs ++ ys) ≡ lines xs ++ lines ys
lines-append [] ys whole = refl
lines-append (x ∷ xs) ys whole =
    let some : 0 < length (x ∷ xs) = omega arith in
    let a = take (length (x ∷ xs) - 1) (x ∷ xs) in
    let e = last_apart (x ∷ xs) 10 some (whole some) in
    let P : List ℕ → Type 0 = λ l. lines (l ++ ys) ≡ lines l ++ lines ys in
    subst P (sym e) (ap lines (append_assoc a (10 ∷ []) ys) ∙ ended a ys ∙ ap (λ l. l ++ lines ys) (sym (ended_all a)))

-- ## one line

pub no_ends : (text : List ℕ) → All (λ x. x ≢ 10) text → All (λ x. is_end x ≡ false) text
no_ends text all = All-weaker (λ x. x ≢ 10) (λ x. is_end x ≡ false) (λ x h. grind (arith, nat_tests)) text all

pub whole_line : (text : List ℕ) → All (λ x. x ≢ 10) text → lines (text ++ 10 ∷ []) ≡ strip_carriage_return text ∷ []
whole_line text all = ended_all text ∙ ap (map strip_carriage_return) (slice_split_none is_end text (no_ends text all))

pub last_line : (text : List ℕ) → All (λ x. x ≢ 10) text → 0 < length text → lines text ≡ text ∷ []
last_line text all some = ap lines_of_parts (slice_split_none is_end text (no_ends text all)) ∙ (let e : (length text == 0) ≡ false = grind (arith, nat_tests) in ap (λ (b : Bool). if b then [] else text ∷ []) e)

front_no_end : (text : List ℕ) (x : ℕ) → StopsAt (text ++ x ∷ []) 10 → All (λ y. y ≢ 10) text
front_no_end text x one =
    let n : length (text ++ x ∷ []) - 1 ≡ length text = omega (arith, length-append text (x ∷ [])) in
    subst (All (λ y. y ≢ 10)) (ap (λ (k : ℕ). take k (text ++ x ∷ [])) n ∙ take-append_seam text (x ∷ [])) one

-- a line with no end, and one with an end: its text has no byte 13 at its end, or one that goes
pub bare_line : (line text : List ℕ) (x : ℕ) → line ≡ text ++ x ∷ [] → StopsAt line 10 → x ≢ 10 → lines line ≡ line ∷ []
bare_line line text x e one other =
    let P : List ℕ → Type 0 = λ l. lines l ≡ l ∷ [] in
    let some : 0 < length (text ++ x ∷ []) = omega (arith, length-append text (x ∷ [])) in
    let front = front_no_end text x (subst (λ (l : List ℕ). StopsAt l 10) e one) in
    subst P (sym e) (last_line (text ++ x ∷ []) (All-push (λ (y : ℕ). y ≢ 10) text x front other) some)

whole_is : (line text : List ℕ) → line ≡ text ++ 10 ∷ [] → StopsAt line 10 → lines line ≡ strip_carriage_return text ∷ []
whole_is line text e one = ap lines e ∙ whole_line text (front_no_end text 10 (subst (λ (l : List ℕ). StopsAt l 10) e one))

seam : (a : List ℕ) (x : ℕ) → get_or (a ++ x ∷ []) (length (a ++ x ∷ []) - 1) 0 ≡ x
seam a x =
    let n : length (a ++ x ∷ []) - 1 ≡ length a = omega (arith, length-append a (x ∷ [])) in
    rw n (get_or-append_seam a x [] 0)

pub cut_line : (line text before : List ℕ) (x y : ℕ) → line ≡ text ++ x ∷ [] → x ≡ 10 → text ≡ before ++ y ∷ [] → y ≡ 13 → StopsAt line 10 → lines line ≡ before ∷ []
cut_line line text before x y e ten f cr one =
    let is : text ≡ before ++ 13 ∷ [] = f ∙ ap (λ (z : ℕ). before ++ z ∷ []) cr in
    let n : length (before ++ 13 ∷ []) - 1 ≡ length before = omega (arith, length-append before (13 ∷ [])) in
    whole_is line text (e ∙ ap (λ (z : ℕ). text ++ z ∷ []) ten) one
    ∙ ap (λ (l : List ℕ). strip_carriage_return l ∷ []) is
    ∙ ap (λ (z : ℕ). (if z == 13 then take (length (before ++ 13 ∷ []) - 1) (before ++ 13 ∷ []) else before ++ 13 ∷ []) ∷ []) (seam before 13)
    ∙ ap (λ (k : ℕ). take k (before ++ 13 ∷ []) ∷ []) n ∙ ap (λ (l : List ℕ). l ∷ []) (take-append_seam before (13 ∷ []))

pub uncut_line : (line text before : List ℕ) (x y : ℕ) → line ≡ text ++ x ∷ [] → x ≡ 10 → text ≡ before ++ y ∷ [] → y ≢ 13 → StopsAt line 10 → lines line ≡ text ∷ []
uncut_line line text before x y e ten f other one =
    let last : get_or text (length text - 1) 0 ≡ y = ap (λ (l : List ℕ). get_or l (length l - 1) 0) f ∙ seam before y in
    let not : (y == 13) ≡ false = grind (arith, nat_tests) in
    whole_is line text (e ∙ ap (λ (z : ℕ). text ++ z ∷ []) ten) one
    ∙ ap (λ (z : ℕ). (if z == 13 then take (length text - 1) text else text) ∷ []) last
    ∙ ap (λ (b : Bool). (if b then take (length text - 1) text else text) ∷ []) not

-- ## the first line of what is left

is_ten : (x : ℕ) → (x == 10) ≡ true → x ≡ 10
is_ten x e = grind (arith, nat_tests)

through : (xs : List ℕ) → (drop_through 10 xs ≡ []) ⊎ ((a : List ℕ) × (take_through 10 xs ≡ a ++ 10 ∷ []))
through [] = inl refl
through (x ∷ xs) = at (x == 10) refl (through xs)
  where
    at : (b : Bool) → (x == 10) ≡ b → (drop_through 10 xs ≡ []) ⊎ ((a : List ℕ) × (take_through 10 xs ≡ a ++ 10 ∷ []))
        → ((if b then xs else drop_through 10 xs) ≡ []) ⊎ ((a : List ℕ) × ((if b then x ∷ [] else x ∷ take_through 10 xs) ≡ a ++ 10 ∷ []))
    at true e h = inr ([], ap (λ (y : ℕ). y ∷ []) (is_ten x e))
    at false e (inl n) = inl n
    at false e (inr p) = inr (x ∷ p.0, ap (λ (l : List ℕ). x ∷ l) p.1)

pub whole-push : (a : List ℕ) → IsEmptyOrEndsWith (a ++ 10 ∷ []) 10
whole-push a some = seam a 10

ends-push : (a : List ℕ) → ends_with_byte 10 (a ++ 10 ∷ []) ≡ true
ends-push a =
    let some : nat_lt 0 (length (a ++ 10 ∷ [])) ≡ true = grind (arith, nat_tests, length-append a (10 ∷ [])) in
    rw (some, seam a 10) refl

pub with_end : (line : List ℕ) → ends_with_byte 10 line ≡ true → line ≡ take (length line - 1) line ++ 10 ∷ []
with_end line e =
    let some : 0 < length line = grind (arith, nat_tests) in
    let last : get_or line (length line - 1) 0 ≡ 10 = grind (arith, nat_tests) in
    last_apart line 10 some last

pub nothing_left : (xs : List ℕ) → ends_with_byte 10 (take_through 10 xs) ≡ false → drop_through 10 xs ≡ []
nothing_left xs e = elim (through xs) [
  | inl n ↦ n
  | inr p ↦ let z : true ≡ false = sym (ends-push p.0) ∙ ap (ends_with_byte 10) (sym p.1) ∙ e in absurd cc
]
