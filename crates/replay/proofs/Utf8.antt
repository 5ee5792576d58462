-- The lines of a text are UTF-8 where the text is, and there alone.
use Rattle.std.proofs.Common.{◌≡◌, ◌≢◌, ℕ, ◌+◌, ◌-◌, ◌<◌, ◌==◌, Bool, true, false, ◌⊎◌, inl, inr, List, [], ◌∷◌, ◌++◌, length, map, take, drop, get_or, if◌then◌else◌, IsErr, Ok, Err, Result, refl, sym, ap, ◌∙◌, subst, arith, append_assoc, append-nil, length-append}
use Rattle.std.specs.List.{All, AllByRecursion}
use Rattle.std.specs.Str.{IsUtf8, is_utf8}
use Rattle.std.specs.Str.Lines.{lines, strip_carriage_return}
use Rattle.std.proofs.lemmas.Bool.Decides.{nat_tests}
use Rattle.std.proofs.lemmas.List.Elements.{All-nil, All-push}
use Rattle.std.proofs.lemmas.Str.{IsUtf8-append, IsUtf8-take, IsUtf8-drop, IsUtf8-nil, IsUtf8-from_ascii, IsUtf8-from_is_utf8, is_utf8-from_IsUtf8, IsCharBoundary-before_ascii, IsCharBoundary-after_ascii}
use Rattle.std.proofs.lemmas.Str.Ascii.{IsAscii-cons, IsAscii-nil}
use Rattle.replay.specs.declared.lines.Rule.{Rule}
use Rattle.replay.specs.declared.report.Outcome.{Outcome}
use Rattle.replay.specs.declared.report.Outcome.TheVariants as outcome
use Rattle.replay.specs.Lines.{◌>>=◌}
use Rattle.replay.specs.Scripts.{Written, unwritten, after_line}
use Rattle.replay.specs.Outcomes.{line_read, numbered, written_from, written_by}
use Rattle.replay.specs.Utf8.{ruled_from, Utf8Law}
use Rattle.std.proofs.Math.Seq.{get_or-append_seam, take-append_seam, drop-append_seam}
use Rattle.std.proofs.lemmas.List.Splits.{slice_split_none}
use Rattle.replay.proofs.Cuts.{ended, last_apart, last_line, no_ends}

-- ## one byte of ASCII apart

one : (c : ℕ) → c < 128 → IsUtf8 (c ∷ [])
one c small = IsUtf8-from_ascii (c ∷ []) (IsAscii-cons c [] small IsAscii-nil)

module _ (xs ys : List ℕ) (c : ℕ) (small : c < 128) (u : IsUtf8 (xs ++ c ∷ ys)) where
  at_seam : get_or (xs ++ c ∷ ys) (length xs) 0 < 128
  at_seam = rw (get_or-append_seam xs c ys 0) small

  within : length xs < length (xs ++ c ∷ ys)
  within = omega (arith, length-append xs (c ∷ ys))

  front : IsUtf8 xs
  front = subst IsUtf8 (take-append_seam xs (c ∷ ys)) (IsUtf8-take (xs ++ c ∷ ys) (length xs) u (IsCharBoundary-before_ascii (xs ++ c ∷ ys) (length xs) within at_seam))

  behind : IsUtf8 ys
  behind =
      let cut = IsUtf8-drop (xs ++ c ∷ ys) (length xs + 1) u (IsCharBoundary-after_ascii (xs ++ c ∷ ys) (length xs) u within at_seam) in
      let e : xs ++ c ∷ ys ≡ (xs ++ c ∷ []) ++ ys = sym (append_assoc xs (c ∷ []) ys) in
      let n : length xs + 1 ≡ length (xs ++ c ∷ []) = omega (arith, length-append xs (c ∷ [])) in
      subst IsUtf8 (ap (λ (k : ℕ). drop k (xs ++ c ∷ ys)) n ∙ ap (drop (length (xs ++ c ∷ []))) e ∙ drop-append_seam (xs ++ c ∷ []) ys) cut

some : (text : List ℕ) → get_or text (length text - 1) 0 ≡ 13 → 0 < length text
some [] e = absurd cc
some (x ∷ xs) e = omega arith

stripped : (text : List ℕ) → (strip_carriage_return text ≡ text) ⊎ (text ≡ strip_carriage_return text ++ 13 ∷ [])
stripped text = at (get_or text (length text - 1) 0 == 13) refl
  where
    at : (b : Bool) → (get_or text (length text - 1) 0 == 13) ≡ b
        → ((if b then take (length text - 1) text else text) ≡ text) ⊎ (text ≡ (if b then take (length text - 1) text else text) ++ 13 ∷ [])
    at true e =
        let last : get_or text (length text - 1) 0 ≡ 13 = grind (arith, nat_tests) in
        inr (last_apart text 13 (some text last) last)
    at false e = inl refl

strip : (text : List ℕ) → IsUtf8 text → IsUtf8 (strip_carriage_return text)
strip text u = elim (stripped text) [
  | inl e ↦ subst IsUtf8 (sym e) u
  | inr e ↦ let c : 13 < 128 = omega arith in front (strip_carriage_return text) [] 13 c (subst IsUtf8 e u)
]

unstrip : (text : List ℕ) → IsUtf8 (strip_carriage_return text) → IsUtf8 text
unstrip text u = elim (stripped text) [
  | inl e ↦ subst IsUtf8 e u
  | inr e ↦ let c : 13 < 128 = omega arith in subst IsUtf8 (sym e) (IsUtf8-append (strip_carriage_return text) (13 ∷ []) u (one 13 c))
]

-- ## the lines of p and s, where no byte of p ends a line

after_end : (p s : List ℕ) → All (λ x. x ≢ 10) p → lines (p ++ 10 ∷ s) ≡ strip_carriage_return p ∷ lines s
after_end p s bare = ended p s ∙ ap (λ (ls : List (List ℕ)). map strip_carriage_return ls ++ lines s) (slice_split_none (λ b. b == 10) p (no_ends p bare))

last_only : (p : List ℕ) → All (λ x. x ≢ 10) p → (lines p ≡ p ∷ []) ⊎ (p ≡ [])
last_only [] bare = inr refl
last_only (x ∷ xs) bare = let some : 0 < length (x ∷ xs) = omega arith in inl (last_line (x ∷ xs) bare some)

ten : 10 < 128
ten = omega arith

each : (s p : List ℕ) → All (λ x. x ≢ 10) p → IsUtf8 (p ++ s) → AllByRecursion IsUtf8 (lines (p ++ s))
each [] p bare u = subst (λ (l : List ℕ). AllByRecursion IsUtf8 (lines l)) (sym (append-nil p)) (elim (last_only p bare) [
  | inl e ↦ subst (AllByRecursion IsUtf8) (sym e) (subst IsUtf8 (append-nil p) u, tt)
  | inr e ↦ subst (λ (l : List ℕ). AllByRecursion IsUtf8 (lines l)) (sym e) tt
])
each (x ∷ s) p bare u = at (x == 10) refl (λ v. each s [] (All-nil (λ (y : ℕ). y ≢ 10)) v) (λ b v. each s (p ++ x ∷ []) b v)
  where
    at : (b : Bool) → (x == 10) ≡ b → (IsUtf8 s → AllByRecursion IsUtf8 (lines s))
        → (All (λ y. y ≢ 10) (p ++ x ∷ []) → IsUtf8 ((p ++ x ∷ []) ++ s) → AllByRecursion IsUtf8 (lines ((p ++ x ∷ []) ++ s)))
        → AllByRecursion IsUtf8 (lines (p ++ x ∷ s))
    at true e next more =
        let is : x ≡ 10 = grind (arith, nat_tests) in
        let v = subst (λ (y : ℕ). IsUtf8 (p ++ y ∷ s)) is u in
        subst (λ (y : ℕ). AllByRecursion IsUtf8 (lines (p ++ y ∷ s))) (sym is)
        (subst (AllByRecursion IsUtf8) (sym (after_end p s bare)) (strip p (front p s 10 ten v), next (behind p s 10 ten v)))
    at false e next more =
        let other : x ≢ 10 = grind (arith, nat_tests) in
        subst (λ (l : List ℕ). AllByRecursion IsUtf8 (lines l)) (append_assoc p (x ∷ []) s)
        (more (All-push (λ (y : ℕ). y ≢ 10) p x bare other) (subst IsUtf8 (sym (append_assoc p (x ∷ []) s)) u))

whole : (s p : List ℕ) → All (λ x. x ≢ 10) p → AllByRecursion IsUtf8 (lines (p ++ s)) → IsUtf8 (p ++ s)
whole [] p bare all = subst IsUtf8 (sym (append-nil p)) (elim (last_only p bare) [
  | inl e ↦ (subst (AllByRecursion IsUtf8) (ap lines (append-nil p) ∙ e) all).0
  | inr e ↦ subst IsUtf8 (sym e) IsUtf8-nil
])
whole (x ∷ s) p bare all = at (x == 10) refl (λ v. whole s [] (All-nil (λ (y : ℕ). y ≢ 10)) v) (λ b v. whole s (p ++ x ∷ []) b v)
  where
    at : (b : Bool) → (x == 10) ≡ b → (AllByRecursion IsUtf8 (lines s) → IsUtf8 s)
        → (All (λ y. y ≢ 10) (p ++ x ∷ []) → AllByRecursion IsUtf8 (lines ((p ++ x ∷ []) ++ s)) → IsUtf8 ((p ++ x ∷ []) ++ s))
        → IsUtf8 (p ++ x ∷ s)
    at true e next more =
        let is : x ≡ 10 = grind (arith, nat_tests) in
        let parts = subst (AllByRecursion IsUtf8) (ap (λ (y : ℕ). lines (p ++ y ∷ s)) is ∙ after_end p s bare) all in
        subst (λ (y : ℕ). IsUtf8 (p ++ y ∷ s)) (sym is) (IsUtf8-append p (10 ∷ s) (unstrip p parts.0) (IsUtf8-append (10 ∷ []) s (one 10 ten) (next parts.1)))
    at false e next more =
        let other : x ≢ 10 = grind (arith, nat_tests) in
        subst IsUtf8 (append_assoc p (x ∷ []) s)
        (more (All-push (λ (y : ℕ). y ≢ 10) p x bare other) (subst (λ (l : List ℕ). AllByRecursion IsUtf8 (lines l)) (sym (append_assoc p (x ∷ []) s)) all))

-- ## what they write

by_rules : (ls : List (List ℕ)) (n : ℕ) (w : Written) → AllByRecursion IsUtf8 ls → written_from n w ls ≡ ruled_from n w ls
by_rules [] n w all = refl
by_rules (l ∷ ls) n w all = ap (λ (b : Bool). (if b then numbered n (after_line w l) else Err outcome.NoText) >>= (λ v. written_from (n + 1) v ls)) (is_utf8-from_IsUtf8 l all.0) ∙ at (numbered n (after_line w l)) (λ v. by_rules ls (n + 1) v all.1)
  where
    at : (r : Result Written Outcome) → ((v : Written) → written_from (n + 1) v ls ≡ ruled_from (n + 1) v ls) → (r >>= (λ v. written_from (n + 1) v ls)) ≡ (r >>= (λ v. ruled_from (n + 1) v ls))
    at (Ok v) next = next v
    at (Err o) next = refl

all_text : (ls : List (List ℕ)) (n : ℕ) (w v : Written) → written_from n w ls ≡ Ok v → AllByRecursion IsUtf8 ls
all_text [] n w v e = tt
all_text (l ∷ ls) n w v e = at (is_utf8 l) refl e (λ r f. next r f (λ u h. all_text ls (n + 1) u v h))
  where
    next : (r : Result Written Outcome) → (r >>= (λ u. written_from (n + 1) u ls)) ≡ Ok v → ((u : Written) → written_from (n + 1) u ls ≡ Ok v → AllByRecursion IsUtf8 ls) → AllByRecursion IsUtf8 ls
    next (Ok u) e more = more u e
    next (Err o) e more = absurd cc

    at : (b : Bool) → is_utf8 l ≡ b → ((if b then numbered n (after_line w l) else Err outcome.NoText) >>= (λ u. written_from (n + 1) u ls)) ≡ Ok v → ((r : Result Written Outcome) → (r >>= (λ u. written_from (n + 1) u ls)) ≡ Ok v → AllByRecursion IsUtf8 ls) → AllByRecursion IsUtf8 (l ∷ ls)
    at true is e more = (IsUtf8-from_is_utf8 l is, more (numbered n (after_line w l)) e)
    at false is e more = absurd cc

refused : (input : List ℕ) → is_utf8 input ≡ false → (r : Result Written Outcome) → written_by input ≡ r → IsErr r
refused input bad (Err o) e = refl
refused input bad (Ok v) e =
    let u = whole input [] (All-nil (λ (x : ℕ). x ≢ 10)) (all_text (lines input) 1 unwritten v e) in
    let z : true ≡ false = sym (is_utf8-from_IsUtf8 input u) ∙ bad in absurd cc

pub law : Utf8Law
law input = (
  λ is. by_rules (lines input) 1 unwritten (each input [] (All-nil (λ (x : ℕ). x ≢ 10)) (IsUtf8-from_is_utf8 input is)),
  λ bad. refused input bad (written_by input) refl,
)

-- ## one line, by the test

pub no_text : (n : ℕ) (w : Written) (l : List ℕ) → (IsUtf8 l → ⊥) → line_read n w l ≡ Err outcome.NoText
no_text n w l none = at (is_utf8 l) refl
  where
    at : (b : Bool) → is_utf8 l ≡ b → (if b then numbered n (after_line w l) else Err outcome.NoText) ≡ Err outcome.NoText
    at true e = absurd (none (IsUtf8-from_is_utf8 l e))
    at false e = refl

pub text_read : (n : ℕ) (w : Written) (l t : List ℕ) (r : Result Written Rule) → t ≡ l → IsUtf8 l → after_line w t ≡ r → line_read n w l ≡ numbered n r
text_read n w l t r is valid e =
    ap (λ (b : Bool). if b then numbered n (after_line w l) else Err outcome.NoText) (is_utf8-from_IsUtf8 l valid)
    ∙ ap (λ (x : List ℕ). numbered n (after_line w x)) (sym is) ∙ ap (numbered n) e
