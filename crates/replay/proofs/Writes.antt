-- One text written behind another.
use Rattle.std.proofs.Common.{◌≡◌, ℕ, ◌/◌, ◌%◌, true, false, List, [], ◌∷◌, ◌++◌, codes, length, get_or, arith, IsErr, OnErr, Ok, Err, Option, Result, refl, sym, ap, ◌∙◌, subst, inl, append_assoc, append-nil}
use Rattle.std.specs.Io.KnownBytes.{Appends}
use Rattle.std.proofs.KnownBytes.{Appends-nil, Appends-trans}
use Rattle.hex.specs.Hex.{encode_lower, encode_with, lower_digits}
use Rattle.streams.specs.Streams.{WritesFront, Wrote}
use Rattle.replay.specs.declared.report.Outcome.{Outcome}
use Rattle.replay.specs.Runs.{Decides, Ran}
use Rattle.replay.specs.Texts.{line, outcome_text}

-- what holds in any case holds at an error
pub any_err : {A E P : Type 0} (r : Result A E) → P → OnErr r P
any_err (Ok x) p = tt
any_err (Err e) p = p

pub failed_text : {E : Type 0} (a b : Option (List ℕ)) (text : List ℕ) (r : Result (Unit {0}) E) → IsErr r → WritesFront a b text → Wrote a b text r
failed_text a b text (Ok x) bad front = let z : false ≡ true = bad in absurd cc
failed_text a b text (Err e) bad front = front

pub nothing_written : (a : Option (List ℕ)) (text : List ℕ) → WritesFront a a text
nothing_written a text = ([], text, refl, Appends-nil a)

pub front_behind : (a b c : Option (List ℕ)) (done text rest all : List ℕ) → done ++ (text ++ rest) ≡ all → Appends a b done → WritesFront b c text → WritesFront a c all
front_behind a b c done text rest all e before w = (
  done ++ w.0,
  w.1 ++ rest,
  append_assoc done w.0 (w.1 ++ rest) ∙ ap (λ (l : List ℕ). done ++ l) (sym (append_assoc w.0 w.1 rest) ∙ ap (λ (l : List ℕ). l ++ rest) w.2) ∙ e,
  Appends-trans a b c done w.0 before w.3,
)

pub wrote_behind : {E : Type 0} (a b c : Option (List ℕ)) (done text all : List ℕ) (r : Result (Unit {0}) E) → done ++ text ≡ all → Appends a b done → Wrote b c text r → Wrote a c all r
wrote_behind a b c done text all (Ok x) e before w = subst (Appends a c) e (Appends-trans a b c done text before w)
wrote_behind a b c done text all (Err x) e before w = front_behind a b c done text [] all (ap (λ (l : List ℕ). done ++ l) (append-nil text) ∙ e) before w

pub as_text : {E : Type 0} (a b : Option (List ℕ)) (t u : List ℕ) (r : Result (Unit {0}) E) → t ≡ u → Wrote a b t r → Wrote a b u r
as_text a b t u r e wrote = subst (λ (x : List ℕ). Wrote a b x r) e wrote

-- the digits of bytes behind bytes
pub encode-append : (xs ys : List ℕ) → encode_lower (xs ++ ys) ≡ encode_lower xs ++ encode_lower ys
unfolding encode_with
encode-append [] ys = refl
encode-append (x ∷ xs) ys = ap (λ (l : List ℕ). get_or lower_digits (x / 16) 0 ∷ get_or lower_digits (x % 16) 0 ∷ l) (encode-append xs ys)

pub digits_parted : (done rest piece more all : List ℕ) → rest ≡ piece ++ more → done ++ encode_lower rest ≡ encode_lower all → done ++ (encode_lower piece ++ encode_lower more) ≡ encode_lower all
digits_parted done rest piece more all e split = ap (λ (l : List ℕ). done ++ l) (sym (ap encode_lower e ∙ encode-append piece more)) ∙ split

pub digits_done : (done rest all : List ℕ) → length rest ≡ 0 → done ++ encode_lower rest ≡ encode_lower all → done ≡ encode_lower all
unfolding encode_with
digits_done done [] all none split = sym (append-nil done) ∙ split
digits_done done (x ∷ xs) all none split = absurd (omega arith)

-- ## the parts of a session's text

abbrev pub header_part : (answers bytes : List ℕ) → List ℕ
header_part answers bytes = (answers ++ codes "header taken: ") ++ encode_lower bytes

abbrev pub body_part : List ℕ → List ℕ
body_part bytes = (10 ∷ codes "body taken:   ") ++ encode_lower bytes

abbrev pub out_part : List ℕ → List ℕ
out_part bytes = (10 ∷ codes "handed out:   ") ++ encode_lower bytes

pub parts : (answers header body out end : List ℕ)
    → header_part answers header ++ (body_part body ++ (out_part out ++ (10 ∷ end)))
    ≡ answers ++ line (codes "header taken: " ++ encode_lower header) (line (codes "body taken:   " ++ encode_lower body) (line (codes "handed out:   " ++ encode_lower out) end))
parts answers header body out end =
    let rest = body_part body ++ (out_part out ++ (10 ∷ end)) in
    ap (λ (l : List ℕ). l ++ rest) (append_assoc answers (codes "header taken: ") (encode_lower header)) ∙ append_assoc answers (codes "header taken: " ++ encode_lower header) rest

pub run_ends : {E : Type 0} (a b h k : Option (List ℕ)) (o : Outcome) (r : Result (Unit {0}) E) → Decides a b o → Wrote h k (outcome_text o) r → Ran a b h k r
run_ends a b h k o (Ok x) d w = (o, d, w)
run_ends a b h k o (Err e) d w = inl (o, d, w)
