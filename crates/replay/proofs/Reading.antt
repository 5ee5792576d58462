-- The lines of a session are read as that session.
use Rattle.std.proofs.Common.{◌≡◌, ℕ, suc, ◌+◌, ◌/◌, ◌%◌, ◌^◌, ◌<◌, ◌≤◌, ◌==◌, ◌&&◌, Bool, true, false, if◌then◌else◌, nat_lt, get_or, List, [], ◌∷◌, ◌++◌, length, take, drop, map, codes, decimal, Some, None, Ok, Err, Option, Result, refl, sym, ap, ◌∙◌, subst, arith, append_assoc, append-nil}
use Rattle.std.specs.List.{AllByRecursion, list_all, position_or_len}
use Rattle.std.specs.Str.{IsAscii}
use Rattle.std.specs.Option.{IfSome}
use Rattle.std.specs.Str.Parse.{AllDigits}
use Rattle.std.proofs.lemmas.Bool.Decides.{nat_tests}
use Rattle.std.proofs.lemmas.Fmt.{decimal_is_IsNumeral, IsAscii-decimal}
use Rattle.std.proofs.lemmas.Str.{IsAscii-append, IsUtf8-from_ascii, is_utf8-from_IsUtf8}
use Rattle.std.proofs.lemmas.Str.Ascii.{IsAscii-nil, IsAscii-cons}
use Rattle.std.proofs.lemmas.Str.Parse.{digit_from_value}
use Rattle.hex.specs.Hex.{encode_lower, encode_with, lower_digits, decode_pairs, IsBytes}
use Rattle.hex.proofs.HexLemmas.{decode_of-encode_lower}
use Rattle.replay.specs.Lines.{Brought, SuiteIs, KeyIs, HeaderCall, BodyCall, FinishCall, bytes_of, decoded, said_by, ◌>>=◌}
use Rattle.replay.specs.Scripts.{Course, Sealing, Opening, Written, unwritten, after, after_line}
use Rattle.replay.specs.declared.report.Outcome.{Outcome}
use Rattle.replay.specs.declared.report.Outcome.TheVariants as outcome
use Rattle.replay.specs.Outcomes.{line_read, numbered, written_from}
use Rattle.replay.specs.Sessions.{IsCall, IsCourse, IsSession, header_line, body_line, course_lines, lines_of}
use Rattle.replay.proofs.Numbers.{written}

-- ## one line

bytes : (xs : List ℕ) → IsBytes xs → bytes_of (encode_lower xs) ≡ Ok xs
bytes xs h = ap decoded (decode_of-encode_lower xs h)

suite_line : (n : ℕ) → n < 2 ^ 8 → said_by (codes "suite " ++ decimal n) ≡ Ok (SuiteIs n)
suite_line n h = rw (written (2 ^ 8) n h (omega arith)) refl

key_line : (xs : List ℕ) → IsBytes xs → said_by (codes "key " ++ encode_lower xs) ≡ Ok (KeyIs xs)
key_line xs h = rw (bytes xs h) refl

head : (xs : List ℕ) → IsBytes xs → said_by (header_line xs) ≡ Ok (HeaderCall xs)
head xs h = rw (bytes xs h) refl

finish : (xs : List ℕ) → IsBytes xs → said_by (codes "finish " ++ encode_lower xs) ≡ Ok (FinishCall xs)
finish xs h = rw (bytes xs h) refl

no_tag : said_by (codes "finish") ≡ Ok (FinishCall [])
unfolding decode_pairs
no_tag = refl

-- a number before a space
other : (c : ℕ) → 48 ≤ c → (c == 32) ≡ false
other c h = grind (arith, nat_tests)

number_first : (ds r : List ℕ) → AllDigits 10 ds → position_or_len (λ c. c == 32) (ds ++ 32 ∷ r) ≡ length ds
number_first [] r all = refl
number_first (d ∷ ds) r all = let e = other d (digit_from_value d all.0).0 in
    let more : 1 + length ds ≡ suc (length ds) = omega arith in
    rw (e, number_first ds r all.1) more

front : (ds r : List ℕ) → take (length ds) (ds ++ r) ≡ ds
front [] r = refl
front (d ∷ ds) r = ap (λ (l : List ℕ). d ∷ l) (front ds r)

behind : (ds r : List ℕ) (c : ℕ) → drop (suc (length ds)) (ds ++ c ∷ r) ≡ r
behind [] r c = refl
behind (d ∷ ds) r c = behind ds r c

back : (ds r : List ℕ) (c : ℕ) → drop (length ds + 1) (ds ++ c ∷ r) ≡ r
back ds r c =
    let e : length ds + 1 ≡ suc (length ds) = omega arith in
    rw e (behind ds r c)

call : (b : Brought) → IsCall b → said_by (body_line b) ≡ Ok (BodyCall b)
call b h =
    let n = decimal_is_IsNumeral b.room (let small = h.room in omega arith) in
    let place = number_first (decimal b.room) (encode_lower b.bytes) n.0.1 in
    rw (place, front (decimal b.room) (32 ∷ encode_lower b.bytes), back (decimal b.room) (encode_lower b.bytes) 32, written (2 ^ 32) b.room h.room (let small = h.room in omega arith), bytes b.bytes h.bytes) refl

-- ## the bytes of a line

ascii : (bs : List ℕ) → list_all (λ b. nat_lt b 128) bs ≡ true → IsAscii bs
ascii [] e = IsAscii-nil
ascii (b ∷ bs) e = at (nat_lt b 128) refl e (λ f. ascii bs f)
  where
    at : (t : Bool) → nat_lt b 128 ≡ t → (t && list_all (λ c. nat_lt c 128) bs) ≡ true → (list_all (λ c. nat_lt c 128) bs ≡ true → IsAscii bs) → IsAscii (b ∷ bs)
    at true is e next = let small : b < 128 = grind (arith, nat_tests) in IsAscii-cons b bs small (next e)
    at false is e next = absurd cc

digits_ascii : (xs : List ℕ) → IsAscii (encode_lower xs)
unfolding encode_with
digits_ascii [] = IsAscii-nil
digits_ascii (b ∷ rest) =
    let low = ascii lower_digits refl in
    IsAscii-cons (get_or lower_digits (b / 16) 0) (get_or lower_digits (b % 16) 0 ∷ encode_lower rest) (low (b / 16)) (IsAscii-cons (get_or lower_digits (b % 16) 0) (encode_lower rest) (low (b % 16)) (digits_ascii rest))

word_ascii : (word xs : List ℕ) → list_all (λ b. nat_lt b 128) word ≡ true → IsAscii (word ++ encode_lower xs)
word_ascii word xs e = IsAscii-append word (encode_lower xs) (ascii word e) (digits_ascii xs)

suite_ascii : (n : ℕ) → n < 2 ^ 8 → IsAscii (codes "suite " ++ decimal n)
suite_ascii n small = IsAscii-append (codes "suite ") (decimal n) (ascii (codes "suite ") refl) (IsAscii-decimal n (omega arith))

body_ascii : (b : Brought) → IsCall b → IsAscii (body_line b)
body_ascii b h =
    let room : b.room < 2 ^ 64 = (let small = h.room in omega arith) in
    let c : 32 < 128 = omega arith in
    IsAscii-append (codes "body ") (decimal b.room ++ 32 ∷ encode_lower b.bytes) (ascii (codes "body ") refl)
    (IsAscii-append (decimal b.room) (32 ∷ encode_lower b.bytes) (IsAscii-decimal b.room room) (IsAscii-cons 32 (encode_lower b.bytes) c (digits_ascii b.bytes)))

-- ## lines one after another

plain : (n : ℕ) (w v : Written) (l : List ℕ) → IsAscii l → after_line w l ≡ Ok v → line_read n w l ≡ Ok v
plain n w v l a e = ap (λ (b : Bool). if b then numbered n (after_line w l) else Err outcome.NoText) (is_utf8-from_IsUtf8 l (IsUtf8-from_ascii l a)) ∙ ap (numbered n) e

line_then : (n : ℕ) (w v x : Written) (l : List ℕ) (ls : List (List ℕ)) → IsAscii l → after_line w l ≡ Ok v → written_from (n + 1) v ls ≡ Ok x → written_from n w (l ∷ ls) ≡ Ok x
line_then n w v x l ls a e h = ap (λ (r : Result Written Outcome). r >>= (λ u. written_from (n + 1) u ls)) (plain n w v l a e) ∙ h

module _ (s : ℕ) (k : List ℕ) where
  abbrev at : List (List ℕ) → Option Course → Written
  at hs c = record { suite = s; key = k; headers = hs; course = c }

  headers : (x : Written) (rest : List (List ℕ)) (hs before : List (List ℕ)) (n : ℕ) → AllByRecursion IsBytes hs
      → ((m : ℕ) → written_from m (at (before ++ hs) None) rest ≡ Ok x)
      → written_from n (at before None) (map header_line hs ++ rest) ≡ Ok x
  headers x rest [] before n all h = subst (λ (b : List (List ℕ)). written_from n (at b None) rest ≡ Ok x) (append-nil before) (h n)
  headers x rest (a ∷ hs) before n all h =
      line_then n (at before None) (at (before ++ a ∷ []) None) x (header_line a) (map header_line hs ++ rest) (word_ascii (codes "header ") a refl)
      (ap (λ r. r >>= after (at before None)) (head a all.0))
      (headers x rest hs (before ++ a ∷ []) (n + 1) all.1 (λ m. subst (λ (b : List (List ℕ)). written_from m (at b None) rest ≡ Ok x) (sym (append_assoc before (a ∷ []) hs)) (h m)))

  module _ (hs : List (List ℕ)) (x : Written) (rest : List (List ℕ)) where
    sealed : (bs before : List Brought) (n : ℕ) → AllByRecursion IsCall bs
        → ((m : ℕ) → written_from m (at hs (Some (Sealing (before ++ bs) false))) rest ≡ Ok x)
        → written_from n (at hs (Some (Sealing before false))) (map body_line bs ++ rest) ≡ Ok x
    sealed [] before n all h = subst (λ (b : List Brought). written_from n (at hs (Some (Sealing b false))) rest ≡ Ok x) (append-nil before) (h n)
    sealed (b ∷ bs) before n all h =
        line_then n (at hs (Some (Sealing before false))) (at hs (Some (Sealing (before ++ b ∷ []) false))) x (body_line b) (map body_line bs ++ rest) (body_ascii b all.0)
        (ap (λ r. r >>= after (at hs (Some (Sealing before false)))) (call b all.0))
        (sealed bs (before ++ b ∷ []) (n + 1) all.1 (λ m. subst (λ (c : List Brought). written_from m (at hs (Some (Sealing c false))) rest ≡ Ok x) (sym (append_assoc before (b ∷ []) bs)) (h m)))

    opened : (bs before : List Brought) (n : ℕ) → AllByRecursion IsCall bs
        → ((m : ℕ) → written_from m (at hs (Some (Opening (before ++ bs) None))) rest ≡ Ok x)
        → written_from n (at hs (Some (Opening before None))) (map body_line bs ++ rest) ≡ Ok x
    opened [] before n all h = subst (λ (b : List Brought). written_from n (at hs (Some (Opening b None))) rest ≡ Ok x) (append-nil before) (h n)
    opened (b ∷ bs) before n all h =
        line_then n (at hs (Some (Opening before None))) (at hs (Some (Opening (before ++ b ∷ []) None))) x (body_line b) (map body_line bs ++ rest) (body_ascii b all.0)
        (ap (λ r. r >>= after (at hs (Some (Opening before None)))) (call b all.0))
        (opened bs (before ++ b ∷ []) (n + 1) all.1 (λ m. subst (λ (c : List Brought). written_from m (at hs (Some (Opening c None))) rest ≡ Ok x) (sym (append_assoc before (b ∷ []) bs)) (h m)))

  course : (hs : List (List ℕ)) (c : Option Course) → IfSome c IsCourse → (n : ℕ) → written_from n (at hs None) (course_lines c) ≡ Ok (at hs c)
  course hs None h n = refl
  course hs (Some (Sealing bs true)) h n =
      line_then n (at hs None) (at hs (Some (Sealing [] false))) (at hs (Some (Sealing bs true))) (codes "seal") (map body_line bs ++ codes "finish" ∷ []) (ascii (codes "seal") refl) refl
      (sealed hs (at hs (Some (Sealing bs true))) (codes "finish" ∷ []) bs [] (n + 1) h
      (λ m. line_then m (at hs (Some (Sealing bs false))) (at hs (Some (Sealing bs true))) (at hs (Some (Sealing bs true))) (codes "finish") [] (ascii (codes "finish") refl)
      (ap (λ r. r >>= after (at hs (Some (Sealing bs false)))) no_tag) refl))
  course hs (Some (Sealing bs false)) h n =
      line_then n (at hs None) (at hs (Some (Sealing [] false))) (at hs (Some (Sealing bs false))) (codes "seal") (map body_line bs ++ []) (ascii (codes "seal") refl) refl
      (sealed hs (at hs (Some (Sealing bs false))) [] bs [] (n + 1) h (λ m. refl))
  course hs (Some (Opening bs None)) h n =
      line_then n (at hs None) (at hs (Some (Opening [] None))) (at hs (Some (Opening bs None))) (codes "open") (map body_line bs) (ascii (codes "open") refl) refl
      (subst (λ (ls : List (List ℕ)). written_from (n + 1) (at hs (Some (Opening [] None))) ls ≡ Ok (at hs (Some (Opening bs None)))) (append-nil (map body_line bs))
      (opened hs (at hs (Some (Opening bs None))) [] bs [] (n + 1) h.0 (λ m. refl)))
  course hs (Some (Opening bs (Some T))) h n =
      line_then n (at hs None) (at hs (Some (Opening [] None))) (at hs (Some (Opening bs (Some T)))) (codes "open") (map body_line bs ++ (codes "finish " ++ encode_lower T) ∷ []) (ascii (codes "open") refl) refl
      (opened hs (at hs (Some (Opening bs (Some T)))) ((codes "finish " ++ encode_lower T) ∷ []) bs [] (n + 1) h.0
      (λ m. line_then m (at hs (Some (Opening bs None))) (at hs (Some (Opening bs (Some T)))) (at hs (Some (Opening bs (Some T)))) (codes "finish " ++ encode_lower T) [] (word_ascii (codes "finish ") T refl)
      (ap (λ r. r >>= after (at hs (Some (Opening bs None)))) (finish T h.1)) refl))

pub session : (w : Written) → IsSession w → written_from 1 unwritten (lines_of w) ≡ Ok w
session w h =
    line_then 1 unwritten (at w.suite [] [] None) w (codes "suite " ++ decimal w.suite) ((codes "key " ++ encode_lower w.key) ∷ (map header_line w.headers ++ course_lines w.course)) (suite_ascii w.suite h.suite) (ap (λ r. r >>= after unwritten) (suite_line w.suite h.suite))
    (line_then 2 (at w.suite [] [] None) (at w.suite w.key [] None) w (codes "key " ++ encode_lower w.key) (map header_line w.headers ++ course_lines w.course) (word_ascii (codes "key ") w.key refl) (ap (λ r. r >>= after (at w.suite [] [] None)) (key_line w.key h.key))
    (headers w.suite w.key w (course_lines w.course) w.headers [] 3 h.headers (λ m. course w.suite w.key w.headers w.course h.course m)))
