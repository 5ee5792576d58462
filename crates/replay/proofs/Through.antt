-- Lines that were read one after another.
use Rattle.std.proofs.Common.{◌≡◌, ℕ, ◌+◌, ◌<◌, ◌-◌, Bool, true, false, ◌⊎◌, inl, inr, List, [], ◌∷◌, ◌++◌, length, take, IfSome, IsOk, OnSome, Some, None, Ok, Err, Option, Result, refl, sym, ap, ◌∙◌, subst, arith, append_assoc, append-nil, length-append}
use Rattle.std.specs.Io.{IsEmptyOrEndsWith, StopsAt, appended_bytes}
use Rattle.std.specs.Io.BufRead.{ends_with_byte, take_through, DropsThrough}
use Rattle.std.specs.Io.KnownBytes.{Consumes, IsAtEnd}
use Rattle.std.specs.Str.Lines.{lines}
use Rattle.std.proofs.KnownBytes.{Consumes-trans}
use Rattle.replay.specs.declared.report.Outcome.{Outcome}
use Rattle.replay.specs.Lines.{◌>>=◌}
use Rattle.replay.specs.Scripts.{Written, unwritten}
use Rattle.replay.specs.Outcomes.{line_read, read_as, written_from, written_by}
use Rattle.replay.specs.Runs.{ReadsLine, ReadsThrough}
use Rattle.replay.proofs.Cuts.{lines-append, nothing_left, whole-push, with_end}

-- ## lines behind lines

pub from-append : (ls ms : List (List ℕ)) (n : ℕ) (w v : Written) → written_from n w ls ≡ Ok v → written_from n w (ls ++ ms) ≡ written_from (n + length ls) v ms
from-append [] ms n w v e =
    let same : w ≡ v = cc in
    let k : n ≡ n + 0 = omega arith in
    ap (λ (u : Written). written_from n u ms) same ∙ ap (λ (i : ℕ). written_from i v ms) k
from-append (l ∷ ls) ms n w v e = at (line_read n w l) e (λ u f. from-append ls ms (n + 1) u v f)
  where
    at : (r : Result Written Outcome) → (r >>= (λ u. written_from (n + 1) u ls)) ≡ Ok v → ((u : Written) → written_from (n + 1) u ls ≡ Ok v → written_from (n + 1) u (ls ++ ms) ≡ written_from (n + 1 + length ls) v ms) → (r >>= (λ u. written_from (n + 1) u (ls ++ ms))) ≡ written_from (n + length (l ∷ ls)) v ms
    at (Ok u) e next = let k : n + 1 + length ls ≡ n + length (l ∷ ls) = omega arith in
        next u e ∙ ap (λ (i : ℕ). written_from i v ms) k
    at (Err o) e next = absurd cc

pub err-append : (ls ms : List (List ℕ)) (n : ℕ) (w : Written) (o : Outcome) → written_from n w ls ≡ Err o → written_from n w (ls ++ ms) ≡ Err o
err-append [] ms n w o e = absurd cc
err-append (l ∷ ls) ms n w o e = at (line_read n w l) e (λ u f. err-append ls ms (n + 1) u o f)
  where
    at : (r : Result Written Outcome) → (r >>= (λ u. written_from (n + 1) u ls)) ≡ Err o → ((u : Written) → written_from (n + 1) u ls ≡ Err o → written_from (n + 1) u (ls ++ ms) ≡ Err o) → (r >>= (λ u. written_from (n + 1) u (ls ++ ms))) ≡ Err o
    at (Ok u) e next = next u e
    at (Err x) e next = e

one_line : (r : Result Written Outcome) → (r >>= (λ v. Ok v)) ≡ r
one_line (Ok v) = refl
one_line (Err o) = refl

-- ## the loop

-- These whole lines were read so far, as many as n, and all of them were taken.
pub record SoFar (old now : Option (List ℕ)) (n : ℕ) (w : Written) : Type 0 where
  pub read : List ℕ
  pub consumes : Consumes old now read
  pub whole : IsEmptyOrEndsWith read 10
  pub counted : length (lines read) ≡ n
  pub written : written_by read ≡ Ok w

at_end : (a b c : Option (List ℕ)) (bs : List ℕ) → Consumes a b bs → OnSome b (IsAtEnd c) → OnSome a (IsAtEnd c)
at_end None b c bs read at = tt
at_end (Some x) None c bs read at = absurd read
at_end (Some x) (Some y) c bs read at = at

nothing : (l : List ℕ) → length l ≡ 0 → l ≡ []
nothing [] e = refl
nothing (x ∷ xs) e = absurd (omega arith)

-- what `read_until` reads at the byte 10
pub line_is_read : (a c : Option (List ℕ)) (old line : List ℕ) → old ≡ [] → Consumes a c (appended_bytes old line) → StopsAt (appended_bytes old line) 10
    → IfSome a (λ xs. line ≡ old ++ take_through 10 xs) → DropsThrough a c 10 → ReadsLine a c line
line_is_read a c old line empty consumes one bytes rest = record {
  consumes = subst (λ (o : List ℕ). Consumes a c (appended_bytes o line)) empty consumes;
  one = subst (λ (o : List ℕ). StopsAt (appended_bytes o line) 10) empty one;
  to_end = λ bare. ends a (subst (λ (o : List ℕ). IfSome a (λ xs. line ≡ o ++ take_through 10 xs)) empty bytes) rest bare;
}
  where
    ends : (a : Option (List ℕ)) → IfSome a (λ xs. line ≡ take_through 10 xs) → DropsThrough a c 10 → ends_with_byte 10 line ≡ false → OnSome a (IsAtEnd c)
    ends None bytes rest bare = tt
    ends (Some xs) bytes rest bare = subst IsAtEnd (sym rest) (nothing_left xs (ap (ends_with_byte 10) (sym bytes) ∙ bare))

pub line_is : (l line text : List ℕ) → l ≡ line → (StopsAt l 10 → 0 < length l → lines l ≡ text ∷ []) → StopsAt line 10 → 0 < length line → lines line ≡ text ∷ []
line_is l line text e is one some = subst (λ (x : List ℕ). StopsAt x 10 → 0 < length x → lines x ≡ text ∷ []) e is one some

pub not_err : (r : Result (Unit {0}) Outcome) (w : Written) → ((o : Outcome) → r ≡ Err o → ⊥) → read_as r w ≡ Ok w
not_err (Ok x) w other = refl
not_err (Err o) w other = absurd (other o refl)

pub bad : (x : Result Written Outcome) (r : Result (Unit {0}) Outcome) (w : Written) (o : Outcome) → x ≡ read_as r w → r ≡ Err o → x ≡ Err o
bad x r w o e is = e ∙ ap (λ (s : Result (Unit {0}) Outcome). read_as s w) is

taken : (w : Written) (r : Result Written Outcome) → r ≡ Ok w → IsOk r
taken w r e = subst IsOk (sym e) refl

module _ (a b c : Option (List ℕ)) (n : ℕ) (w : Written) (s : SoFar a b n w) (line : List ℕ) (h : ReadsLine b c line) where
  -- the input has ended
  pub no_more : length line ≡ 0 → ReadsThrough a c (λ input. written_by input ≡ Ok w)
  no_more none =
      let empty = nothing line none in record {
        before = s.read;
        last = line;
        consumes = Consumes-trans a b c s.read line s.consumes h.consumes;
        whole = s.whole;
        one = h.one;
        taken = taken w (written_by s.read) s.written;
        holds = ap written_by (ap (λ (l : List ℕ). s.read ++ l) empty ∙ append-nil s.read) ∙ s.written;
        decided = inl (at_end a b c s.read s.consumes (h.to_end (ap (ends_with_byte 10) empty)));
      }

  module _ (text : List ℕ) (is : lines line ≡ text ∷ []) (r : Result Written Outcome) (e : line_read (n + 1) w text ≡ r) where
    read_is : written_by (s.read ++ line) ≡ r
    read_is =
        let k : 1 + length (lines s.read) ≡ n + 1 = (let c = s.counted in omega arith) in
        ap (written_from 1 unwritten) (lines-append s.read line s.whole)
        ∙ from-append (lines s.read) (lines line) 1 unwritten w s.written
        ∙ ap (λ (i : ℕ). written_from i w (lines line)) k
        ∙ ap (written_from (n + 1) w) is ∙ one_line (line_read (n + 1) w text) ∙ e

    through : OnSome a (IsAtEnd c) ⊎ ((more : List ℕ) → written_by ((s.read ++ line) ++ more) ≡ r) → ReadsThrough a c (λ input. written_by input ≡ r)
    through decided = record {
      before = s.read;
      last = line;
      consumes = Consumes-trans a b c s.read line s.consumes h.consumes;
      whole = s.whole;
      one = h.one;
      taken = taken w (written_by s.read) s.written;
      holds = read_is;
      decided = decided;
    }

    -- the last line had no end
    pub last_read : ends_with_byte 10 line ≡ false → ReadsThrough a c (λ input. written_by input ≡ r)
    last_read bare = through (inl (at_end a b c s.read s.consumes (h.to_end bare)))

    whole_more : ends_with_byte 10 line ≡ true → IsEmptyOrEndsWith (s.read ++ line) 10
    whole_more is_whole =
        let front = take (length line - 1) line in
        let P : List ℕ → Type 0 = λ l. IsEmptyOrEndsWith l 10 in
        subst P (append_assoc s.read front (10 ∷ []) ∙ ap (λ (l : List ℕ). s.read ++ l) (sym (with_end line is_whole))) (whole-push (s.read ++ front))

    -- a line that is not taken decides, whatever follows
    pub stopped : (o : Outcome) → r ≡ Err o → ReadsThrough a c (λ input. written_by input ≡ r)
    stopped o bad = at (ends_with_byte 10 line) refl
      where
        at : (b : Bool) → ends_with_byte 10 line ≡ b → ReadsThrough a c (λ input. written_by input ≡ r)
        at false bare = last_read bare
        at true is_whole = through (inr (λ more. ap (written_from 1 unwritten) (lines-append (s.read ++ line) more (whole_more is_whole)) ∙ err-append (lines (s.read ++ line)) (lines more) 1 unwritten o (read_is ∙ bad) ∙ sym bad))

    -- a line that is taken, and has its end
    pub one_more : (v : Written) → r ≡ Ok v → ends_with_byte 10 line ≡ true → SoFar a c (n + 1) v
    one_more v ok is_whole = record {
      read = s.read ++ line;
      consumes = Consumes-trans a b c s.read line s.consumes h.consumes;
      whole = whole_more is_whole;
      counted = ap length (lines-append s.read line s.whole ∙ ap (λ (ls : List (List ℕ)). lines s.read ++ ls) is) ∙ length-append (lines s.read) (text ∷ []) ∙ ap (λ (i : ℕ). i + 1) s.counted;
      written = read_is ∙ ok;
    }
