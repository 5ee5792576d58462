-- What comes of an input: the first line that is no UTF-8 or breaks a rule, a refusal, or what was
-- played.
use Rattle.std.specs.Prelude.{◌≡◌, ℕ, ◌+◌, if◌then◌else◌, List, [], ◌∷◌, map, Some, None, Ok, Err}
use Rattle.std.specs.Prelude.{vec_items, Option, Result}
use Rattle.std.specs.Str.{is_utf8}
use Rattle.std.specs.Str.Lines.{lines}
use Rattle.fault.specs.declared.kinds.KeyFault.{KeyFault}
use Rattle.fault.specs.declared.kinds.Placed.{Placed}
use Rattle.fault.specs.Refusals.{Refusal, IsRefusal, key_faults}
use Rattle.poet.specs.Functions.{Functions}
use Rattle.session.specs.Calls.{key_check}
use Rattle.script.specs.Plays.{CoursePlayed, tag_of}
use Rattle.script.specs.declared.played.Played.{Played}
use Rattle.script.specs.declared.course.Course.{Course as Calls}
use Rattle.script.specs.declared.course.Course.TheVariants as course
use Rattle.script.specs.declared.played.End.{End}
use Rattle.script.specs.declared.course.Stretch.{Stretch}
use Rattle.suites.specs.declared.listed.Listed.{Listed}
use Rattle.suites.specs.Listed.{functions_of, listed}
use Rattle.replay.specs.declared.lines.Piece.{Piece}
use Rattle.replay.specs.declared.lines.Rule.{Rule}
use Rattle.replay.specs.declared.report.Outcome.{Outcome}
use Rattle.replay.specs.declared.report.Outcome.TheVariants as outcome
use Rattle.replay.specs.declared.written.Body.{Body}
use Rattle.replay.specs.declared.written.Body.TheVariants as body
use Rattle.replay.specs.declared.written.Script.{Script}
use Rattle.replay.specs.Lines.{Brought, ◌>>=◌}
use Rattle.replay.specs.Scripts.{Course, Sealing, Opening, Written, unwritten, after_line}
use Rattle.replay.specs.Scripts.{written_in}

-- the body calls that a script holds
abbrev pub pieces_in : Option Body → List Piece
pieces_in None = []
pieces_in (Some (body.Seal pieces finish)) = vec_items pieces
pieces_in (Some (body.Open pieces tag)) = vec_items pieces

-- the calls of a course, without where their bytes lie in memory
abbrev pub brought_by : Stretch → Brought
brought_by s = record { bytes = s.bytes.now; room = s.room }

abbrev pub course_by : Calls → Option Course
course_by course.Heading = None
course_by (course.Seal bodies finish) = Some (Sealing (map brought_by bodies.now) finish)
course_by (course.Open bodies tag) = Some (Opening (map brought_by bodies.now) (tag_of tag))

-- The written session was played under the functions of a suite, and this was kept of it.
pub record PlayedAs (under : List ℕ → Functions) (w : Written) (p : Played) (e : End) : Type 0 where
  pub headers : List Stretch
  pub bytes : map (λ s. s.bytes.now) headers ≡ w.headers
  pub course : Calls
  pub is : course_by course ≡ w.course
  pub played : CoursePlayed course under w.key headers p e

-- What comes of it, by the check of the key.
abbrev pub ComesUnder : (under : List ℕ → Functions) → Option (Refusal KeyFault) → Written
    → Outcome → Type 0
ComesUnder under (Some r) w o =
    (f : Placed KeyFault) × (o ≡ outcome.Refused f) × IsRefusal key_faults r f
ComesUnder under None w o =
    (p : Played) × (e : End) × (o ≡ outcome.Played p e) × PlayedAs under w p e

-- ... and before that, by the suite of its number
abbrev pub ComesListed : Result Listed (Placed KeyFault) → Written → Outcome → Type 0
ComesListed (Err f) w o = o ≡ outcome.Refused f
ComesListed (Ok s) w o = ComesUnder (functions_of s) (key_check w.key) w o

-- what a line writes, or comes to, that is line n
abbrev pub numbered : (n : ℕ) → Result Written Rule → Result Written Outcome
numbered n (Ok w) = Ok w
numbered n (Err r) = Err (outcome.Broken n r)

-- What is written once line n is read too; or what the line comes to, if it is no UTF-8 or breaks
-- a rule.
abbrev pub line_read : (n : ℕ) → Written → (line : List ℕ) → Result Written Outcome
line_read n w l = if is_utf8 l then numbered n (after_line w l) else Err outcome.NoText

-- What the lines write, the first of which is line n; or what the first comes to that is no UTF-8
-- or breaks a rule, whatever stands behind it.
abbrev pub written_from : (n : ℕ) → Written → List (List ℕ) → Result Written Outcome
written_from n w [] = Ok w
written_from n w (l ∷ ls) = line_read n w l >>= (λ v. written_from (n + 1) v ls)

-- ... and what an input writes. Its lines end at each byte 10, and lose one byte 13 before it.
abbrev pub written_by : (input : List ℕ) → Result Written Outcome
written_by input = written_from 1 unwritten (lines input)

abbrev pub ComesWritten : Result Written Outcome → Outcome → Type 0
ComesWritten (Err b) o = o ≡ b
ComesWritten (Ok w) o = ComesListed (listed w.suite) w o

-- What comes of an input.
abbrev pub Comes : (input : List ℕ) → Outcome → Type 0
Comes input o = ComesWritten (written_by input) o

-- ## What the program's types hold

-- what a line was read as: this is written now, or it comes to that
abbrev pub read_as : Result (Unit {0}) Outcome → Written → Result Written Outcome
read_as (Ok x) w = Ok w
read_as (Err o) w = Err o

-- a script that was read to its end, or what a line came to
abbrev pub written_or : Result Script Outcome → Result Written Outcome
written_or (Ok s) = Ok (written_in s)
written_or (Err o) = Err o
