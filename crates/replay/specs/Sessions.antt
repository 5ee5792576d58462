-- Every session can be written, a line for each of its calls.
use Rattle.std.specs.Prelude.{◌≡◌, ℕ, ◌^◌, ◌<◌, if◌then◌else◌, List, [], ◌∷◌, ◌++◌, map, codes}
use Rattle.std.specs.Prelude.{decimal, Some, None, Ok, Option}
use Rattle.std.specs.List.{AllByRecursion}
use Rattle.std.specs.Option.{IfSome}
use Rattle.hex.specs.Hex.{encode_lower, IsBytes}
use Rattle.replay.specs.Lines.{Brought}
use Rattle.replay.specs.Scripts.{Course, Sealing, Opening, Written, unwritten}
use Rattle.replay.specs.Outcomes.{written_from}

-- A body call that can be written: bytes, and a room of 32 bits.
pub record IsCall (b : Brought) : Type 0 where
  pub bytes : IsBytes b.bytes
  pub room : b.room < 2 ^ 32

abbrev pub IsCourse : Course → Type 0
IsCourse (Sealing bs finished) = AllByRecursion IsCall bs
IsCourse (Opening bs tag) = AllByRecursion IsCall bs × IfSome tag IsBytes

-- ... and such a session. Its number is a byte.
pub record IsSession (w : Written) : Type 0 where
  pub suite : w.suite < 2 ^ 8
  pub key : IsBytes w.key
  pub headers : AllByRecursion IsBytes w.headers
  pub course : IfSome w.course IsCourse

abbrev pub header_line : List ℕ → List ℕ
header_line bytes = codes "header " ++ encode_lower bytes

abbrev pub body_line : Brought → List ℕ
body_line b = codes "body " ++ (decimal b.room ++ 32 ∷ encode_lower b.bytes)

abbrev pub course_lines : Option Course → List (List ℕ)
course_lines None = []
course_lines (Some (Sealing bs finished)) =
    codes "seal" ∷ (map body_line bs ++ (if finished then codes "finish" ∷ [] else []))
course_lines (Some (Opening bs None)) = codes "open" ∷ map body_line bs
course_lines (Some (Opening bs (Some T))) =
    codes "open" ∷ (map body_line bs ++ (codes "finish " ++ encode_lower T) ∷ [])

-- the lines of a session
abbrev pub lines_of : Written → List (List ℕ)
lines_of w = (codes "suite " ++ decimal w.suite) ∷ (codes "key " ++ encode_lower w.key)
    ∷ (map header_line w.headers ++ course_lines w.course)

-- They are read as that session.
abbrev pub WrittenLaw : Type 0
WrittenLaw = (w : Written) → IsSession w → written_from 1 unwritten (lines_of w) ≡ Ok w
