-- Which lists of lines are a session: what the lines say, and in which order they stand.
use Rattle.std.specs.Prelude.{ℕ, Bool, true, false, if◌then◌else◌, List, [], ◌∷◌, ◌++◌}
use Rattle.std.specs.Prelude.{map, vec_items, Some, None, Ok, Err, Option, Result}
use Rattle.std.specs.Option.{is_some, option_map}
use Rattle.replay.specs.declared.lines.Rule.{Rule}
use Rattle.replay.specs.declared.lines.Rule.TheVariants.{Late, Started, NoBody, Tag}
use Rattle.replay.specs.declared.written.Body.{Body}
use Rattle.replay.specs.declared.written.Body.TheVariants as body
use Rattle.replay.specs.declared.written.Script.{Script}
use Rattle.replay.specs.Lines.{Brought, Said, SuiteIs, KeyIs, HeaderCall, SealStart, OpenStart}
use Rattle.replay.specs.Lines.{BodyCall, FinishCall, ◌>>=◌, said_by, brought_in}

-- What follows the header calls: body calls, and perhaps a finish; that of an opening has a tag.
pub data Course : Type 0 where
  Sealing : List Brought → (finished : Bool) → Course
  Opening : List Brought → (tag : Option (List ℕ)) → Course

-- A session that is written.
pub record Written : Type 0 where
  pub suite : ℕ
  pub key : List ℕ
  pub headers : List (List ℕ)
  pub course : Option Course

-- before the first line
abbrev pub unwritten : Written
unwritten = record { suite = 0; key = []; headers = []; course = None }

-- the suite and the key stand before every call
abbrev pub may_set : (headers : List (List ℕ)) → Option Course → Bool
may_set [] None = true
may_set [] (Some c) = false
may_set (h ∷ hs) c = false

-- A body call stands between the start of the body and its finish.
abbrev pub with_call : Brought → Option Course → Result Course Rule
with_call b None = Err NoBody
with_call b (Some (Sealing bs true)) = Err NoBody
with_call b (Some (Sealing bs false)) = Ok (Sealing (bs ++ b ∷ []) false)
with_call b (Some (Opening bs (Some T))) = Err NoBody
with_call b (Some (Opening bs None)) = Ok (Opening (bs ++ b ∷ []) None)

-- So does the finish, which has a tag at an opening and none at a sealing.
abbrev pub with_finish : (bytes : List ℕ) → Option Course → Result Course Rule
with_finish T None = Err NoBody
with_finish T (Some (Sealing bs true)) = Err NoBody
with_finish [] (Some (Sealing bs false)) = Ok (Sealing bs true)
with_finish (t ∷ T) (Some (Sealing bs false)) = Err Tag
with_finish T (Some (Opening bs (Some U))) = Err NoBody
with_finish T (Some (Opening bs None)) = Ok (Opening bs (Some T))

abbrev pub with_course : Written → Course → Written
with_course w c = record { suite = w.suite; key = w.key; headers = w.headers; course = Some c }

-- The body starts once.
abbrev pub started : Written → Course → Result Written Rule
started w c = if is_some w.course then Err Started else Ok (with_course w c)

-- What is written once a line says this too, or the rule that the line breaks.
abbrev pub after : Written → Said → Result Written Rule
after w (SuiteIs n) =
    if may_set w.headers w.course
    then Ok (record { suite = n; key = w.key; headers = w.headers; course = w.course })
    else Err Late
after w (KeyIs k) =
    if may_set w.headers w.course
    then Ok (record { suite = w.suite; key = k; headers = w.headers; course = w.course })
    else Err Late
after w (HeaderCall h) =
    if is_some w.course then Err Started
    else Ok (record { suite = w.suite; key = w.key; headers = w.headers ++ h ∷ []; course = None })
after w SealStart = started w (Sealing [] false)
after w OpenStart = started w (Opening [] None)
after w (BodyCall b) = with_call b w.course >>= (λ c. Ok (with_course w c))
after w (FinishCall T) = with_finish T w.course >>= (λ c. Ok (with_course w c))

abbrev pub after_line : Written → List ℕ → Result Written Rule
after_line w line = said_by line >>= after w

-- ## What the program's types hold

abbrev pub course_in : Body → Course
course_in (body.Seal pieces finish) = Sealing (map brought_in (vec_items pieces)) finish
course_in (body.Open pieces tag) =
    Opening (map brought_in (vec_items pieces)) (option_map (λ t. vec_items t) tag)

abbrev pub written_in : Script → Written
written_in s = record {
  suite = s.suite;
  key = vec_items s.key;
  headers = map (λ h. vec_items h) (vec_items s.headers);
  course = option_map course_in s.body;
}
