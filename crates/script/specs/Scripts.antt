-- A written session: which of its calls are accepted, what it takes, and what it answers.
use Rattle.std.specs.Prelude.{ℕ, ◌+◌, ◌-◌, List, [], ◌∷◌, ◌++◌, length, Some, None, Ok, Err}
use Rattle.std.specs.Prelude.{vec_items, ⊤, Option, Result}
use Rattle.fault.specs.declared.kinds.SessionFault.{SessionFault}
use Rattle.fault.specs.declared.kinds.Placed.{Placed}
use Rattle.fault.specs.Refusals.{Refusal, placed, IsRefusal, session_faults}
use Rattle.session.specs.Runs.{Run}
use Rattle.session.specs.Sessions.{header_check, body_check, writes, given_of}
use Rattle.script.specs.declared.played.Played.{Played}
use Rattle.script.specs.declared.played.Answer.{Answer}
use Rattle.script.specs.declared.played.Answer.TheVariants.{Header, Body}
use Rattle.script.specs.declared.course.Stretch.{Stretch}

-- the run that was kept
abbrev pub run_of : (key : List ℕ) → Played → Run
run_of key p = record {
  key = key;
  header = vec_items p.header;
  body = vec_items p.body;
  out = vec_items p.out;
}

-- What a call answers by its check: the refusal, or x.
abbrev pub answered : {F X : Type 0} → Option (Refusal F) → X → Result X (Placed F)
answered (Some e) x = Err (placed e)
answered None x = Ok x

-- That refusal has, by the table of faults, the number and the layer that the check states.
abbrev pub ByTable : Option (Refusal SessionFault) → Type 0
ByTable (Some e) = IsRefusal session_faults e (placed e)
ByTable None = ⊤

-- A call that is refused takes nothing.
abbrev pub taken : Option (Refusal SessionFault) → (so_far more : List ℕ) → List ℕ
taken (Some e) S p = S
taken None S p = S ++ p

-- Calls one after another, once S was taken. The check of a call, and its answer, go by the number
-- of bytes that were taken before it.
abbrev pub Check : Type 0
Check = (before : ℕ) → Stretch → Option (Refusal SessionFault)

abbrev pub all_taken : Check → (S : List ℕ) → List Stretch → List ℕ
all_taken check S [] = S
all_taken check S (s ∷ ss) = all_taken check (taken (check (length S) s) S s.bytes.now) ss

abbrev pub all_answers : Check → (answer : ℕ → Stretch → Answer) → (S : List ℕ) → List Stretch
    → List Answer
all_answers check answer S [] = []
all_answers check answer S (s ∷ ss) = answer (length S) s
    ∷ all_answers check answer (taken (check (length S) s) S s.bytes.now) ss

abbrev pub AllByTable : Check → (S : List ℕ) → List Stretch → Type 0
AllByTable check S [] = ⊤
AllByTable check S (s ∷ ss) = ByTable (check (length S) s)
    × AllByTable check (taken (check (length S) s) S s.bytes.now) ss

-- header calls
abbrev pub header_check_of : Check
header_check_of n s = header_check n (length s.bytes.now)

abbrev pub header_answer : (before : ℕ) → Stretch → Answer
header_answer n s = Header (answered (header_check_of n s) tt)

abbrev pub headers_taken : List ℕ → List Stretch → List ℕ
headers_taken H ss = all_taken header_check_of H ss

abbrev pub header_answers : List ℕ → List Stretch → List Answer
header_answers H ss = all_answers header_check_of header_answer H ss

-- body calls: of n bytes taken, those that no row has given out are held
abbrev pub held_of : ℕ → ℕ
held_of n = n - writes n

abbrev pub body_check_of : Check
body_check_of n s = body_check n (held_of n) (length s.bytes.now) s.room

abbrev pub body_answer : (before : ℕ) → Stretch → Answer
body_answer n s = Body (answered (body_check_of n s) (given_of (held_of n + length s.bytes.now)))

abbrev pub bodies_taken : List ℕ → List Stretch → List ℕ
bodies_taken M ss = all_taken body_check_of M ss

abbrev pub body_answers : List ℕ → List Stretch → List Answer
body_answers M ss = all_answers body_check_of body_answer M ss
