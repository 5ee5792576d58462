-- The promise of a written session, whole: what it takes, answers and hands out, and what that
-- means.
use Rattle.std.specs.Prelude.{◌≡◌, ℕ, ◌-◌, Bool, true, false, List, [], ◌∷◌, ◌++◌, length}
use Rattle.std.specs.Prelude.{take, drop, replicate, vec_items, Some, None, Ok, Err, Option, Result}
use Rattle.std.specs.Borrow.{Bor}
use Rattle.fault.specs.declared.kinds.SessionFault.{SessionFault}
use Rattle.fault.specs.declared.kinds.Placed.{Placed}
use Rattle.fault.specs.Refusals.{Refusal, IsRefusal, Refuses, session_faults}
use Rattle.poet.specs.Functions.{Functions}
use Rattle.poet.specs.Seal.{Seals}
use Rattle.suite.specs.declared.Suite as suite
use Rattle.suite.specs.declared.Permutation as permutation
use Rattle.suite.specs.declared.ChainingHash as hash
use Rattle.suite.specs.declared.HeaderDigest as digest
use Rattle.script.specs.declared.played.Played.{Played}
use Rattle.script.specs.declared.played.Answer.{Answer}
use Rattle.script.specs.declared.played.Answer.TheVariants.{Finish}
use Rattle.script.specs.declared.course.Course.{Course}
use Rattle.script.specs.declared.course.Course.TheVariants.{Heading, Seal, Open}
use Rattle.script.specs.declared.played.End.{End}
use Rattle.script.specs.declared.played.End.TheVariants.{Unfinished, Sealed, Opened}
use Rattle.script.specs.declared.course.Stretch.{Stretch}
use Rattle.session.specs.declared.rows.Way as way
use Rattle.session.specs.declared.body.Session.{Session}
use Rattle.session.specs.Directions.{sealing, opening}
use Rattle.session.specs.Runs.{Run}
use Rattle.session.specs.Promise.{Blocks, AgreesWith}
use Rattle.session.specs.Calls.{forged}
use Rattle.session.specs.Sessions.{SessionAt, writes, sealing_check, opening_check}
use Rattle.script.specs.Scripts.{run_of, AllByTable, header_check_of, body_check_of, held_of}
use Rattle.script.specs.Scripts.{headers_taken, header_answers, bodies_taken, body_answers}

-- Where no finish was accepted, the body calls handed out every whole block that at least one byte
-- follows, and the rest is held back.
abbrev pub HeldBack : Run → Type 0
HeldBack R = length R.out ≡ writes (length R.body)

-- A finish that was accepted handed out the rest as well: all bytes are out, and the last ones are
-- those in its place, with zeros behind them.
pub record LastHanded (R : Run) (last : List ℕ) : Type 0 where
  pub all : length R.out ≡ length R.body
  pub bytes : take (held_of (length R.body)) last ≡ drop (writes (length R.body)) R.out
  pub zeros : drop (held_of (length R.body)) last ≡ replicate (16 - held_of (length R.body)) 0

-- The finish of a sealing, by its check: its answer, its two places and the run.
abbrev pub SealEnds : Option (Refusal SessionFault) → (f : Functions) (R : Run)
    (r : Result ℕ (Placed SessionFault)) (last tag : List ℕ) → Type 0
SealEnds (Some e) f R r last tag = Refuses session_faults e r × (last ≡ replicate 16 0)
    × (tag ≡ replicate 16 0) × ((C T : List ℕ) → Seals f R.header R.body C T → ⊥) × HeldBack R
SealEnds None f R r last tag = (r ≡ Ok (held_of (length R.body)))
    × Seals f R.header R.body R.out tag × LastHanded R last

-- The finish of an opening with the tag T: accepted exactly if some message seals so; that message
-- was handed out, and it is the only one.
abbrev pub OpenVerdict : (f : Functions) (R : Run) (T : List ℕ)
    (r : Result ℕ (Placed SessionFault)) (last : List ℕ) → Type 0
OpenVerdict f R T (Ok n) last = (n ≡ held_of (length R.body)) × Seals f R.header R.out R.body T
    × ((M : List ℕ) → Seals f R.header M R.body T → M ≡ R.out) × LastHanded R last
OpenVerdict f R T (Err e) last = IsRefusal session_faults (forged (length R.body)) e
    × ((M : List ℕ) → Seals f R.header M R.body T → ⊥) × (last ≡ replicate 16 0) × HeldBack R

abbrev pub OpenEnds : Option (Refusal SessionFault) → (f : Functions) (R : Run) (T : List ℕ)
    (r : Result ℕ (Placed SessionFault)) (last : List ℕ) → Type 0
OpenEnds (Some e) f R T r last = Refuses session_faults e r × (last ≡ replicate 16 0)
    × ((M : List ℕ) → Seals f R.header M R.body T → ⊥) × HeldBack R
OpenEnds None f R T r last = OpenVerdict f R T r last

-- What is promised of a sealing under `key`: H is the header taken, M and `before` what was taken
-- and answered before the body calls bs. A refusal among their answers has its number and its layer
-- by the table of faults.
abbrev pub SealFinish : Bool → (f : Functions) (R : Run) (answers : List Answer) (p : Played)
    (e : End) → Type 0
SealFinish false f R answers p e = (e ≡ Unfinished) × (vec_items p.answers ≡ answers) × HeldBack R
SealFinish true f R answers p e = (r : Result ℕ (Placed SessionFault)) × (last : List ℕ)
    × (tag : List ℕ) × (e ≡ Sealed last tag) × (vec_items p.answers ≡ answers ++ Finish r ∷ [])
    × SealEnds (sealing_check R) f R r last tag

pub record SealPromise (under : List ℕ → Functions) (key H M : List ℕ) (before : List Answer)
    (bs : List Stretch) (fin : Bool) (p : Played) (e : End) : Type 0 where
  pub header : vec_items p.header ≡ H
  pub body : vec_items p.body ≡ bodies_taken M bs
  pub by_table : AllByTable body_check_of M bs
  pub blocks : Blocks sealing (under key) (run_of key p)
  pub agrees : AgreesWith sealing (under key) (run_of key p)
  pub finish : SealFinish fin (under key) (run_of key p) (before ++ body_answers M bs) p e

-- ... and of an opening, whose finish is given the tag, if it has one.
abbrev pub OpenFinish : Option (List ℕ) → (f : Functions) (R : Run) (answers : List Answer)
    (p : Played) (e : End) → Type 0
OpenFinish None f R answers p e = (e ≡ Unfinished) × (vec_items p.answers ≡ answers) × HeldBack R
OpenFinish (Some T) f R answers p e = (r : Result ℕ (Placed SessionFault)) × (last : List ℕ)
    × (e ≡ Opened last) × (vec_items p.answers ≡ answers ++ Finish r ∷ [])
    × OpenEnds (opening_check R T) f R T r last

pub record OpenPromise (under : List ℕ → Functions) (key H M : List ℕ) (before : List Answer)
    (bs : List Stretch) (tag : Option (List ℕ)) (p : Played) (e : End) : Type 0 where
  pub header : vec_items p.header ≡ H
  pub body : vec_items p.body ≡ bodies_taken M bs
  pub by_table : AllByTable body_check_of M bs
  pub blocks : Blocks opening (under key) (run_of key p)
  pub agrees : AgreesWith opening (under key) (run_of key p)
  pub finish : OpenFinish tag (under key) (run_of key p) (before ++ body_answers M bs) p e

-- no start: the header alone
pub record HeadPromise (hs : List Stretch) (p : Played) (e : End) : Type 0 where
  pub header : vec_items p.header ≡ headers_taken [] hs
  pub body : vec_items p.body ≡ []
  pub out : vec_items p.out ≡ []
  pub answers : vec_items p.answers ≡ header_answers [] hs
  pub end : e ≡ Unfinished

abbrev pub tag_of : Option (Bor (List ℕ)) → Option (List ℕ)
tag_of None = None
tag_of (Some t) = Some t.now

-- what came of a course, by its kind
abbrev pub CourseKept : Course → (under : List ℕ → Functions) (key : List ℕ)
    → (hs : List Stretch) (p : Played) (e : End) → Type 0
CourseKept Heading under key hs p e = HeadPromise hs p e
CourseKept (Seal bodies fin) under key hs p e = SealPromise under key (headers_taken [] hs) []
    (header_answers [] hs) bodies.now fin p e
CourseKept (Open bodies tag) under key hs p e = OpenPromise under key (headers_taken [] hs) []
    (header_answers [] hs) bodies.now (tag_of tag) p e

-- The promise of a written session, whole: of its course, and that a refusal among the answers of
-- its header calls has its number and its layer by the table.
abbrev pub CoursePlayed : Course → (under : List ℕ → Functions) (key : List ℕ)
    → (hs : List Stretch) (p : Played) (e : End) → Type 0
CoursePlayed c under key hs p e = CourseKept c under key hs p e × AllByTable header_check_of [] hs

-- the same of a session s with the log p before its body calls
abbrev pub SealingPlayed : {A W B C D : Type 0} {u : suite.Ghosts A B C D}
    {x : permutation.Ghosts B} {y : hash.Ghosts C} {z : digest.Ghosts D} {w : way.Ghosts W}
    → List Stretch → Bool → (p p' : Played) → End → Session A W B C D u x y z w → Type 0
SealingPlayed {u = u} bs fin p p' e s = (key : List ℕ) → SessionAt (run_of key p) s
    → SealPromise u.under key (vec_items p.header) (vec_items p.body)
    (vec_items p.answers) bs fin p' e

abbrev pub OpeningPlayed : {A W B C D : Type 0} {u : suite.Ghosts A B C D}
    {x : permutation.Ghosts B} {y : hash.Ghosts C} {z : digest.Ghosts D} {w : way.Ghosts W}
    → List Stretch → Option (Bor (List ℕ)) → (p p' : Played) → End → Session A W B C D u x y z w
    → Type 0
OpeningPlayed {u = u} bs tag p p' e s = (key : List ℕ) → SessionAt (run_of key p) s
    → OpenPromise u.under key (vec_items p.header) (vec_items p.body)
    (vec_items p.answers) bs (tag_of tag) p' e
