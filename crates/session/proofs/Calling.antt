-- What the calls of a session tell once their checks are passed.
use Rattle.std.proofs.Common.{◌≡◌, ℕ, ◌+◌, ◌≤◌, false, eqb, ltb, List, length, take, drop, IfOk, Ok, Result, arith, le-ltb, ne_eqb}
use Rattle.std.specs.Result.{OnOk, OnErr}
use Rattle.fault.specs.declared.kinds.SessionFault.{SessionFault}
use Rattle.fault.specs.declared.kinds.Placed.{Placed}
use Rattle.fault.specs.Refusals.{RefusedBy, session_faults}
use Rattle.poet.specs.Functions.{Functions}
use Rattle.suite.specs.declared.Suite as suite
use Rattle.suite.specs.declared.Permutation as permutation
use Rattle.suite.specs.declared.ChainingHash as hash
use Rattle.suite.specs.declared.HeaderDigest as digest
use Rattle.poet.specs.Seal.{header_most, body_most}
use Rattle.session.specs.declared.heading.Heading.{Heading}
use Rattle.session.specs.declared.rows.Way as way
use Rattle.session.specs.declared.body.Session.{Session}
use Rattle.session.specs.Runs.{Run, headed, bodied}
use Rattle.session.specs.Sessions.{HeadingAt, SessionAt, header_check, body_check, given_of, held, writes, sealing_check, opening_check}
use Rattle.session.proofs.ByChecks.{header_by, BodyTaken, body_by, SealFinished, SealedBy, OpenJudged, OpenedBy}

pub header_ok : {A B C D : Type 0} {u : suite.Ghosts A B C D} {p : permutation.Ghosts B} {h : hash.Ghosts C} {d : digest.Ghosts D} (R : Run) (P : List ℕ) (s s' : Heading A B C D u p h d) (r : Result (Unit {0}) (Placed SessionFault))
    → length R.header + length P ≤ header_most → HeadingAt R s → ((R : Run) → HeadingAt R s → RefusedBy session_faults (header_check (length R.header) (length P)) r) → OnErr r (s' ≡ s)
    → ((R : Run) → HeadingAt R s → OnOk r (HeadingAt (headed R P) s')) → (r ≡ Ok tt) × HeadingAt (headed R P) s'
header_ok R P s s' r l a f n t =
    let e : ltb header_most (length R.header + length P) ≡ false = le-ltb header_most (length R.header + length P) l in
    rw e at (header_by (header_check (length R.header) (length P)) R P s s' r (f R a) n (t R a))

pub body_ok : {A W B C D : Type 0} {u : suite.Ghosts A B C D} {p : permutation.Ghosts B} {h : hash.Ghosts C} {d : digest.Ghosts D} {w : way.Ghosts W} (R : Run) (P o o' : List ℕ) (s s' : Session A W B C D u p h d w) (r : Result (ℕ × ℕ) (Placed SessionFault))
    → length R.body + length P ≤ body_most → writes (held R + length P) ≤ length o → SessionAt R s → ((R : Run) → SessionAt R s → RefusedBy session_faults (body_check (length R.body) (held R) (length P) (length o)) r) → OnErr r ((s' ≡ s) × (o' ≡ o))
    → ((R : Run) → SessionAt R s → IfOk r (λ n. n ≡ given_of (held R + length P))) → ((R : Run) → SessionAt R s → IfOk r (λ n. drop n.0 o' ≡ drop n.0 o)) → ((R : Run) → SessionAt R s → IfOk r (λ n. SessionAt (bodied R P (take n.0 o')) s'))
    → BodyTaken R P o o' s' r
body_ok R P o o' s s' r l m b f k a q t =
    let e : ltb body_most (length R.body + length P) ≡ false = le-ltb body_most (length R.body + length P) l in
    let d : ltb (length o) (writes (held R + length P)) ≡ false = le-ltb (length o) (writes (held R + length P)) m in
    rw (e, d) at (body_by (body_check (length R.body) (held R) (length P) (length o)) R P o o' s s' r (f R b) k (a R b) (q R b) (t R b))

pub seal_ok : (f : Functions) (R : Run) (l t : List ℕ) (r : Result ℕ (Placed SessionFault)) → 1 ≤ length R.body → SealedBy (sealing_check R) f R l t r → SealFinished f R l t r
seal_ok f R l t r n c =
    let e : eqb (length R.body) 0 ≡ false = ne_eqb (length R.body) 0 (λ z. omega arith) in
    rw e at c

pub open_ok : (f : Functions) (R : Run) (T l : List ℕ) (r : Result ℕ (Placed SessionFault)) → 1 ≤ length R.body → length T ≡ 16 → OpenedBy (opening_check R T) f R T l r → OpenJudged f R T l r
open_ok f R T l r n k c =
    let e : eqb (length R.body) 0 ≡ false = ne_eqb (length R.body) 0 (λ z. omega arith) in
    rw (e, k) at c
