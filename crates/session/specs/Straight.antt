-- What one session over whole buffers does; the calls for whole buffers are built on it.
use Rattle.std.specs.Prelude.{◌≡◌, ℕ, List, length, take, drop, Ok, Err, Result}
use Rattle.fault.specs.declared.kinds.SessionFault.{SessionFault}
use Rattle.fault.specs.declared.kinds.Placed.{Placed}
use Rattle.fault.specs.Refusals.{IsRefusal, session_faults}
use Rattle.poet.specs.Functions.{Functions}
use Rattle.poet.specs.Seal.{Seals}
use Rattle.suite.specs.declared.Suite as suite
use Rattle.suite.specs.declared.Permutation as permutation
use Rattle.suite.specs.declared.ChainingHash as hash
use Rattle.suite.specs.declared.HeaderDigest as digest
use Rattle.session.specs.declared.rows.Way as way
use Rattle.session.specs.declared.body.Session.{Session}
use Rattle.session.specs.Calls.{forged}
use Rattle.session.specs.Runs.{Run}
use Rattle.session.specs.Sessions.{SessionAt, writes}

-- the seal of M is in the first bytes of o', which was o, and in t'
pub record Sealed (f : Functions) (H M o o' t' : List ℕ) : Type 0 where
  pub seals : Seals f H M (take (length M) o') t'
  pub rest : drop (length M) o' ≡ drop (length M) o

-- the message that seals to C and T is in the first bytes of o', and it is the only one
pub record Opened (f : Functions) (H C T o o' : List ℕ) : Type 0 where
  pub seals : Seals f H (take (length C) o') C T
  pub only : (M : List ℕ) → Seals f H M C T → M ≡ take (length C) o'
  pub rest : drop (length C) o' ≡ drop (length C) o

-- the run of a session that took the header H and the body a, and gave the front of o'
abbrev pub run : (key H a o' : List ℕ) → Run
run key H a o' = record { key = key; header = H; body = a; out = take (writes (length a)) o' }

-- s is the session after that run: its body call wrote those bytes over the front of o, and its
-- finish is still to come
pub record Begun {A W B C D : Type 0} {u : suite.Ghosts A B C D} {p : permutation.Ghosts B}
    {h : hash.Ghosts C} {d : digest.Ghosts D} {w : way.Ghosts W} (key H a o o' : List ℕ)
    (s : Session A W B C D u p h d w) (written : ℕ) : Type 0 where
  pub written_is : written ≡ writes (length a)
  pub rest : drop (writes (length a)) o' ≡ drop (writes (length a)) o
  pub at : SessionAt (run key H a o') s

-- neither call is refused here
abbrev pub BegunBy : {A W B C D : Type 0} {u : suite.Ghosts A B C D} {p : permutation.Ghosts B}
    {h : hash.Ghosts C} {d : digest.Ghosts D} {w : way.Ghosts W} → (key H a o o' : List ℕ)
    → Result (Session A W B C D u p h d w × ℕ) (Placed SessionFault) → Type 0
BegunBy key H a o o' (Ok q) = Begun key H a o o' q.0 q.1
BegunBy key H a o o' (Err e) = ⊥

-- a sealing is never refused here
abbrev pub SealRun : (f : Functions) (H M o o' t' : List ℕ) → Result (Unit {0})
    (Placed SessionFault) → Type 0
SealRun f H M o o' t' (Ok v) = Sealed f H M o o' t'
SealRun f H M o o' t' (Err e) = ⊥

-- an opening is refused exactly if no message seals so
pub record OpenRefusal (f : Functions) (H C T o o' : List ℕ)
    (e : Placed SessionFault) : Type 0 where
  pub fault : IsRefusal session_faults (forged (length C)) e
  pub none : (M : List ℕ) → Seals f H M C T → ⊥
  pub rest : drop (writes (length C)) o' ≡ drop (writes (length C)) o

abbrev pub OpenRun : (f : Functions) (H C T o o' : List ℕ) → Result (Unit {0})
    (Placed SessionFault) → Type 0
OpenRun f H C T o o' (Ok v) = Opened f H C T o o'
OpenRun f H C T o o' (Err e) = OpenRefusal f H C T o o' e
