-- What the log keeps of one call, by its answer. The log p became p'.
use Rattle.std.specs.Prelude.{◌≡◌, ℕ, List, [], ◌∷◌, ◌++◌, take, Ok, Err, vec_items, Result}
use Rattle.fault.specs.declared.kinds.SessionFault.{SessionFault}
use Rattle.fault.specs.declared.kinds.Placed.{Placed}
use Rattle.script.specs.declared.played.Played.{Played}
use Rattle.session.specs.Runs.{last_of}
use Rattle.script.specs.declared.played.Answer.TheVariants.{Header, Body, Finish}

-- the bytes that a call brought, if it was accepted
abbrev pub kept : {X : Type 0} → Result X (Placed SessionFault) → List ℕ → List ℕ
kept (Ok x) P = P
kept (Err e) P = []

-- the front of the buffer that a body call wrote to
abbrev pub written_of : Result (ℕ × ℕ) (Placed SessionFault) → List ℕ → List ℕ
written_of (Ok n) b = take n.0 b
written_of (Err e) b = []

pub record HeaderKept (r : Result (Unit {0}) (Placed SessionFault)) (P : List ℕ)
    (p p' : Played) : Type 0 where
  pub header : vec_items p'.header ≡ vec_items p.header ++ kept r P
  pub body : p'.body ≡ p.body
  pub out : p'.out ≡ p.out
  pub answers : vec_items p'.answers ≡ vec_items p.answers ++ Header r ∷ []

pub record BodyKept (r : Result (ℕ × ℕ) (Placed SessionFault)) (P b : List ℕ)
    (p p' : Played) : Type 0 where
  pub header : p'.header ≡ p.header
  pub body : vec_items p'.body ≡ vec_items p.body ++ kept r P
  pub out : vec_items p'.out ≡ vec_items p.out ++ written_of r b
  pub answers : vec_items p'.answers ≡ vec_items p.answers ++ Body r ∷ []

pub record FinishKept (r : Result ℕ (Placed SessionFault)) (last : List ℕ)
    (p p' : Played) : Type 0 where
  pub header : p'.header ≡ p.header
  pub body : p'.body ≡ p.body
  pub out : vec_items p'.out ≡ vec_items p.out ++ last_of r last
  pub answers : vec_items p'.answers ≡ vec_items p.answers ++ Finish r ∷ []
