-- What each call does, by its check: all that its contract says, gathered as proofs use it.
use Rattle.std.proofs.Common.{◌≡◌, ℕ, ◌+◌, ◌-◌, ◌≤◌, ◌↔◌, List, [], ◌++◌, length, take, drop, replicate, IfOk, IfErr, Some, None, Ok, Err, Option, Result, sym, refl, ap, ◌∙◌, subst, append-nil}
use Rattle.std.specs.Result.{OnOk, OnErr, IsOk}
use Rattle.fault.specs.declared.kinds.SessionFault.{SessionFault}
use Rattle.fault.specs.declared.kinds.Placed.{Placed}
use Rattle.fault.specs.Refusals.{Refusal, IsRefusal, Refuses, RefusedBy, session_faults}
use Rattle.block.specs.Bytes.{Block}
use Rattle.poet.specs.Functions.{Functions, Lawful}
use Rattle.poet.specs.Seal.{Seals}
use Rattle.suite.specs.declared.Suite as suite
use Rattle.suite.specs.declared.Permutation as permutation
use Rattle.suite.specs.declared.ChainingHash as hash
use Rattle.suite.specs.declared.HeaderDigest as digest
use Rattle.session.specs.declared.heading.Heading.{Heading}
use Rattle.session.specs.declared.rows.Way as way
use Rattle.session.specs.declared.body.Session.{Session}
use Rattle.session.specs.Calls.{forged}
use Rattle.session.specs.Directions.{Direction, sealing, opening}
use Rattle.session.specs.Runs.{Run, headed, bodied, finished, ended}
use Rattle.session.specs.Promise.{Blocks, AgreesWith}
use Rattle.session.specs.Sessions.{Taken, HeadingAt, SessionAt, rows_of, held, writes, given_of, opening_check}
use Rattle.session.proofs.Promises.{blocks, agrees, sealed_blocks}

module _ {A B C D : Type 0} {u : suite.Ghosts A B C D} {p : permutation.Ghosts B} {h : hash.Ghosts C} {d : digest.Ghosts D} where
  abbrev pub HeaderBy : Option (Refusal SessionFault) → Run → List ℕ → (s s' : Heading A B C D u p h d) → Result (Unit {0}) (Placed SessionFault) → Type 0
  HeaderBy (Some e) R P s s' r = Refuses session_faults e r × (s' ≡ s)
  HeaderBy None R P s s' r = (r ≡ Ok tt) × HeadingAt (headed R P) s'

  pub header_by : (o : Option (Refusal SessionFault)) (R : Run) (P : List ℕ) (s s' : Heading A B C D u p h d) (r : Result (Unit {0}) (Placed SessionFault)) → RefusedBy session_faults o r → OnErr r (s' ≡ s) → OnOk r (HeadingAt (headed R P) s')
      → HeaderBy o R P s s' r
  header_by (Some e) R P s s' (Ok v) f n t = absurd f
  header_by (Some e) R P s s' (Err x) f n t = (f, n)
  header_by None R P s s' (Ok v) f n t = (refl, t)
  header_by None R P s s' (Err x) f n t = absurd cc

module _ {A W B C D : Type 0} {u : suite.Ghosts A B C D} {p : permutation.Ghosts B} {h : hash.Ghosts C} {d : digest.Ghosts D} {w : way.Ghosts W} where
  pub record BodyTaken (R : Run) (P o o' : List ℕ) (s' : Session A W B C D u p h d w) (r : Result (ℕ × ℕ) (Placed SessionFault)) : Type 0 where
    pub answer : r ≡ Ok (given_of (held R + length P))
    pub rest : drop (writes (held R + length P)) o' ≡ drop (writes (held R + length P)) o
    pub at : SessionAt (bodied R P (take (writes (held R + length P)) o')) s'

  abbrev pub BodyBy : Option (Refusal SessionFault) → Run → (P o o' : List ℕ) → (s s' : Session A W B C D u p h d w) → Result (ℕ × ℕ) (Placed SessionFault) → Type 0
  BodyBy (Some e) R P o o' s s' r = Refuses session_faults e r × (s' ≡ s) × (o' ≡ o)
  BodyBy None R P o o' s s' r = BodyTaken R P o o' s' r

  pub body_by : (c : Option (Refusal SessionFault)) (R : Run) (P o o' : List ℕ) (s s' : Session A W B C D u p h d w) (r : Result (ℕ × ℕ) (Placed SessionFault)) → RefusedBy session_faults c r → OnErr r ((s' ≡ s) × (o' ≡ o))
      → IfOk r (λ n. n ≡ given_of (held R + length P)) → IfOk r (λ n. drop n.0 o' ≡ drop n.0 o) → IfOk r (λ n. SessionAt (bodied R P (take n.0 o')) s') → BodyBy c R P o o' s s' r
  body_by (Some e) R P o o' s s' (Ok n) f k a l t = absurd f
  body_by (Some e) R P o o' s s' (Err x) f k a l t = (f, k.0, k.1)
  body_by None R P o o' s s' (Ok n) f k a l t = record {
    answer = ap Ok a;
    rest = subst (λ (i : ℕ × ℕ). drop i.0 o' ≡ drop i.0 o) a l;
    at = subst (λ (i : ℕ × ℕ). SessionAt (bodied R P (take i.0 o')) s') a t;
  }
  body_by None R P o o' s s' (Err x) f k a l t = absurd cc

-- a finish of a sealing, which leaves l and t in its places
pub record SealFinished (f : Functions) (R : Run) (l t : List ℕ) (r : Result ℕ (Placed SessionFault)) : Type 0 where
  pub answer : r ≡ Ok (held R)
  pub seals : Seals f R.header R.body (R.out ++ take (held R) l) t
  pub zeros : drop (held R) l ≡ replicate (16 - held R) 0

abbrev pub SealedBy : Option (Refusal SessionFault) → (f : Functions) → Run → (l t : List ℕ) → Result ℕ (Placed SessionFault) → Type 0
SealedBy (Some e) f R l t r = Refuses session_faults e r × (l ≡ replicate 16 0) × (t ≡ replicate 16 0)
SealedBy None f R l t r = SealFinished f R l t r

-- a finish of an opening with the tag T, which leaves l in its place
pub record OpenFinished (f : Functions) (R : Run) (T l : List ℕ) : Type 0 where
  pub seals : Seals f R.header (R.out ++ take (held R) l) R.body T
  pub only : (M : List ℕ) → Seals f R.header M R.body T → M ≡ R.out ++ take (held R) l
  pub zeros : drop (held R) l ≡ replicate (16 - held R) 0

pub record OpenRefused (f : Functions) (R : Run) (T l : List ℕ) (e : Placed SessionFault) : Type 0 where
  pub fault : IsRefusal session_faults (forged (length R.body)) e
  pub none : (M : List ℕ) → Seals f R.header M R.body T → ⊥
  pub zeros : l ≡ replicate 16 0

abbrev pub OpenJudged : (f : Functions) → Run → (T l : List ℕ) → Result ℕ (Placed SessionFault) → Type 0
OpenJudged f R T l (Ok n) = (n ≡ held R) × OpenFinished f R T l
OpenJudged f R T l (Err e) = OpenRefused f R T l e

abbrev pub OpenedBy : Option (Refusal SessionFault) → (f : Functions) → Run → (T l : List ℕ) → Result ℕ (Placed SessionFault) → Type 0
OpenedBy (Some e) f R T l r = Refuses session_faults e r × (l ≡ replicate 16 0) × ((M : List ℕ) → Seals f R.header M R.body T → ⊥)
OpenedBy None f R T l r = OpenJudged f R T l r

-- from the clauses of a finish ...
pub sealed_by : (o : Option (Refusal SessionFault)) (f : Functions) (R : Run) (l t : List ℕ) (r : Result ℕ (Placed SessionFault)) → RefusedBy session_faults o r → OnErr r ((l ≡ replicate 16 0) × (t ≡ replicate 16 0))
    → IfOk r (λ n. (n ≡ held R) × Seals f R.header R.body (R.out ++ take n l) t) → IfOk r (λ n. drop n l ≡ replicate (16 - n) 0) → SealedBy o f R l t r
sealed_by (Some e) f R l t (Ok n) c k s z = absurd c
sealed_by (Some e) f R l t (Err x) c k s z = (c, k.0, k.1)
sealed_by None f R l t (Ok n) c k s z = record {
  answer = ap Ok s.0;
  seals = subst (λ (i : ℕ). Seals f R.header R.body (R.out ++ take i l) t) s.0 s.1;
  zeros = subst (λ (i : ℕ). drop i l ≡ replicate (16 - i) 0) s.0 z;
}
sealed_by None f R l t (Err x) c k s z = absurd cc

pub opened_by : (o : Option (Refusal SessionFault)) (f : Functions) (R : Run) (T l : List ℕ) (r : Result ℕ (Placed SessionFault)) → ((e : Refusal SessionFault) → o ≡ Some e → Refuses session_faults e r)
    → (o ≡ None → IfErr r (IsRefusal session_faults (forged (length R.body)))) → OnErr r (l ≡ replicate 16 0) → (IsOk r ↔ ((M : List ℕ) × Seals f R.header M R.body T))
    → IfOk r (λ n. (n ≡ held R) × Seals f R.header (R.out ++ take n l) R.body T) → IfOk r (λ n. (M : List ℕ) → Seals f R.header M R.body T → M ≡ R.out ++ take n l) → IfOk r (λ n. drop n l ≡ replicate (16 - n) 0) → OpenedBy o f R T l r
opened_by (Some e) f R T l (Ok n) c g k a m u z = absurd (c e refl)
opened_by (Some e) f R T l (Err x) c g k a m u z = (c e refl, k, λ M s. let i = a.1 (M, s) in absurd cc)
opened_by None f R T l (Ok n) c g k a m u z = (
  m.0,
  record {
    seals = subst (λ (i : ℕ). Seals f R.header (R.out ++ take i l) R.body T) m.0 m.1;
    only = λ M s. u M s ∙ ap (λ (i : ℕ). R.out ++ take i l) m.0;
    zeros = subst (λ (i : ℕ). drop i l ≡ replicate (16 - i) 0) m.0 z;
  },
)
opened_by None f R T l (Err x) c g k a m u z = record { fault = g refl; none = λ M s. let i = a.1 (M, s) in absurd cc; zeros = k }

-- ... and to them
module _ (f : Functions) (L : Lawful f) (R : Run) (t : Taken R) where
  -- a finish that refuses hands out nothing
  nothing_more : (w : Direction) → R.out ≡ (rows_of w f R).out → Blocks w f (finished R [])
  nothing_more w oe = subst (λ (o : List ℕ). Blocks w f (record { key = R.key; header = R.header; body = R.body; out = o })) (sym (append-nil R.out)) (blocks f L w R t oe)

  pub record SealEnd (o : Option (Refusal SessionFault)) (l g : List ℕ) (r : Result ℕ (Placed SessionFault)) : Type 0 where
    pub refused : RefusedBy session_faults o r
    pub seals : IfOk r (λ n. (n ≡ held R) × Seals f R.header R.body (R.out ++ take n l) g)
    pub zeros : IfOk r (λ n. drop n l ≡ replicate (16 - n) 0)
    pub accepts : IsOk r ↔ ((C : List ℕ) × (T : List ℕ) × Seals f R.header R.body C T)
    pub blocks : Blocks sealing f (ended R r l)
    pub two_runs : AgreesWith sealing f (ended R r l)

  pub seal_end : (o : Option (Refusal SessionFault)) (l g : List ℕ) (r : Result ℕ (Placed SessionFault)) → R.out ≡ (rows_of sealing f R).out → ((C T : List ℕ) → Seals f R.header R.body C T → o ≡ None) → SealedBy o f R l g r → SealEnd o l g r
  seal_end (Some e) l g (Ok n) oe c s = absurd s.0
  seal_end (Some e) l g (Err x) oe c s =
      let b = nothing_more sealing oe in
      record { refused = s.0; seals = tt; zeros = tt; accepts = ((λ i. absurd cc), (λ p. let i = c p.0 p.1 p.2 in absurd cc)); blocks = b; two_runs = agrees sealing f L _ b }
  seal_end None l g (Ok n) oe c s =
      let i : held R ≡ n = let a = s.answer in cc in
      let q : Seals f R.header R.body (R.out ++ take n l) g = subst (λ (j : ℕ). Seals f R.header R.body (R.out ++ take j l) g) i s.seals in
      let b = (sealed_blocks f L R.key R.header R.body (R.out ++ take n l) g q).0 in
      record { refused = refl; seals = (sym i, q); zeros = subst (λ (j : ℕ). drop j l ≡ replicate (16 - j) 0) i s.zeros; accepts = ((λ z. (R.out ++ take n l, g, q)), (λ p. refl)); blocks = b; two_runs = agrees sealing f L _ b }
  seal_end None l g (Err x) oe c s = let a = s.answer in absurd cc

  pub record OpenEnd (o : Option (Refusal SessionFault)) (T l : List ℕ) (r : Result ℕ (Placed SessionFault)) : Type 0 where
    pub refused : (e : Refusal SessionFault) → o ≡ Some e → Refuses session_faults e r
    pub forgery : o ≡ None → IfErr r (IsRefusal session_faults (forged (length R.body)))
    pub accepts : IsOk r ↔ ((M : List ℕ) × Seals f R.header M R.body T)
    pub message : IfOk r (λ n. (n ≡ held R) × Seals f R.header (R.out ++ take n l) R.body T)
    pub only : IfOk r (λ n. (M : List ℕ) → Seals f R.header M R.body T → M ≡ R.out ++ take n l)
    pub zeros : IfOk r (λ n. drop n l ≡ replicate (16 - n) 0)
    pub blocks : Blocks opening f (ended R r l)
    pub two_runs : AgreesWith opening f (ended R r l)

  pub open_end : (o : Option (Refusal SessionFault)) (T l : List ℕ) (r : Result ℕ (Placed SessionFault)) → R.out ≡ (rows_of opening f R).out → OpenedBy o f R T l r → OpenEnd o T l r
  open_end (Some e) T l (Ok n) oe s = absurd s.0
  open_end (Some e) T l (Err x) oe s =
      let b = nothing_more opening oe in
      record {
        refused = λ d q. let i : e ≡ d = cc in subst (λ (j : Refusal SessionFault). Refuses {X = ℕ} session_faults j (Err x)) i s.0;
        forgery = λ q. absurd cc;
        accepts = ((λ i. absurd cc), (λ p. absurd (s.2 p.0 p.1)));
        message = tt;
        only = tt;
        zeros = tt;
        blocks = b;
        two_runs = agrees opening f L _ b;
      }
  open_end None T l (Ok n) oe s =
      let i = sym s.0 in
      let q : Seals f R.header (R.out ++ take n l) R.body T = subst (λ (j : ℕ). Seals f R.header (R.out ++ take j l) R.body T) i s.1.seals in
      let b = (sealed_blocks f L R.key R.header (R.out ++ take n l) R.body T q).1 in
      record {
        refused = λ d e. absurd cc;
        forgery = λ e. tt;
        accepts = ((λ z. (R.out ++ take n l, q)), (λ p. refl));
        message = (s.0, q);
        only = λ M m. s.1.only M m ∙ ap (λ (j : ℕ). R.out ++ take j l) i;
        zeros = subst (λ (j : ℕ). drop j l ≡ replicate (16 - j) 0) i s.1.zeros;
        blocks = b;
        two_runs = agrees opening f L _ b;
      }
  open_end None T l (Err x) oe s =
      let b = nothing_more opening oe in
      record {
        refused = λ d e. absurd cc;
        forgery = λ e. s.fault;
        accepts = ((λ i. absurd cc), (λ p. absurd (s.none p.0 p.1)));
        message = tt;
        only = tt;
        zeros = tt;
        blocks = b;
        two_runs = agrees opening f L _ b;
      }

-- The clauses of an opening's finish, which speak of every run, from what it does by its check after each.
pub open_clauses : {A W B C D : Type 0} {u : suite.Ghosts A B C D} {p : permutation.Ghosts B} {h : hash.Ghosts C} {d : digest.Ghosts D} {w : way.Ghosts W} (L : (key : List ℕ) → Block key → Lawful (u.under key)) (s : Session A W B C D u p h d w) (T l : List ℕ) (r : Result ℕ (Placed SessionFault)) → IfOk r (λ n. n ≤ 16)
    → OnErr r (l ≡ replicate 16 0) → ((R : Run) → SessionAt R s → R.out ≡ (rows_of opening (u.under R.key) R).out) → ((R : Run) → SessionAt R s → OpenedBy (opening_check R T) (u.under R.key) R T l r)
    → record {
      few : IfOk r (λ n. n ≤ 16);
      refused : (R : Run) → SessionAt R s → (e : Refusal SessionFault) → opening_check R T ≡ Some e → Refuses session_faults e r;
      forgery : (R : Run) → SessionAt R s → opening_check R T ≡ None → IfErr r (IsRefusal session_faults (forged (length R.body)));
      cleared : OnErr r (l ≡ replicate 16 0);
      accepts : (R : Run) → SessionAt R s → IsOk r ↔ ((M : List ℕ) × Seals (u.under R.key) R.header M R.body T);
      message : (R : Run) → SessionAt R s → IfOk r (λ n. (n ≡ held R) × Seals (u.under R.key) R.header (R.out ++ take n l) R.body T);
      only : (R : Run) → SessionAt R s → IfOk r (λ n. (M : List ℕ) → Seals (u.under R.key) R.header M R.body T → M ≡ R.out ++ take n l);
      zeros : (R : Run) → SessionAt R s → IfOk r (λ n. drop n l ≡ replicate (16 - n) 0);
      blocks : (R : Run) → SessionAt R s → Blocks opening (u.under R.key) (ended R r l);
      two_runs : (R : Run) → SessionAt R s → AgreesWith opening (u.under R.key) (ended R r l);
    }
open_clauses {u = u} L s T l r few cleared out by =
    let q = λ (R : Run) (a : SessionAt R s). open_end (u.under R.key) (L R.key a.taken.key_block) R a.taken (opening_check R T) T l r (out R a) (by R a) in
    record {
      few = few;
      refused = λ R a. (q R a).refused;
      forgery = λ R a. (q R a).forgery;
      cleared = cleared;
      accepts = λ R a. (q R a).accepts;
      message = λ R a. (q R a).message;
      only = λ R a. (q R a).only;
      zeros = λ R a. (q R a).zeros;
      blocks = λ R a. (q R a).blocks;
      two_runs = λ R a. (q R a).two_runs;
    }
