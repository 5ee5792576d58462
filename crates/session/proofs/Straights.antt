-- One session over whole buffers, from what its calls tell.
use Rattle.std.proofs.Common.{◌≡◌, ℕ, ◌+◌, ◌-◌, ◌≤◌, List, ◌++◌, length, take, drop, Ok, Err, Result, sym, ap, ◌∙◌, subst, ap₂, arith, length-take, zero-add}
use borrow.Rule.Slice.PartMut.{put_mid}
use Rattle.std.proofs.lemmas.List.{drop-drop}
use Rattle.std.proofs.lemmas.Slice.{take-put_mid, drop-put_mid}
use Rattle.fault.specs.declared.kinds.SessionFault.{SessionFault}
use Rattle.fault.specs.declared.kinds.Placed.{Placed}
use Rattle.poet.specs.Functions.{Functions}
use Rattle.poet.specs.Seal.{Seals}
use Rattle.suite.specs.declared.Suite as suite
use Rattle.suite.specs.declared.Permutation as permutation
use Rattle.suite.specs.declared.ChainingHash as hash
use Rattle.suite.specs.declared.HeaderDigest as digest
use Rattle.session.specs.declared.rows.Way as way
use Rattle.session.specs.declared.body.Session.{Session}
use Rattle.session.specs.Runs.{fresh, headed}
use Rattle.session.specs.Sessions.{held, writes, given_of}
use Rattle.session.proofs.ByChecks.{BodyTaken, SealFinished, OpenJudged}
use Rattle.session.specs.Straight.{Sealed, Opened, run, Begun, OpenRefusal}

-- the header and the body were taken by a new session
pub begun : {A W B C D : Type 0} {u : suite.Ghosts A B C D} {p : permutation.Ghosts B} {h : hash.Ghosts C} {d : digest.Ghosts D} {w : way.Ghosts W} (key H a o o' : List ℕ) (s : Session A W B C D u p h d w) (n : ℕ × ℕ) → BodyTaken (headed (fresh key) H) a o o' s (Ok n)
    → Begun key H a o o' s n.0
begun key H a o o' s n t =
    let z : 0 + length a ≡ length a = zero-add (length a) in
    let e : n ≡ given_of (length a) = cc (rw z at t.answer) in
    record { written_is = ap (λ (i : ℕ × ℕ). i.0) e; rest = rw z at t.rest; at = rw z at t.at }

-- lists that are the same from n on are so from k on
pub past_front : (n k : ℕ) (a b : List ℕ) → n ≤ k → drop n a ≡ drop n b → drop k a ≡ drop k b
past_front n k a b l e =
    let j : n + (k - n) ≡ k = omega arith in
    ap (λ i. drop i a) (sym j) ∙ sym (drop-drop (k - n) n a) ∙ ap (drop (k - n)) e ∙ drop-drop (k - n) n b ∙ ap (λ i. drop i b) j

-- the run took the body a, and its body call wrote the front of o₁ over o
module _ (key H a o o₁ : List ℕ) (some : 1 ≤ length a) (room : length a ≤ length o) (same : length o₁ ≡ length o) where
  -- the bytes held back at the end
  pub rests : held (run key H a o₁) ≡ length a - writes (length a)
  rests = let g : length (take (writes (length a)) o₁) ≡ writes (length a) = length-take (writes (length a)) o₁ ∙ omega arith in omega arith

  -- the last bytes, written behind those that the body call wrote
  module _ (n : ℕ) (ne : n ≡ writes (length a)) (rest : drop (writes (length a)) o₁ ≡ drop (writes (length a)) o) (len : ℕ) (last w : List ℕ) (le : len ≡ held (run key H a o₁)) (ll : length last ≡ 16) (we : w ≡ take len last) where
    front : (run key H a o₁).out ++ take (held (run key H a o₁)) last ≡ take (length a) (put_mid n (n + len - n) o₁ w)
    front =
        let h = rests in
        let wl : length w ≡ len = ap length we ∙ length-take len last ∙ omega arith in
        sym (take-put_mid n (n + len - n) o₁ w (length a) (omega arith) (omega arith) ∙ ap₂ (λ i z. take i o₁ ++ z) ne (we ∙ ap (λ i. take i last) le))

    behind : drop (length a) (put_mid n (n + len - n) o₁ w) ≡ drop (length a) o
    behind =
        let h = rests in
        let wl : length w ≡ len = ap length we ∙ length-take len last ∙ omega arith in
        drop-put_mid n (n + len - n) o₁ w (length a) (omega arith) (omega arith) (omega arith) ∙ past_front (writes (length a)) (length a) o₁ o (omega arith) rest

    pub seal_run : (f : Functions) (t' : List ℕ) (r : Result ℕ (Placed SessionFault)) → SealFinished f (run key H a o₁) last t' r → Sealed f H a o (put_mid n (n + len - n) o₁ w) t'
    seal_run f t' r s = record { seals = subst (λ (u : List ℕ). Seals f H a u t') front s.seals; rest = behind }

    pub open_run : (f : Functions) (T : List ℕ) (m : ℕ) → OpenJudged f (run key H a o₁) T last (Ok m) → Opened f H a T o (put_mid n (n + len - n) o₁ w)
    open_run f T m s = record { seals = subst (λ (u : List ℕ). Seals f H u a T) front s.1.seals; only = λ M q. s.1.only M q ∙ front; rest = behind }

pub refused_run : (f : Functions) (key H a o o₁ T last : List ℕ) (e : Placed SessionFault) → drop (writes (length a)) o₁ ≡ drop (writes (length a)) o → OpenJudged f (run key H a o₁) T last (Err e) → OpenRefusal f H a T o o₁ e
refused_run f key H a o o₁ T last e d s = record { fault = s.fault; none = s.none; rest = d }
