-- Checks that are passed.
use Rattle.std.proofs.Common.{◌≡◌, ℕ, Bool, true, false, cond, eqb, ltb, List, length, Some, None, Ok, Err, Option, refl, ap, ◌≤◌, ltb-false, eqb-true}
use Rattle.std.specs.Option.{option_or, option_map}
use Rattle.fault.specs.declared.kinds.SessionFault.{SessionFault}
use Rattle.fault.specs.declared.kinds.KeyFault.{KeyFault}
use Rattle.fault.specs.declared.kinds.SessionFault.TheVariants.{Key}
use Rattle.fault.specs.declared.kinds.Placed.{Placed}
use Rattle.fault.specs.Refusals.{Table, Refusal, RefusedBy, inside, HandedOn, key_faults, session_faults}
use Rattle.fault.proofs.Refusing.{handed_on}
use Rattle.poet.specs.Seal.{header_most, body_most}
use Rattle.session.specs.Calls.{key_check, tag_check, body_checks, checks, open_checks}

-- an answer comes only where no check fails
pub none_failed : {F X : Type 0} (t : Table F) (o : Option (Refusal F)) (x : X) → RefusedBy t o (Ok x) → o ≡ None
none_failed t None x r = refl
none_failed t (Some e) x r = absurd r

-- a refusal is that of the check that failed, whatever the call would have answered
pub some_failed : {F : Type 0} (X Y : Type 0) (t : Table F) (o : Option (Refusal F)) (p : Placed F) → RefusedBy {X = X} t o (Err p) → RefusedBy {X = Y} t o (Err p)
some_failed X Y t None p r = r
some_failed X Y t (Some e) p r = r

first_none : {F : Type 0} (t : Bool) (e : F) (rest : Option F) → cond t (Some e) rest ≡ None → (t ≡ false) × (rest ≡ None)
first_none true e rest p = absurd cc
first_none false e rest p = (refl, p)

pub only_none : {F : Type 0} (t : Bool) (e : F) → cond t None (Some e) ≡ None → t ≡ true
only_none true e p = refl
only_none false e p = cc

-- the checks, passed
pub record Passed (H M : List ℕ) (r : ℕ) : Type 0 where
  pub header : ltb header_most (length H) ≡ false
  pub most : ltb body_most (length M) ≡ false
  pub room : ltb r (length M) ≡ false
  pub some : eqb (length M) 0 ≡ false

pub passed : (H M : List ℕ) (r : ℕ) (more : Option (Refusal SessionFault)) → body_checks H M r more ≡ None → Passed H M r
passed H M r more p =
    let c = first_none (ltb header_most (length H)) _ _ p in
    let d = first_none (ltb body_most (length M)) _ _ c.1 in
    let e = first_none (ltb r (length M)) _ _ d.1 in
    let f = first_none (eqb (length M) 0) _ _ e.1 in
    record { header = c.0; most = d.0; room = e.0; some = f.0 }

-- behind the key's check
behind : (o : Option (Refusal KeyFault)) (rest : Option (Refusal SessionFault)) → option_or (option_map (inside Key) o) rest ≡ None → (o ≡ None) × (rest ≡ None)
behind None rest p = (refl, p)
behind (Some e) rest p = absurd cc

-- a refusal of the key, and one of what comes behind it
pub key_failed : (o : Option (Refusal KeyFault)) (rest : Option (Refusal SessionFault)) (k : Placed KeyFault) (p : Placed SessionFault) → RefusedBy {X = Unit {0}} key_faults o (Err k) → HandedOn key_faults session_faults Key k p
    → RefusedBy {X = ℕ} session_faults (option_or (option_map (inside Key) o) rest) (Err p)
key_failed None rest k p r h = absurd cc
key_failed (Some e) rest k p r h = handed_on key_faults session_faults Key e k p h r

pub key_passed : (key H M : List ℕ) (r : ℕ) (more : Option (Refusal SessionFault)) → key_check key ≡ None → checks key H M r more ≡ body_checks H M r more
key_passed key H M r more e = ap (λ o. option_or (option_map (inside Key) o) (body_checks H M r more)) e

first_failed : (t : Bool) (e : Refusal SessionFault) (rest rest' : Option (Refusal SessionFault)) (p : Placed SessionFault) → (RefusedBy {X = ℕ} session_faults rest (Err p) → RefusedBy {X = ℕ} session_faults rest' (Err p))
    → RefusedBy {X = ℕ} session_faults (cond t (Some e) rest) (Err p) → RefusedBy {X = ℕ} session_faults (cond t (Some e) rest') (Err p)
first_failed true e rest rest' p f r = r
first_failed false e rest rest' p f r = f r

pub body_failed : (H M : List ℕ) (r : ℕ) (more : Option (Refusal SessionFault)) (p : Placed SessionFault) → RefusedBy {X = ℕ} session_faults (body_checks H M r None) (Err p) → RefusedBy {X = ℕ} session_faults (body_checks H M r more) (Err p)
body_failed H M r more p =
    first_failed (ltb header_most (length H)) _ _ _ p
    (first_failed (ltb body_most (length M)) _ _ _ p
    (first_failed (ltb r (length M)) _ _ _ p
    (first_failed (eqb (length M) 0) _ _ _ p (λ i. absurd cc))))

-- the key and the room, where all checks of an opening are passed
pub record Fits (key C o : List ℕ) : Type 0 where
  pub sixteen : length key ≡ 16
  pub room : length C ≤ length o

pub fits : (key H C T o : List ℕ) → open_checks key H C T o ≡ None → Fits key C o
fits key H C T o p =
    let b = behind (key_check key) (body_checks H C (length o) (tag_check T 0)) p in record {
      sixteen = eqb-true (length key) 16 (only_none (eqb (length key) 16) _ b.0);
      room = ltb-false (length o) (length C) (passed H C (length o) (tag_check T 0) b.1).room;
    }

pub passes : (H M : List ℕ) (r : ℕ) (more : Option (Refusal SessionFault)) → Passed H M r → body_checks H M r more ≡ more
passes H M r more p = rw (p.header, p.most, p.room, p.some)
