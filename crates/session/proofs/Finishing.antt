-- The end of a session, from what the mode computes to what the calls promise.
use Rattle.std.proofs.Common.{◌≡◌, ℕ, ◌-◌, ◌≤◌, true, false, eqb, List, ◌++◌, length, take, drop, replicate, Some, None, Ok, Err, Option, sym, refl, ap, ◌∙◌, subst, ap₂, arith, ne_eqb, eqb-true, Bool, cond}
use Rattle.std.proofs.lemmas.Bool.{eqb-false}
use Rattle.fault.specs.declared.kinds.SessionFault.{SessionFault}
use Rattle.fault.specs.declared.kinds.SessionFault.TheVariants.{Forged, Tag}
use Rattle.fault.specs.declared.kinds.Placed.{Placed}
use Rattle.fault.specs.declared.kinds.Layer.TheVariants.{Session as SessionLayer}
use Rattle.fault.specs.Refusals.{refusal, IsRefusal, RefusedBy, session_faults}
use Rattle.block.specs.Bytes.{Bytes, Block}
use Rattle.poet.specs.Functions.{Functions, Lawful}
use Rattle.poet.specs.Seal.{body_most, Limits, Seals}
use Rattle.poet.specs.Rows.{last_length, ciphertext, tag, opened}
use Rattle.poet.proofs.Computing.{computing_law}
use Rattle.poet.proofs.Accepting.{opening_law, tag_law}
use Rattle.session.specs.Calls.{tag_check, forged}
use Rattle.session.specs.Directions.{Direction, sealing, opening}
use Rattle.session.specs.Runs.{Run}
use Rattle.session.specs.Sessions.{Taken, rows_of, held, opening_check}
use Rattle.session.proofs.ByChecks.{SealFinished, OpenFinished, OpenRefused, OpenedBy}
use Rattle.session.specs.Steps.{Tested}
use Rattle.session.proofs.Endings.{last_bytes}
use Rattle.session.proofs.Passing.{none_failed, only_none}
use Rattle.session.proofs.Stretches.{out_length}

pub limits : (R : Run) → Taken R → 1 ≤ length R.body → length R.body ≤ body_most → Limits R.header R.body
limits R t some most = record { header_bytes = t.header_bytes; header_most = t.header_most; bytes = t.body_bytes; some = some; most = most }

-- the bytes held back are those of the last block
pub held_is : (f : Functions) → Lawful f → (w : Direction) (R : Run) → Taken R → R.out ≡ (rows_of w f R).out → held R ≡ last_length R.body
held_is f L w R t e = let o = out_length f L w R t.header_bytes t.body_bytes e in omega arith

module _ (f : Functions) (L : Lawful f) (R : Run) (t : Taken R) (lim : Limits R.header R.body) (len : ℕ) (le : len ≡ last_length R.body) (g q l : List ℕ) (j : ℕ) (gl : length g ≡ 16) (je : j ≡ len)
    (qe : q ≡ take j g) (e : l ≡ take 16 (q ++ replicate 16 0)) where
  bytes : (w : Direction) → R.out ≡ (rows_of w f R).out → (take (held R) l ≡ take (last_length R.body) g) × (drop (held R) l ≡ replicate (16 - held R) 0)
  bytes w oe =
      let h = held_is f L w R t oe in
      let b = last_bytes g q l (held R) j gl (omega arith) (omega arith) qe e in
      (b.0 ∙ ap (λ n. take n g) h, b.1)

  pub seal_finished : (T : List ℕ) → R.out ≡ (rows_of sealing f R).out → ((rows_of sealing f R).out ++ take (last_length R.body) g ≡ ciphertext f R.header R.body) × (T ≡ tag f R.header R.body) → SealFinished f R l T (Ok len)
  seal_finished T oe s =
      let b = bytes sealing oe in
      let seals : Seals f R.header R.body (R.out ++ take (held R) l) T =
      (computing_law f L R.header R.body (R.out ++ take (held R) l) T).0 (record { limits = lim; cipher_is = ap₂ (λ u v. u ++ v) oe b.0 ∙ s.0; tag_is = s.1 }) in
      record {
        answer = ap Ok (le ∙ sym (held_is f L sealing R t oe));
        seals = seals;
        zeros = b.1;
      }

  open_finished : (T : List ℕ) (tb : Block T) → R.out ≡ (rows_of opening f R).out → Tested f R.header R.body T (rows_of opening f R).out (Some g) → (len ≡ held R) × OpenFinished f R T l
  open_finished T tb oe s =
      let O = opening_law f L R.header R.body T in
      let b = bytes opening oe in
      let m : R.out ++ take (held R) l ≡ opened f R.header R.body T = ap₂ (λ u v. u ++ v) oe b.0 ∙ s.0 in
      let seals : Seals f R.header (R.out ++ take (held R) l) R.body T = rw m (O.computes (record { limits = lim; tag_block = tb; fill = s.1.fill; check = s.1.check })) in (
        le ∙ sym (held_is f L opening R t oe),
        record {
          seals = seals;
          only = λ n p. O.only n p ∙ sym m;
          zeros = b.1;
        },
      )

open_refused : (f : Functions) (L : Lawful f) (R : Run) → Taken R → R.out ≡ (rows_of opening f R).out → Limits R.header R.body → (T G : List ℕ) → Tested f R.header R.body T G None → (l' : List ℕ) (e' : Placed SessionFault) → l' ≡ replicate 16 0
    → IsRefusal session_faults (forged (length R.body)) e' → OpenRefused f R T l' e'
open_refused f L R t oe lim T G s l' e' z ee =
    let O = opening_law f L R.header R.body T in
    record { fault = ee; none = λ m p. let a = O.accepts.1 (m, p) in s (record { fill = a.fill; check = a.check }); zeros = z }

-- an opening's finish, once the tag has passed its check: T is the tag given, and T' what the check answered
module _ (f : Functions) (L : Lawful f) (R : Run) (t : Taken R) (total : ℕ) (te : total ≡ length R.body) (some : 1 ≤ total) (most : total ≤ body_most) (T T' : List ℕ) (tb : Bytes T)
    (ok : RefusedBy session_faults (tag_check T total) (Ok T')) (same : T' ≡ T) (oe : R.out ≡ (rows_of opening f R).out) where
  sixteen : eqb (length T) 16 ≡ true
  sixteen = only_none (eqb (length T) 16) _ (none_failed session_faults (tag_check T total) T' ok)

  taken_some : eqb (length R.body) 0 ≡ false
  taken_some = ne_eqb (length R.body) 0 (λ z. omega arith)

  lim : Limits R.header R.body
  lim = limits R t (omega arith) (omega arith)

  tag_block : Block T
  tag_block = record { long = eqb-true (length T) 16 sixteen; bytes = tb }

  same_tag : (o : Option (List ℕ)) → Tested f R.header R.body T' (rows_of opening f R).out o → Tested f R.header R.body T (rows_of opening f R).out o
  same_tag o s = subst (λ (u : List ℕ). Tested f R.header R.body u (rows_of opening f R).out o) same s

  pub opening_accepts : (len : ℕ) (g q l : List ℕ) (j : ℕ) → Tested f R.header R.body T' (rows_of opening f R).out (Some g) → len ≡ last_length R.body → length g ≡ 16 → j ≡ len → q ≡ take j g → l ≡ take 16 (q ++ replicate 16 0)
      → OpenedBy (opening_check R T) f R T l (Ok len)
  opening_accepts len g q l j s le gl je qe e = rw (taken_some, sixteen) (open_finished f L R t lim len le g q l j gl je qe e T tag_block oe (same_tag (Some g) s))

  pub opening_refuses : Tested f R.header R.body T' (rows_of opening f R).out None → OpenedBy (opening_check R T) f R T (replicate 16 0) (Err (record { fault = Forged; place = total }))
  opening_refuses s =
      rw (taken_some, sixteen) (open_refused f L R t oe lim T (rows_of opening f R).out (same_tag None s) (replicate 16 0) (record { fault = Forged; place = total }) refl (record { is = ap (λ n. record { fault = Forged; place = n }) te; number = refl; layer = refl }))

-- a tag that is refused
tag_by : (b : Bool) (n : ℕ) (e : Placed SessionFault) → RefusedBy {X = List ℕ} session_faults (cond b None (Some (refusal Tag 8 SessionLayer n))) (Err e) → (b ≡ false) × IsRefusal session_faults (refusal Tag 8 SessionLayer n) e
tag_by true n e h = absurd cc
tag_by false n e h = (refl, h)

pub tag_refused : (f : Functions) (R : Run) (T : List ℕ) (place : ℕ) (e : Placed SessionFault) → Lawful f → 1 ≤ length R.body → place ≡ length R.body → RefusedBy {X = List ℕ} session_faults (tag_check T place) (Err e)
    → OpenedBy (opening_check R T) f R T (replicate 16 0) (Err e)
tag_refused f R T place e L some pe h =
    let r = tag_by (eqb (length T) 16) (length R.body) e (subst (λ (i : ℕ). RefusedBy {X = List ℕ} session_faults (tag_check T i) (Err e)) pe h) in
    let a : eqb (length R.body) 0 ≡ false = ne_eqb (length R.body) 0 (λ z. omega arith) in
    let b : eqb (length T) 16 ≡ false = r.0 in
    rw (a, b) (r.1, refl, (λ M s. eqb-false (length T) 16 b (tag_law f L R.header M R.body T s).tag.long))

-- where no body was taken nothing seals
pub none_empty : (f : Functions) → Lawful f → (R : Run) (T : List ℕ) → length R.body ≡ 0 → (M : List ℕ) → Seals f R.header M R.body T → ⊥
none_empty f L R T e M s = let a = (tag_law f L R.header M R.body T s).ciphertext in let b = s.limits.some in omega arith
