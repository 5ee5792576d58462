-- From the opening of a message and the test of a sheet to the opening of a sheet.
use Rattle.std.proofs.Common.{◌≡◌, ℕ, List, ◌++◌, length, take, drop, replicate, IsErrAnd, Some, None, Ok, Err, Option, Result, sym, refl, ap, ◌∙◌, subst, inl, inr, arith}
use Rattle.std.specs.Option.{IfNone, IfSome}
use Rattle.std.proofs.lemmas.List.{drop_at, length-replicate}
use Rattle.fault.specs.declared.kinds.SessionFault.{SessionFault}
use Rattle.fault.specs.declared.kinds.SheetFault.{SheetFault}
use Rattle.fault.specs.declared.kinds.SheetFault.TheVariants.{Session}
use Rattle.fault.specs.declared.kinds.Placed.{Placed}
use Rattle.fault.specs.Refusals.{Refusal, Refuses, HandedOn, session_faults, sheet_faults}
use Rattle.fault.proofs.Refusing.{handed_on as handed}
use Rattle.poet.specs.Functions.{Functions}
use Rattle.poet.specs.Seal.{Seals}
use Rattle.session.specs.Calls.{forged, open_checks, OpenCall}
use Rattle.session.proofs.Bytewise.{zeroed}
use Rattle.session.proofs.Passing.{fits}
use Rattle.sheet.specs.Entries.{Item, AllGood, sheet_of}
use Rattle.sheet.specs.Calls.{Tested}
use Rattle.sheet.proofs.Decoding.{unique}
use Rattle.sheet.proofs.Writes.{sheets}
use Rattle.delivery.specs.Told.{suite_of, not_listed}
use Rattle.delivery.specs.Sheets.{SheetSeals, SheetOpened, SheetCall, lifted}
use Rattle.wire.specs.Wire.{Parts}

-- a list that is written and sealed is good, and its bytes are what was sealed
pub sheet_good : (f : Functions) (H : List ℕ) (es : List Item) (C T : List ℕ) → SheetSeals f H es C T → AllGood es
sheet_good f H es C T s = ((sheets es s.sheet).0 s.written).0

pub sheet_seals : (f : Functions) (H : List ℕ) (es : List Item) (C T : List ℕ) → SheetSeals f H es C T → Seals f H (sheet_of es) C T
sheet_seals f H es C T s = subst (λ (M : List ℕ). Seals f H M C T) ((sheets es s.sheet).0 s.written).1 s.seals

module _ (under : List ℕ → Functions) (key H C T o m : List ℕ) where
  -- a refusal of the opening, that `?` hands on
  refused : (e : Placed SessionFault) (x : Placed SheetFault) → HandedOn session_faults sheet_faults Session e x → OpenCall under key H C T o m (Err e) → SheetCall under key H C T o m (Err x)
  refused e x h s = record {
    refused = λ d q. let r = s.refused d q in (handed session_faults sheet_faults Session d e x h r.0, r.1);
    accepts = λ k l. ((λ i. absurd cc), (λ p. (s.accepts k l).1 (p.1.sheet, p.1.seals)));
    entries = tt;
    broken =
        λ n.
        let g = s.forgery n in
        let p = fits key H C T o n in
        record { why = inl (handed session_faults sheet_faults Session (forged (length C)) e x h g.0, (λ M q. let i = (s.accepts p.sixteen p.room).1 (M, q) in absurd cc)); zeros = g.1 };
    rest = s.rest;
  }

  pub handed_on : (e : Placed SessionFault) (r : Result ℕ (Placed SheetFault)) → IsErrAnd r (HandedOn session_faults sheet_faults Session e) → OpenCall under key H C T o m (Err e) → SheetCall under key H C T o m r
  handed_on e (Ok k) b s = absurd b
  handed_on e (Err x) b s = refused e x b s

  module _ (len : ℕ) (s : OpenCall under key H C T o m (Ok len)) where
    -- the sheet stands the test
    pub accepted : (k j : ℕ) → j ≡ len → Tested (take j m) (Ok k) → SheetCall under key H C T o m (Ok k)
    accepted k j je t =
        let i : j ≡ length C = je ∙ s.message.0 in
        let h = t.1 in
        let front : take (length C) m ≡ sheet_of t.0 = ap (λ (n : ℕ). take n m) (sym i) ∙ sym h.is in
        let list : SheetSeals (under key) H t.0 C T = record { some = h.some; sheet = sheet_of t.0; written = (sheets t.0 (sheet_of t.0)).1 (h.good, refl); seals = subst (λ (M : List ℕ). Seals (under key) H M C T) (ap (λ (n : ℕ). take n m) s.message.0 ∙ front) s.message.1 } in
        record {
          refused = λ d q. absurd (s.refused d q).0;
          accepts = λ k l. ((λ z. (t.0, list)), (λ p. refl));
          entries = (
            t.0,
            record { list = list; only = λ fs g. unique fs t.0 (sheet_good (under key) H fs C T g) h.good (s.only (sheet_of fs) (sheet_seals (under key) H fs C T g) ∙ ap (λ (n : ℕ). take n m) s.message.0 ∙ front); front = front; rest = s.rest },
            t.2,
          );
          broken = λ n. tt;
          rest = s.rest;
        }

    -- or is broken, and zeros w are put where it stood
    pub broken : (w : List ℕ) (x : Placed SheetFault) (j : ℕ) → j ≡ len → length m ≡ length o → Tested (take j m) (Err x) → w ≡ replicate (length (take j m)) 0 → SheetCall under key H C T o (w ++ drop j m) (Err x)
    broken w x j je l t q =
        let i : j ≡ length C = je ∙ s.message.0 in
        let r = s.room in
        let z : w ++ drop j m ≡ replicate (length C) 0 ++ drop (length C) o = zeroed w m (length C) j i (omega arith) q ∙ ap (λ (d : List ℕ). replicate (length C) 0 ++ d) s.rest in
        let seals : Seals (under key) H (take j m) C T = subst (λ (n : ℕ). Seals (under key) H (take n m) C T) (sym je) s.message.1 in
        record {
          refused = λ d c. absurd (s.refused d c).0;
          accepts = λ k b. (
            (λ y. absurd cc),
            (λ p. absurd (t.0 p.0 (record { some = p.1.some; good = sheet_good (under key) H p.0 C T p.1; is = s.only (sheet_of p.0) (sheet_seals (under key) H p.0 C T p.1) ∙ ap (λ (n : ℕ). take n m) (sym je) }))),
          );
          entries = tt;
          broken = λ n. record { why = inr (take j m, seals, t.1); zeros = z };
          rest = ap (drop (length C)) z ∙ drop_at (replicate (length C) 0) (drop (length C) o) (length C) (length-replicate (length C) 0);
        }

-- What an opening that answered a count has accepted.
no_check_failed : (c : Option (Refusal SessionFault)) (key H C T o m : List ℕ) (k : ℕ) → open_checks key H C T o ≡ c → ((e : Refusal SessionFault) → open_checks key H C T o ≡ Some e → Refuses sheet_faults (lifted e) (Ok k) × (m ≡ o)) → c ≡ None
no_check_failed None key H C T o m k q f = refl
no_check_failed (Some e) key H C T o m k q f = absurd (f e q).0

pub by_count : (under : List ℕ → Functions) (key H C T o m : List ℕ) (k : ℕ) → SheetCall under key H C T o m (Ok k) → (open_checks key H C T o ≡ None) × ((es : List Item) × SheetOpened (under key) H C T o m es)
by_count under key H C T o m k s =
    (no_check_failed (open_checks key H C T o) key H C T o m k refl s.refused, (s.entries.0, s.entries.1))

-- opening under the suite with the number n
abbrev pub SheetUnder : Option (List ℕ → Functions) → (n : ℕ) (key H C T o o' : List ℕ)
    → Result ℕ (Placed SheetFault) → Type 0
SheetUnder None n key H C T o o' r = Refuses sheet_faults (lifted (not_listed n)) r × (o' ≡ o)
SheetUnder (Some under) n key H C T o o' r = SheetCall under key H C T o o' r

-- opening the sheet of a delivery with the parts p
abbrev pub SheetOf : Parts → (o o' : List ℕ) → Result ℕ (Placed SheetFault) → Type 0
SheetOf p o o' r = SheetUnder (suite_of p.suite) p.suite p.key p.header p.ciphertext p.tag o o' r

-- the clauses of a call that is told its suite by a number, gathered
pub told : (u : Option (List ℕ → Functions)) (n : ℕ) (key H C T o m : List ℕ) (r : Result ℕ (Placed SheetFault)) → IfNone u (Refuses sheet_faults (lifted (not_listed n)) r × (m ≡ o)) → IfSome u (λ under. SheetCall under key H C T o m r)
    → SheetUnder u n key H C T o m r
told None n key H C T o m r a b = a
told (Some under) n key H C T o m r a b = b

pub counted : (u : Option (List ℕ → Functions)) (n : ℕ) (key H C T o m : List ℕ) (k : ℕ) → SheetUnder u n key H C T o m (Ok k) → (under : List ℕ → Functions) × (u ≡ Some under) × (open_checks key H C T o ≡ None) × (es : List Item) × SheetOpened (under key) H C T o m es
counted None n key H C T o m k s = absurd s.0
counted (Some under) n key H C T o m k s = let b = by_count under key H C T o m k s in (under, refl, b.0, b.1.0, b.1.1)
