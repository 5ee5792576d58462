-- From a parsed delivery and the opening of its sheet to the list that the input delivers.
use Rattle.std.proofs.Common.{◌≡◌, ℕ, ◌<◌, ◌≤◌, Bool, true, false, cond, eqb, ltb, List, length, take, IsErrAnd, Some, None, Ok, Err, Option, Result, sym, refl, ◌∙◌, subst, ⊎_elim, arith, eq-eqb, true-eqb}
use Rattle.std.proofs.lemmas.Bool.Decides.{nat_tests}
use Rattle.fault.specs.declared.kinds.SessionFault.{SessionFault}
use Rattle.fault.specs.declared.kinds.SheetFault.{SheetFault}
use Rattle.fault.specs.declared.kinds.ConsoleFault.{ConsoleFault}
use Rattle.fault.specs.declared.kinds.ConsoleFault.TheVariants.{Sheet}
use Rattle.fault.specs.declared.kinds.Placed.{Placed}
use Rattle.fault.specs.Refusals.{Refusal, IsRefusal, HandedOn, sheet_faults, console_faults}
use Rattle.fault.proofs.Refusing.{handed_on}
use Rattle.poet.specs.Functions.{Functions}
use Rattle.session.specs.Calls.{open_checks, forged}
use Rattle.sheet.specs.Entries.{Item, AllGood, sheet_of}
use Rattle.delivery.specs.Told.{suite_of, not_listed}
use Rattle.delivery.specs.Sheets.{SheetSeals, SheetCall, lifted}
use Rattle.delivery.proofs.Opening.{SheetUnder, SheetOf, counted, sheet_good}
use Rattle.wire.specs.declared.parsing.Delivery.{Delivery}
use Rattle.wire.specs.Wire.{Parts, Limits, parts_of, Parsed, ciphertext_limit}
use Rattle.report.specs.Report.{Delivers, DeliversOnly, Refused, unlisted, no_body, no_seal, no_sheet, no_delivery, delivery, Judged, raised, within, empty}

-- of the checks only that of an empty body can fail within the limits
module _ (p : Parts) (l : Limits p) (o : List ℕ) (lo : ciphertext_limit ≤ length o) where
  checks_are : open_checks p.key p.header p.ciphertext p.tag o ≡ cond (eqb (length p.ciphertext) 0) (Some empty) None
  checks_are =
      let k : eqb (length p.key) 16 ≡ true = eq-eqb _ _ l.key_long in
      let h : ltb 65536 (length p.header) ≡ false = let m = l.header_most in grind (arith, nat_tests) in
      let b : ltb 1048576 (length p.ciphertext) ≡ false = let m = l.ciphertext_most in grind (arith, nat_tests) in
      let r : ltb (length o) (length p.ciphertext) ≡ false = let m = l.ciphertext_most in grind (arith, nat_tests) in
      let t : eqb (length p.tag) 16 ≡ true = eq-eqb _ _ l.tag_long in
      rw (k, h, b, r, t)

  empty_by : (b : Bool) (e : Refusal SessionFault) → eqb (length p.ciphertext) 0 ≡ b → cond b (Some empty) None ≡ Some e → (length p.ciphertext ≡ 0) × (e ≡ empty)
  empty_by true e q s = (true-eqb _ _ (sym q), cc)
  empty_by false e q s = absurd cc

  some_by : (b : Bool) → eqb (length p.ciphertext) 0 ≡ b → cond b (Some empty) None ≡ None → 0 < length p.ciphertext
  some_by true q s = absurd cc
  some_by false q s = grind (arith, nat_tests)

  pub fails_none : open_checks p.key p.header p.ciphertext p.tag o ≡ None → 0 < length p.ciphertext
  fails_none q = some_by (eqb (length p.ciphertext) 0) refl (sym checks_are ∙ q)

  pub fails_empty : (e : Refusal SessionFault) → open_checks p.key p.header p.ciphertext p.tag o ≡ Some e → (length p.ciphertext ≡ 0) × (e ≡ empty)
  fails_empty e q = empty_by (eqb (length p.ciphertext) 0) e refl (sym checks_are ∙ q)

module _ (input : List ℕ) (d : Delivery) (parsed : Parsed input (Ok d)) where
  -- any list that the input delivers is sealed in these parts
  record Here (fs : List Item) : Type 0 where
    pub under : List ℕ → Functions
    pub listed : suite_of d.suite ≡ Some under
    pub list : SheetSeals (under (parts_of d).key) (parts_of d).header fs (parts_of d).ciphertext (parts_of d).tag

  here : (fs : List Item) → Delivers input fs → Here fs
  here fs D =
      let P : Parts → Type 0 = λ x. (suite_of x.suite ≡ Some D.under) × SheetSeals (D.under x.key) x.header fs x.ciphertext x.tag in
      let q = subst P (parsed.2 D.parts D.limits D.is) (D.listed, D.list) in
      record { under = D.under; listed = q.0; list = q.1 }

  -- an accepted sheet: its list is delivered, and no other
  pub delivered : (o o' : List ℕ) (k : ℕ) → SheetOf (parts_of d) o o' (Ok k) → (es : List Item) × DeliversOnly input es × AllGood es × (take (length (parts_of d).ciphertext) o' ≡ sheet_of es)
  delivered o o' k s =
      let (under, listed, checked, es, opened) = counted (suite_of d.suite) d.suite _ _ _ _ o o' k s in (
        es,
        record {
          delivers = record { parts = parts_of d; limits = parsed.0; is = parsed.1; under = under; listed = listed; list = opened.list };
          only = λ fs D.
              let h = here fs D in
              let q : h.under ≡ under = let x = h.listed in cc in
              opened.only fs (subst (λ (u : List ℕ → Functions). SheetSeals (u (parts_of d).key) (parts_of d).header fs (parts_of d).ciphertext (parts_of d).tag) q h.list);
        },
        sheet_good _ _ es _ _ opened.list,
        opened.front,
      )

  module _ (o o' : List ℕ) (lo : ciphertext_limit ≤ length o) where
    -- the opening of the sheet, as it answers r
    abbrev Opens : Option (List ℕ → Functions) → Result ℕ (Placed SheetFault) → Type 0
    Opens u r = SheetUnder u d.suite (parts_of d).key (parts_of d).header (parts_of d).ciphertext (parts_of d).tag o o' r

    room : length (parts_of d).ciphertext ≤ length o
    room = let m = parsed.0.ciphertext_most in omega arith

    -- a refused sheet: no list is delivered
    none : (e : Placed SheetFault) → Opens (suite_of d.suite) (Err e) → (fs : List Item) → Delivers input fs → ⊥
    none e s fs D =
        let h = here fs D in
        let call : SheetCall h.under (parts_of d).key (parts_of d).header (parts_of d).ciphertext (parts_of d).tag o o' (Err e) =
        subst (λ (u : Option (List ℕ → Functions)). Opens u (Err e)) h.listed s in
        let z : false ≡ true = (call.accepts parsed.0.key_long room).1 (fs, h.list) in
        absurd cc

    -- ... and why, as the console's fault f
    module _ (e : Placed SheetFault) (f : Placed ConsoleFault) (h : HandedOn sheet_faults console_faults Sheet e f) where
      f_is : f ≡ raised e
      f_is = λ i. record { fault = h.0 i; place = h.1 i }

      raised_by : (x : Refusal SessionFault) → IsRefusal sheet_faults (lifted x) e → IsRefusal console_faults (within x) f
      raised_by x i = handed_on sheet_faults console_faults Sheet (lifted x) e f h i

      why_by : (c : Option (Refusal SessionFault)) (under : List ℕ → Functions) → suite_of d.suite ≡ Some under → open_checks (parts_of d).key (parts_of d).header (parts_of d).ciphertext (parts_of d).tag o ≡ c
          → Opens (Some under) (Err e) → Refused (parts_of d) f
      why_by (Some x) under listed ce s =
          let q = fails_empty (parts_of d) parsed.0 o lo x ce in
          no_body under listed q.0 (subst (λ (y : Refusal SessionFault). IsRefusal console_faults (within y) f) q.1 (raised_by x (s.refused x ce).0))
      why_by None under listed ce s =
          ⊎_elim (λ w. no_seal under listed (fails_none (parts_of d) parsed.0 o lo ce) w.1 (raised_by (forged (length (parts_of d).ciphertext)) w.0)) (λ w. no_sheet under listed w.0 w.1 e w.2 f_is) (s.broken ce).why

      why : (u : Option (List ℕ → Functions)) → suite_of d.suite ≡ u → Opens u (Err e) → Refused (parts_of d) f
      why None q s = unlisted q (raised_by (not_listed d.suite) s.0)
      why (Some under) q s = why_by (open_checks (parts_of d).key (parts_of d).header (parts_of d).ciphertext (parts_of d).tag o) under q refl s

      refused_as : Opens (suite_of d.suite) (Err e) → Judged input o' (Err f)
      refused_as s = (none e s, delivery (parts_of d) parsed.0 parsed.1 (why (suite_of d.suite) refl s))

    pub refused : (e : Placed SheetFault) (r : Result ℕ (Placed ConsoleFault)) → IsErrAnd r (HandedOn sheet_faults console_faults Sheet e) → Opens (suite_of d.suite) (Err e) → Judged input o' r
    refused e (Ok k) h s = absurd h
    refused e (Err f) h s = refused_as e f h s

    pub accepted : (k : ℕ) → length o' ≡ length o → Opens (suite_of d.suite) (Ok k) → Judged input o' (Ok (length (parts_of d).ciphertext))
    accepted k long s = let (es, only, good, front) = delivered o o' k s in (es, only, good, (let r = room in omega arith), front)

-- an input that is no delivery delivers no list
pub malformed_input : (input o' : List ℕ) (e : Placed ConsoleFault) → Parsed input (Err e) → Judged input o' (Err e)
malformed_input input o' e parsed = (λ es D. parsed.1 D.parts D.limits D.is, no_delivery parsed.1 parsed.0)
