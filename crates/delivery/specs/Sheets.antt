-- Opening a delivered sheet: a list of entries, written and sealed under a key and a header.
use Rattle.std.specs.Prelude.{◌≡◌, ℕ, ◌<◌, ◌≤◌, ◌⊎◌, ◌↔◌, List, ◌++◌, length, take, drop, replicate}
use Rattle.std.specs.Prelude.{Some, None, Ok, Err, IsOk, IfOk, IfErr, Result}
use Rattle.fault.specs.declared.kinds.SessionFault.{SessionFault}
use Rattle.fault.specs.declared.kinds.SheetFault.{SheetFault}
use Rattle.fault.specs.declared.kinds.SheetFault.TheVariants.{Session}
use Rattle.fault.specs.declared.kinds.Placed.{Placed}
use Rattle.fault.specs.Refusals.{Refusal, inside, IsRefusal, Refuses, sheet_faults}
use Rattle.poet.specs.Functions.{Functions}
use Rattle.poet.specs.Seal.{Seals}
use Rattle.session.specs.Calls.{open_checks, forged}
use Rattle.sheet.specs.Entries.{Item, sheet_of}
use Rattle.sheet.specs.Calls.{Broken}
use Rattle.sheet.specs.Laws.{WrittenFromStart}
use Rattle.suites.specs.declared.listed.Listed.{Listed}
use Rattle.suites.specs.Listed.{listed}
use Rattle.delivery.specs.Told.{suite_of, not_listed}

-- A list of one or more entries, written by write calls from place 0, end to end and none refused,
-- and then sealed under the header H, gives the ciphertext C and the tag T.
pub record SheetSeals (f : Functions) (H : List ℕ) (es : List Item) (C T : List ℕ) : Type 0 where
  pub some : 0 < length es
  pub sheet : List ℕ
  pub written : WrittenFromStart es sheet
  pub seals : Seals f H sheet C T

-- a refusal of the session, as the sheet's fault holds it
abbrev pub lifted : Refusal SessionFault → Refusal SheetFault
lifted e = inside Session e

-- Accepted: the first bytes of the buffer o' are the sheet of the list es, and the rest is as it
-- was in o. Only es seals so.
pub record SheetOpened (f : Functions) (H C T o o' : List ℕ) (es : List Item) : Type 0 where
  pub list : SheetSeals f H es C T
  pub only : (fs : List Item) → SheetSeals f H fs C T → fs ≡ es
  pub front : take (length C) o' ≡ sheet_of es
  pub rest : drop (length C) o' ≡ drop (length C) o

-- Refused where no check fails: no message seals so, or what was sealed is broken as a sheet. The
-- buffer then has zeros where the sheet would be.
pub record SheetRefused (f : Functions) (H C T o o' : List ℕ) (e : Placed SheetFault) : Type 0 where
  pub why : (IsRefusal sheet_faults (lifted (forged (length C))) e
      × ((M : List ℕ) → Seals f H M C T → ⊥))
      ⊎ ((M : List ℕ) × Seals f H M C T × Broken M e)
  pub zeros : o' ≡ replicate (length C) 0 ++ drop (length C) o

-- An opening of a sheet that answers r, under the functions that `under` gives for a key; the
-- buffer o became o'.
pub record SheetCall (under : List ℕ → Functions) (key H C T o o' : List ℕ)
    (r : Result ℕ (Placed SheetFault)) : Type 0 where
  -- it refuses as the first check that fails, and alters nothing then
  pub refused : (e : Refusal SessionFault) → open_checks key H C T o ≡ Some e
      → Refuses sheet_faults (lifted e) r × (o' ≡ o)
  -- with a key and room enough, it accepts exactly what some list seals to
  pub accepts : length key ≡ 16 → length C ≤ length o
      → IsOk r ↔ ((es : List Item) × SheetSeals (under key) H es C T)
  -- then it answers how many entries that list has
  pub entries : IfOk r (λ n. (es : List Item) × SheetOpened (under key) H C T o o' es
      × (n ≡ length es))
  pub broken : open_checks key H C T o ≡ None → IfErr r (SheetRefused (under key) H C T o o')
  pub rest : drop (length C) o' ≡ drop (length C) o

-- the suite with the number n, or its refusal
abbrev pub ToldSuite : (n : ℕ) → Result Listed (Placed SheetFault) → Type 0
ToldSuite n (Ok s) = listed n ≡ Ok s
ToldSuite n (Err e) = (suite_of n ≡ None) × IsRefusal sheet_faults (lifted (not_listed n)) e
