-- The report on one delivery, given as bytes: the list of its entries, or its refusal.
use Rattle.std.specs.Prelude.{◌≡◌, ◌≢◌, ℕ, ◌<◌, ◌≤◌, ◌⊎◌, List, [], ◌∷◌, ◌++◌, length, take}
use Rattle.std.specs.Prelude.{Some, None, Ok, Err, codes, decimal, Result, All}
use Rattle.fault.specs.declared.kinds.Layer.TheVariants.{Session as SessionLayer}
use Rattle.fault.specs.declared.kinds.SessionFault.{SessionFault}
use Rattle.fault.specs.declared.kinds.SessionFault.TheVariants.{Empty}
use Rattle.fault.specs.declared.kinds.SheetFault.{SheetFault}
use Rattle.fault.specs.declared.kinds.ConsoleFault.{ConsoleFault}
use Rattle.fault.specs.declared.kinds.ConsoleFault.TheVariants.{Sheet}
use Rattle.fault.specs.declared.kinds.Placed.{Placed}
use Rattle.fault.specs.Numbers.{console_number}
use Rattle.fault.specs.Refusals.{Refusal, refusal, inside, IsRefusal, console_faults}
use Rattle.poet.specs.Functions.{Functions}
use Rattle.poet.specs.Seal.{Seals}
use Rattle.session.specs.Calls.{forged}
use Rattle.sheet.specs.Entries.{Item, AllGood, sheet_of}
use Rattle.sheet.specs.Calls.{Broken}
use Rattle.delivery.specs.Told.{suite_of, not_listed}
use Rattle.delivery.specs.Sheets.{SheetSeals, lifted}
use Rattle.wire.specs.Wire.{Parts, Limits, wire, malformed}
use Rattle.report.specs.Lists.{list_of}

-- The input is a delivery within its limits, of a listed suite, and the list es of one or more good
-- entries, written and sealed under its key and header, gives its ciphertext and tag.
pub record Delivers (input : List ℕ) (es : List Item) : Type 0 where
  pub parts : Parts
  pub limits : Limits parts
  pub is : wire parts ≡ input
  pub under : List ℕ → Functions
  pub listed : suite_of parts.suite ≡ Some under
  pub list : SheetSeals (under parts.key) parts.header es parts.ciphertext parts.tag

-- ... and no other list.
pub record DeliversOnly (input : List ℕ) (es : List Item) : Type 0 where
  pub delivers : Delivers input es
  pub only : (fs : List Item) → Delivers input fs → fs ≡ es

-- a refusal of the session, and a fault of the sheet, as the console's fault holds them
abbrev pub within : Refusal SessionFault → Refusal ConsoleFault
within e = inside Sheet (lifted e)

abbrev pub raised : Placed SheetFault → Placed ConsoleFault
raised e = record { fault = Sheet e.fault; place = e.place }

-- the refusal of a delivery with no ciphertext
abbrev pub empty : Refusal SessionFault
empty = refusal Empty 7 SessionLayer 0

-- Why the delivery with the parts p is refused with the fault f: no suite has its number, or its
-- ciphertext is empty, or it is not but no message seals to it and the tag, or the message that
-- does is broken as a sheet. Only one of these holds.
pub data Refused (p : Parts) (f : Placed ConsoleFault) : Type 0 where
  unlisted : suite_of p.suite ≡ None
      → IsRefusal console_faults (within (not_listed p.suite)) f → Refused p f
  no_body : (under : List ℕ → Functions) → suite_of p.suite ≡ Some under
      → length p.ciphertext ≡ 0 → IsRefusal console_faults (within empty) f → Refused p f
  no_seal : (under : List ℕ → Functions) → suite_of p.suite ≡ Some under
      → 0 < length p.ciphertext
      → ((M : List ℕ) → Seals (under p.key) p.header M p.ciphertext p.tag → ⊥)
      → IsRefusal console_faults (within (forged (length p.ciphertext))) f → Refused p f
  no_sheet : (under : List ℕ → Functions) → suite_of p.suite ≡ Some under
      → (M : List ℕ) → Seals (under p.key) p.header M p.ciphertext p.tag
      → (e : Placed SheetFault) → Broken M e → f ≡ raised e → Refused p f

-- Why an input is refused: it is no delivery within the limits, or it is one that is refused.
pub data RefusedInput (input : List ℕ) (f : Placed ConsoleFault) : Type 0 where
  no_delivery : ((p : Parts) → Limits p → wire p ≢ input)
      → IsRefusal console_faults (malformed (length input)) f → RefusedInput input f
  delivery : (p : Parts) → Limits p → wire p ≡ input → Refused p f → RefusedInput input f

-- What judging an input answers: the first n bytes of the buffer o' are the sheet of the list that
-- it delivers; or why it is refused, and then it delivers no list.
abbrev pub Judged : (input o' : List ℕ) → Result ℕ (Placed ConsoleFault) → Type 0
Judged input o' (Ok n) =
    (es : List Item) × DeliversOnly input es × AllGood es
    × (n ≤ length o') × (take n o' ≡ sheet_of es)
Judged input o' (Err f) = ((es : List Item) → Delivers input es → ⊥) × RefusedInput input f

-- What listing an input answers: the first n bytes of the text are the lines of the list that it
-- delivers; or why it is refused, and then it delivers no list.
abbrev pub Listed : (input text : List ℕ) → Result ℕ (Placed ConsoleFault) → Type 0
Listed input text (Ok n) =
    (es : List Item) × DeliversOnly input es × (take n text ≡ list_of es)
Listed input text (Err f) = ((es : List Item) → Delivers input es → ⊥) × RefusedInput input f

-- the line of a refusal
abbrev pub refusal_line : Placed ConsoleFault → List ℕ
refusal_line f = codes "refused " ++ (decimal (console_number f.fault) ++ 10 ∷ [])

-- What is printed for an input: the lines of the list that it delivers, or the line of its refusal
-- where it delivers none.
abbrev pub Printed : (input text : List ℕ) → Type 0
Printed input text =
    ((es : List Item) × DeliversOnly input es × (text ≡ list_of es))
    ⊎ ((f : Placed ConsoleFault) × ((es : List Item) → Delivers input es → ⊥)
    × RefusedInput input f × (text ≡ refusal_line f))

-- One input has one text: it is not for the program to choose.
abbrev pub PrintedLaw : Type 0
PrintedLaw = (input s t : List ℕ) → All (λ b. b < 256) input
    → Printed input s → Printed input t → s ≡ t
