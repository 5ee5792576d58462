-- The laws of the sheet's definitions.
use Rattle.std.specs.Prelude.{◌≡◌, ℕ, ◌+◌, ◌<◌, ◌≤◌, ◌⊎◌, ◌↔◌, List, [], ◌∷◌}
use Rattle.std.specs.Prelude.{◌++◌, length, take, drop, All, Ok, Err, Result}
use Rattle.fault.specs.declared.kinds.SheetFault.{SheetFault}
use Rattle.fault.specs.declared.kinds.Placed.{Placed}
use Rattle.sheet.specs.Entries.{Item, Good, AllGood, bytes, sheet_of}
use Rattle.sheet.specs.Reading.{got, fault, read_item}
use Rattle.sheet.specs.Breaks.{RefusedAt}
use Rattle.sheet.specs.Calls.{NotWritten, Wrote, Holds, Broken}

-- a good entry stands at the front of the bytes
abbrev pub HasEntry : List ℕ → Type 0
HasEntry bs = (e : Item) × (rest : List ℕ) × Good e × (bs ≡ bytes e ++ rest)

-- the bytes, at place p, are refused
abbrev pub HasRefusal : (p : ℕ) → List ℕ → Type 0
HasRefusal p bs = (f : Placed SheetFault) × RefusedAt p bs f

-- At any place, either a good entry stands or the bytes are refused, and never both.
abbrev pub EntryLaw : Type 0
EntryLaw = (p : ℕ) (bs : List ℕ) → All (λ b. b < 256) bs
    → (HasEntry bs ⊎ HasRefusal p bs) × (HasEntry bs → HasRefusal p bs → ⊥)

-- An entry is read from the front of some bytes exactly where its bytes stand there.
abbrev pub ReadingLaw : Type 0
ReadingLaw = (bs : List ℕ) (e : Item) (rest : List ℕ) → All (λ b. b < 256) bs
    → (read_item bs ≡ got e rest) ↔ (Good e × (bs ≡ bytes e ++ rest))

-- Where no entry is read, the refusal is that of the rule that is broken first; there is only one.
abbrev pub RefusalLaw : Type 0
RefusalLaw = (p : ℕ) (bs : List ℕ) (f : Placed SheetFault) → All (λ b. b < 256) bs
    → ((read_item bs ≡ fault f.fault) × (f.place ≡ p)) ↔ RefusedAt p bs f

abbrev pub FirstLaw : Type 0
FirstLaw = (p : ℕ) (bs : List ℕ) (f g : Placed SheetFault) → All (λ b. b < 256) bs
    → RefusedAt p bs f → RefusedAt p bs g → f ≡ g

-- One sheet has one list: no two lists of good entries have the same bytes.
abbrev pub UniqueLaw : Type 0
UniqueLaw = (es fs : List Item) → AllGood es → AllGood fs → sheet_of es ≡ sheet_of fs → es ≡ fs

-- A sheet that holds a list is not broken, and a broken sheet has one refusal.
abbrev pub HoldsLaw : Type 0
HoldsLaw = (s : List ℕ) (es : List Item) (f : Placed SheetFault) → All (λ b. b < 256) s
    → Holds s es → Broken s f → ⊥

abbrev pub BrokenLaw : Type 0
BrokenLaw = (s : List ℕ) (f g : Placed SheetFault) → All (λ b. b < 256) s
    → Broken s f → Broken s g → f ≡ g

-- Write calls one after another, none refused: the buffer `old` became `new`, and the places went
-- from `at` to `end`.
abbrev pub Writes : List Item → (old new : List ℕ) (at end : ℕ) → Type 0
Writes [] old new at end = (new ≡ old) × (end ≡ at)
Writes (e ∷ es) old new at end =
    (mid : List ℕ) × (q : ℕ) × Wrote old mid at e (Ok q) × Writes es mid new q end

-- A list written from a place on leaves its sheet there and alters nothing else; it can be written
-- exactly if it is good and has room.
pub record Written (es : List Item) (old new : List ℕ) (at end : ℕ) : Type 0 where
  pub good : AllGood es
  pub end_is : end ≡ at + length (sheet_of es)
  pub room : end ≤ length old
  pub new_is : new ≡ take at old ++ (sheet_of es ++ drop end old)

-- The sheet s is the list es, written: write calls from place 0 of some buffer, end to end and none
-- refused, leave s up to where they end.
abbrev pub WrittenFromStart : List Item → List ℕ → Type 0
WrittenFromStart es s =
    (old : List ℕ) × (new : List ℕ) × (end : ℕ) × Writes es old new 0 end × (s ≡ take end new)

-- A list is written as a sheet exactly if it is good, and the sheet is that of its bytes.
abbrev pub SheetLaw : Type 0
SheetLaw = (es : List Item) (s : List ℕ) → WrittenFromStart es s ↔ (AllGood es × (s ≡ sheet_of es))

-- f is the refusal of writing the whole list es from the start of a buffer with so much room: that
-- of the first entry that cannot be written behind those before it.
pub record NotAll (es : List Item) (room : ℕ) (f : Placed SheetFault) : Type 0 where
  pub before : List Item
  pub entry : Item
  pub after : List Item
  pub order : es ≡ before ++ entry ∷ after
  pub good : AllGood before
  pub fits : length (sheet_of before) ≤ room
  pub refused : NotWritten room (length (sheet_of before)) entry (bytes entry) f

-- Writing the whole list es from the start of the buffer `old`: its sheet, which is n bytes long,
-- or nothing.
abbrev pub WroteAll : (es : List Item) (old new : List ℕ) → Result ℕ (Placed SheetFault) → Type 0
WroteAll es old new (Ok n) =
    AllGood es × (n ≡ length (sheet_of es)) × (n ≤ length old) × (new ≡ sheet_of es ++ drop n old)
WroteAll es old new (Err f) = (new ≡ old) × NotAll es (length old) f

abbrev pub WritingLaw : Type 0
WritingLaw = (es : List Item) (old new : List ℕ) (at end : ℕ) → at ≤ length old
    → Writes es old new at end ↔ Written es old new at end
