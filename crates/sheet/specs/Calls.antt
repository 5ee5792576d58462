-- What the sheet's calls do: which answer or refusal they give, and what the buffer then holds.
use Rattle.std.specs.Prelude.{◌≡◌, ℕ, ◌+◌, ◌-◌, ◌<◌, ◌≤◌, ◌⊎◌, List, [], ◌∷◌}
use Rattle.std.specs.Prelude.{◌++◌, length, take, drop, Some, None, Ok, Err, Option, Result}
use Rattle.std.specs.Borrow.{Bor}
use Rattle.std.specs.Option.{option_map}
use Rattle.fault.specs.declared.kinds.SheetFault.{SheetFault}
use Rattle.fault.specs.declared.kinds.SheetFault.TheVariants.{Room, Value}
use Rattle.fault.specs.declared.kinds.Placed.{Placed}
use Rattle.fault.specs.declared.kinds.Layer.TheVariants.{Sheet as SheetLayer}
use Rattle.fault.specs.Refusals.{Refusal, IsRefusal, refusal, sheet_faults}
use Rattle.sheet.specs.declared.entry.Entry.{Entry}
use Rattle.sheet.specs.declared.entry.Field.{Field}
use Rattle.sheet.specs.declared.entry.Field.TheVariants.{Code, Parent, Count}
use Rattle.sheet.specs.declared.entry.Field.TheVariants.{Landing, Months, Drawing}
use Rattle.sheet.specs.declared.entry.Kind.{Kind}
use Rattle.sheet.specs.declared.entry.Kind.TheVariants as kind
use Rattle.sheet.specs.Entries.{Item, Held, Good, AllGood, bytes, sheet_of, Lent, item_of}
use Rattle.sheet.specs.Breaks.{RefusedAt}

-- what a call that writes refuses with at a place: a value is outside its form
abbrev pub bad_value : ℕ → Refusal SheetFault
bad_value at = refusal Value 13 SheetLayer at

-- ... there is no room
abbrev pub no_room : ℕ → Refusal SheetFault
no_room at = refusal Room 6 SheetLayer at

-- Putting the bytes s into the buffer `old` at a place, if there is room; q is the place behind.
abbrev pub Put : (old new : List ℕ) (at : ℕ) (s : List ℕ) → Result ℕ (Placed SheetFault) → Type 0
Put old new at s (Ok q) =
    (q ≡ at + length s) × (q ≤ length old) × (new ≡ take at old ++ (s ++ drop q old))
Put old new at s (Err f) =
    (new ≡ old) × IsRefusal sheet_faults (no_room at) f × (length old < at + length s)

-- f is the refusal of writing the entry e as the bytes b at a place of a buffer with so much room.
-- Values are tested before room.
abbrev pub NotWritten : (room at : ℕ) (e : Item) (b : List ℕ) → Placed SheetFault → Type 0
NotWritten room at e b f =
    (IsRefusal sheet_faults (bad_value at) f × (Good e → ⊥))
    ⊎ (IsRefusal sheet_faults (no_room at) f × Good e × (room < at + length b))

-- Writing the entry e as the bytes b into the buffer `old` at a place; q is where the next would
-- begin.
abbrev pub WroteAs : (old new : List ℕ) (at : ℕ) (e : Item) (b : List ℕ)
    → Result ℕ (Placed SheetFault) → Type 0
WroteAs old new at e b (Ok q) =
    Good e × (q ≡ at + length b) × (q ≤ length old) × (new ≡ take at old ++ (b ++ drop q old))
WroteAs old new at e b (Err f) = (new ≡ old) × NotWritten (length old) at e b f

-- as its bytes in a sheet
abbrev pub Wrote : (old new : List ℕ) (at : ℕ) (e : Item) → Result ℕ (Placed SheetFault) → Type 0
Wrote old new at e r = WroteAs old new at e (bytes e) r

-- The next call of a reader at place p of the sheet s, which is at place q after it: the end
-- exactly at the sheet's end, or the entry that stands at p, or the refusal of what stands there,
-- which leaves the place.
abbrev pub Answered : (s : List ℕ) (p q : ℕ) → Result (Option Lent) (Placed SheetFault) → Type 0
Answered s p q (Ok None) = (p ≡ length s) × (q ≡ p)
Answered s p q (Ok (Some e)) =
    Good (item_of e) × (drop p s ≡ bytes (item_of e) ++ drop q s)
    × (p < length s) × (p < q) × (q ≤ length s)
Answered s p q (Err f) = RefusedAt p (drop p s) f × (p < length s) × (q ≡ p)

-- s is the part of a sheet from a place on; b is where the sheet stands in memory, a block and an
-- offset in it
abbrev pub Lies : (b : ℕ × ℕ) (n : ℕ) → Bor (List ℕ) → Type 0
Lies b n s = s.ref_ptr ≡ (b.0, b.1 + n)

-- The codes and the drawing of an entry that stands from p to q are those very parts of the sheet.
pub record InPlace (b : ℕ × ℕ) (p q : ℕ) (e : Lent) : Type 0 where
  pub code : Lies b (p + 2) e.code
  pub parent : Held (Lies b (p + 10)) e.parent
  pub drawing : Held (λ s. Lies b (q - length s.now) s) e.drawing

abbrev pub AnsweredInPlace : (b : ℕ × ℕ) (p q : ℕ)
    → Result (Option Lent) (Placed SheetFault) → Type 0
AnsweredInPlace b p q (Ok None) = Unit {0}
AnsweredInPlace b p q (Ok (Some e)) = InPlace b p q e
AnsweredInPlace b p q (Err f) = Unit {0}

-- Where good entries follow, the first of them is answered, and the others follow then.
abbrev pub Follows : (s : List ℕ) (q : ℕ) → List Item
    → Result (Option Lent) (Placed SheetFault) → Type 0
Follows s q [] (Ok None) = drop q s ≡ []
Follows s q [] (Ok (Some x)) = ⊥
Follows s q (e ∷ es) (Ok None) = ⊥
Follows s q (e ∷ es) (Ok (Some x)) = (item_of x ≡ e) × (drop q s ≡ sheet_of es)
Follows s q es (Err f) = ⊥

-- the entry last answered, after one more next call
abbrev pub last_of : Option Lent → Result (Option Lent) (Placed SheetFault) → Option Lent
last_of old (Ok None) = old
last_of old (Ok (Some e)) = Some e
last_of old (Err f) = old

-- a field of an entry, or absent
abbrev pub field_of : {T : Type 0} → Kind → Entry T → Option (Field T)
field_of kind.Code e = Some (Code e.code)
field_of kind.Parent e = option_map Parent e.parent
field_of kind.Count e = Some (Count e.count)
field_of kind.Landing e = option_map Landing e.landing
field_of kind.Months e = option_map Months e.months
field_of kind.Drawing e = option_map Drawing e.drawing

-- a field of the entry last answered; absent also where none was answered
abbrev pub last_field : {T : Type 0} → Kind → Option (Entry T) → Option (Field T)
last_field k None = None
last_field k (Some e) = field_of k e

-- Some list of one or more good entries has these bytes.
pub record Holds (s : List ℕ) (es : List Item) : Type 0 where
  pub some : 0 < length es
  pub good : AllGood es
  pub is : sheet_of es ≡ s

-- The refusal of a sheet: it is empty, or good entries stand before a place within it, and what
-- stands there is refused.
pub record Broken (s : List ℕ) (f : Placed SheetFault) : Type 0 where
  pub inside : (s ≡ []) ⊎ (f.place < length s)
  pub before : List Item
  pub good : AllGood before
  pub length_before : length (sheet_of before) ≡ f.place
  pub is : sheet_of before ++ drop f.place s ≡ s
  pub refused : RefusedAt f.place (drop f.place s) f

-- The test of a whole sheet: accepted exactly if it holds a list of entries, of which it answers
-- the number.
abbrev pub Tested : List ℕ → Result ℕ (Placed SheetFault) → Type 0
Tested s (Ok n) = (es : List Item) × Holds s es × (n ≡ length es)
Tested s (Err f) = ((es : List Item) → Holds s es → ⊥) × Broken s f
