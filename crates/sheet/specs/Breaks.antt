-- Where no good entry stands at the front of some bytes: the rule that they break first, in the
-- order of an entry's bytes, and the refusal that it has.
use Rattle.std.specs.Prelude.{◌≡◌, ℕ, ◌^◌, ◌<◌, ◌⊎◌, true, false, List}
use Rattle.std.specs.Prelude.{[], ◌∷◌, ◌++◌, filter, length, ℤ, pos}
use Rattle.fault.specs.declared.kinds.SheetFault.{SheetFault}
use Rattle.fault.specs.declared.kinds.SheetFault.TheVariants.{Cut, UnknownBit, Missing, Value}
use Rattle.fault.specs.declared.kinds.Layer.TheVariants.{Sheet as SheetLayer}
use Rattle.fault.specs.declared.kinds.Placed.{Placed}
use Rattle.fault.specs.Refusals.{IsRefusal, refusal, sheet_faults}
use Rattle.sheet.specs.declared.entry.Kind.{Kind}
use Rattle.sheet.specs.declared.entry.Kind.TheVariants.{Code, Parent, Count}
use Rattle.sheet.specs.declared.entry.Kind.TheVariants.{Landing, Months, Drawing}
use Rattle.sheet.specs.Table.{bit_of, in_row, row_of, is_set, is_unknown, is_required, map_bits}
use Rattle.sheet.specs.Entries.{CodeForm, NumberForm, LandingForm, DrawingForm, two, one, counted}

-- the bytes s are a field of a kind, and it has its form
abbrev pub IsField : Kind → List ℕ → Type 0
IsField Code s = CodeForm (bit_of Code) s
IsField Parent s = CodeForm (bit_of Parent) s
IsField Count s = (n : ℕ) × NumberForm (bit_of Count) n × (s ≡ two n)
IsField Landing s = (z : ℤ) × LandingForm z × (s ≡ one z)
IsField Months s = (n : ℕ) × NumberForm (bit_of Months) n × (s ≡ two n)
IsField Drawing s = (d : List ℕ) × DrawingForm d × (s ≡ counted d)

-- good fields of these kinds, end to end
abbrev pub AreFields : List Kind → List ℕ → Type 0
AreFields [] s = s ≡ []
AreFields (k ∷ ks) s = (a : List ℕ) × (b : List ℕ) × IsField k a × AreFields ks b × (s ≡ a ++ b)

-- A drawing is cut short where its length is missing, or is as it should be but fewer bytes follow.
abbrev pub IsDrawingCut : List ℕ → Type 0
IsDrawingCut [] = Unit {0}
IsDrawingCut (n ∷ s) = (in_row (bit_of Drawing) (pos n) ≡ true) × (length s < n)

-- the bytes r end before the field does that begins with them
abbrev pub IsCut : Kind → List ℕ → Type 0
IsCut Drawing r = IsDrawingCut r
IsCut k r = length r < (row_of (bit_of k)).width

-- The bytes r do not end before the field does, and do not begin with one of its form. A drawing
-- whose length is outside its row is so, however many bytes follow.
pub record IsOutside (k : Kind) (r : List ℕ) : Type 0 where
  pub whole : IsCut k r → ⊥
  pub formless : (s t : List ℕ) → r ≡ s ++ t → IsField k s → ⊥

-- behind good fields of the first of these kinds, P holds of the next kind and of what follows
pub record AtField (P : Kind → List ℕ → Type 0) (ks : List Kind) (bs : List ℕ) : Type 0 where
  pub before : List Kind
  pub kind : Kind
  pub after : List Kind
  pub order : ks ≡ before ++ kind ∷ after
  pub front : List ℕ
  pub rest : List ℕ
  pub is : bs ≡ front ++ rest
  pub good : AreFields before front
  pub broken : P kind rest

-- a bit is set that the table does not know
abbrev pub HasUnknown : ℕ → Type 0
HasUnknown m =
    (k : ℕ) × (k < map_bits) × (is_unknown (row_of k).need ≡ true) × (is_set m k ≡ true)

-- a bit that the table requires is not set
abbrev pub LacksBit : ℕ → Type 0
LacksBit m =
    (k : ℕ) × (k < map_bits) × (is_required (row_of k).need ≡ true) × (is_set m k ≡ false)

-- the kinds of the fields that a map tells, in the order of their bits
abbrev pub kinds_of : ℕ → List Kind
kinds_of m =
    filter (λ k. is_set m (bit_of k)) (Code ∷ Parent ∷ Count ∷ Landing ∷ Months ∷ Drawing ∷ [])

-- the bytes begin with a map, and P holds of it and of the bytes behind it
abbrev pub HasMap : (ℕ → List ℕ → Type 0) → List ℕ → Type 0
HasMap P bs = (m : ℕ) × (rest : List ℕ) × (m < 2 ^ map_bits) × (bs ≡ two m ++ rest) × P m rest

-- ... a map with every bit as it should be, and P holds of one of its fields
abbrev pub FailsAt : (Kind → List ℕ → Type 0) → List ℕ → Type 0
FailsAt P bs =
    HasMap (λ m rest. (HasUnknown m → ⊥) × (LacksBit m → ⊥) × AtField P (kinds_of m) rest) bs

-- ---- the four rules

-- the bytes end within the map, or within a field
abbrev pub EndsEarly : List ℕ → Type 0
EndsEarly bs = (length bs < 2) ⊎ FailsAt IsCut bs

abbrev pub HasUnknownBit : List ℕ → Type 0
HasUnknownBit bs = HasMap (λ m _. HasUnknown m) bs

abbrev pub MissesBit : List ℕ → Type 0
MissesBit bs = HasMap (λ m _. (HasUnknown m → ⊥) × LacksBit m) bs

abbrev pub HasBadValue : List ℕ → Type 0
HasBadValue bs = FailsAt IsOutside bs

-- f is the refusal of the bytes bs, which stand at place p.
pub data RefusedAt (p : ℕ) (bs : List ℕ) (f : Placed SheetFault) : Type 0 where
  cut : IsRefusal sheet_faults (refusal Cut 10 SheetLayer p) f
      → EndsEarly bs → RefusedAt p bs f
  unknown_bit : IsRefusal sheet_faults (refusal UnknownBit 11 SheetLayer p) f
      → HasUnknownBit bs → RefusedAt p bs f
  missing : IsRefusal sheet_faults (refusal Missing 12 SheetLayer p) f
      → MissesBit bs → RefusedAt p bs f
  value : IsRefusal sheet_faults (refusal Value 13 SheetLayer p) f
      → HasBadValue bs → RefusedAt p bs f
