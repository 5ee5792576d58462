-- What an entry says, the forms of its fields, and its bytes; a sheet is the bytes of its entries,
-- end to end.
use Rattle.std.specs.Prelude.{◌≡◌, ℕ, ◌+◌, ◌/◌, ◌%◌, Bool, true, false, if◌then◌else◌}
use Rattle.std.specs.Prelude.{◌&&◌, ◌||◌, List, [], ◌∷◌, ◌++◌, length, ℤ, pos}
use Rattle.std.specs.Prelude.{is_some, Some, None, Option, ◌==◌, nat_le}
use Rattle.std.proofs.Common.{of_z}
use Rattle.std.specs.Int.{w8}
use Rattle.std.specs.List.{list_all}
use Rattle.std.specs.Borrow.{Bor}
use Rattle.std.specs.Option.{option_map}
use Rattle.sheet.specs.declared.entry.Entry.{Entry}
use Rattle.sheet.specs.declared.entry.Kind.TheVariants.{Code, Parent, Count}
use Rattle.sheet.specs.declared.entry.Kind.TheVariants.{Landing, Months, Drawing}
use Rattle.sheet.specs.Table.{bit_of, row_of, in_row}

-- what an entry says; a field that may be left out is an option
pub record Item : Type 0 where
  pub code : List ℕ
  pub parent : Option (List ℕ)
  pub count : ℕ
  pub landing : Option ℤ
  pub months : Option ℕ
  pub drawing : Option (List ℕ)

-- A to Z, 0 to 9, and a slash where one is allowed
abbrev pub sign : Bool → ℕ → Bool
sign slash b = (nat_le 65 b && nat_le b 90) || ((nat_le 48 b && nat_le b 57) || (slash && b == 47))

abbrev pub signs : Bool → List ℕ → Bool
signs slash s = list_all (sign slash) s

-- the forms of the fields, by the rows of the table; k is the bit of the field
abbrev pub CodeForm : ℕ → List ℕ → Type 0
CodeForm k s = (length s ≡ (row_of k).width) × (signs false s ≡ true)

abbrev pub NumberForm : ℕ → ℕ → Type 0
NumberForm k n = in_row k (pos n) ≡ true

abbrev pub LandingForm : ℤ → Type 0
LandingForm z = in_row (bit_of Landing) z ≡ true

abbrev pub DrawingForm : List ℕ → Type 0
DrawingForm s = (in_row (bit_of Drawing) (pos (length s)) ≡ true) × (signs true s ≡ true)

abbrev pub Held : {A : Type 0} → (A → Type 0) → Option A → Type 0
Held P None = Unit {0}
Held P (Some a) = P a

-- every field has its form
pub record Good (e : Item) : Type 0 where
  pub code : CodeForm (bit_of Code) e.code
  pub parent : Held (CodeForm (bit_of Parent)) e.parent
  pub count : NumberForm (bit_of Count) e.count
  pub landing : Held LandingForm e.landing
  pub months : Held (NumberForm (bit_of Months)) e.months
  pub drawing : Held DrawingForm e.drawing

abbrev pub AllGood : List Item → Type 0
AllGood [] = Unit {0}
AllGood (e ∷ es) = Good e × AllGood es

-- the bytes of each kind of field: a number in two bytes, big-endian; a landing in one, two's
-- complement; text as it is; a drawing behind its length
abbrev pub two : ℕ → List ℕ
two n = (n / 256 % 256) ∷ (n % 256) ∷ []

abbrev pub one : ℤ → List ℕ
one z = of_z w8 z ∷ []

abbrev pub text : List ℕ → List ℕ
text s = s

abbrev pub counted : List ℕ → List ℕ
counted s = length s ∷ s

abbrev pub held : {A : Type 0} → (A → List ℕ) → Option A → List ℕ
held w None = []
held w (Some a) = w a

-- the map: bits 0 and 2 are set, and of the others those whose field is there
abbrev pub map_of : (parent landing months drawing : Bool) → ℕ
map_of p l m d =
    5 + (if p then 2 else 0) + (if l then 8 else 0) + (if m then 16 else 0) + (if d then 32 else 0)

abbrev pub item_map : Item → ℕ
item_map e = map_of (is_some e.parent) (is_some e.landing) (is_some e.months) (is_some e.drawing)

-- an entry is its map, and then its fields in the order of the table
abbrev pub bytes : Item → List ℕ
bytes e =
    two (item_map e)
    ++ (e.code
    ++ (held text e.parent
    ++ (two e.count
    ++ (held one e.landing
    ++ (held two e.months
    ++ held counted e.drawing)))))

abbrev pub sheet_of : List Item → List ℕ
sheet_of [] = []
sheet_of (e ∷ es) = bytes e ++ sheet_of es

-- how many fields it has
abbrev pub field_count : Item → ℕ
field_count e =
    2 + (if is_some e.parent then 1 else 0) + (if is_some e.landing then 1 else 0)
    + (if is_some e.months then 1 else 0) + (if is_some e.drawing then 1 else 0)

-- the entry that the code holds, where t is what a text says
abbrev pub item_by : {T : Type 0} → (T → List ℕ) → Entry T → Item
item_by t e = record {
  code = t e.code;
  parent = option_map t e.parent;
  count = e.count;
  landing = e.landing;
  months = e.months;
  drawing = option_map t e.drawing;
}

-- an entry of lent texts, and what it says
abbrev pub Lent : Type 0
Lent = Entry (Bor (List ℕ))

abbrev pub item_of : Lent → Item
item_of e = item_by (λ s. s.now) e
