-- Reading one entry from the front of some bytes: what it says and the bytes behind it, or a fault,
-- as a parser. `Laws` states that an entry is read exactly where its bytes stand, that the fault is
-- that of the rule which is broken first, as `Breaks` has it, and, with no word of a parser, that
-- one of the two is so for any bytes and never both.
use Rattle.std.specs.Prelude.{ℕ, ◌+◌, ◌*◌, Bool, true, false, List, length, take}
use Rattle.std.specs.Prelude.{drop, ℤ, pos, Some, None, Option, nat_le, slice_index}
use Rattle.std.proofs.Common.{to_z}
use Rattle.std.specs.Int.{w8}
use Rattle.fault.specs.declared.kinds.SheetFault.{SheetFault}
use Rattle.fault.specs.declared.kinds.SheetFault.TheVariants.{Cut, UnknownBit, Missing, Value}
use Rattle.sheet.specs.Table.{row_of, in_row, is_set, known_at, complete_at, all_below, map_bits}
use Rattle.sheet.specs.Entries.{Item, signs}

-- a value and what is left, or a refusal
pub data Read (X : Type 0) : Type 0 where
  got : X → List ℕ → Read X
  fault : SheetFault → Read X

-- one reading after another, and a rule that is tested before what follows
abbrev pub next : {X Y : Type 0} → Read X → (X → List ℕ → Read Y) → Read Y
next (got a r) k = k a r
next (fault f) k = fault f

abbrev pub check : {X : Type 0} → Bool → SheetFault → Read X → Read X
check true f r = r
check false f r = fault f

-- the next n bytes
abbrev pub some : ℕ → List ℕ → Read (List ℕ)
some n bs = check (nat_le n (length bs)) Cut (got (take n bs) (drop n bs))

abbrev pub two_of : List ℕ → ℕ
two_of s = slice_index s 0 * 256 + slice_index s 1

-- each field: cut short before outside its form; the length of a drawing is judged before its bytes
abbrev pub read_code : ℕ → List ℕ → Read (List ℕ)
read_code k bs =
    next (some (row_of k).width bs) (λ s rest. check (signs false s) Value (got s rest))

abbrev pub read_number : ℕ → List ℕ → Read ℕ
read_number k bs =
    next (some (row_of k).width bs)
    (λ s rest. check (in_row k (pos (two_of s))) Value (got (two_of s) rest))

abbrev pub read_landing : List ℕ → Read ℤ
read_landing bs =
    next (some (row_of 3).width bs)
    (λ s rest. let z = to_z w8 (slice_index s 0) in check (in_row 3 z) Value (got z rest))

abbrev pub read_drawing : List ℕ → Read (List ℕ)
read_drawing bs =
    next (some (row_of 5).width bs)
    (λ s rest.
    check (in_row 5 (pos (slice_index s 0))) Value
    (next (some (slice_index s 0) rest) (λ t after. check (signs true t) Value (got t after))))

-- a field that is read only if its bit is set
abbrev pub read_held : {X : Type 0} → (List ℕ → Read X) → Bool → List ℕ → Read (Option X)
read_held p false bs = got None bs
read_held p true bs = next (p bs) (λ a rest. got (Some a) rest)

-- the map: cut short, then a bit that may not be set, then one that is missing
abbrev pub read_map : List ℕ → Read ℕ
read_map bs =
    next (some 2 bs)
    (λ s rest.
    check (all_below (known_at (two_of s)) map_bits) UnknownBit
    (check (all_below (complete_at (two_of s)) map_bits) Missing (got (two_of s) rest)))

abbrev pub item : List ℕ → Option (List ℕ) → ℕ → Option ℤ → Option ℕ → Option (List ℕ) → Item
item c p n l m d = record { code = c; parent = p; count = n; landing = l; months = m; drawing = d }

abbrev pub read_fields : ℕ → List ℕ → Read Item
read_fields m bs =
    next (read_code 0 bs) λ c r1.
    next (read_held (read_code 1) (is_set m 1) r1) λ p r2.
    next (read_number 2 r2) λ n r3.
    next (read_held read_landing (is_set m 3) r3) λ l r4.
    next (read_held (read_number 4) (is_set m 4) r4) λ o r5.
    next (read_held read_drawing (is_set m 5) r5) λ d r6.
    got (item c p n l o d) r6

abbrev pub read_item : List ℕ → Read Item
read_item bs = next (read_map bs) read_fields
