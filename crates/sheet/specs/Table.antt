-- The table of an entry's fields, a row for each bit of its map, and the rules of the map.
use Rattle.std.specs.Prelude.{ℕ, zero, suc, ◌+◌, ◌/◌, ◌%◌, ◌^◌, Bool, true, false, not, ◌&&◌}
use Rattle.std.specs.Prelude.{◌||◌, List, [], ◌∷◌, ℤ, pos, negsuc, ◌==◌, int_le, slice_index_or}
use Rattle.std.specs.List.{list_all, range_with_len}
use Rattle.sheet.specs.declared.entry.Kind.{Kind}
use Rattle.sheet.specs.declared.entry.Kind.TheVariants.{Code, Parent, Count}
use Rattle.sheet.specs.declared.entry.Kind.TheVariants.{Landing, Months, Drawing}
use Rattle.sheet.specs.declared.table.Row.{Row}
use Rattle.sheet.specs.declared.table.Need.{Need}
use Rattle.sheet.specs.declared.table.Need.TheVariants.{Required, Allowed, Unknown}

abbrev unknown : Row
unknown = record { width = 0; low = pos 0; high = pos 0; need = Unknown }

-- Bits 0 to 5: code, parent's code, count, landing, months between changes, drawing. The width is
-- in bytes, and a drawing's is that of its length; the ends are those of the number in the field,
-- and a code has none.
abbrev pub rows : List Row
rows = record { width = 8; low = pos 0; high = pos 0; need = Required }
    ∷ record { width = 8; low = pos 0; high = pos 0; need = Allowed }
    ∷ record { width = 2; low = pos 1; high = pos 9999; need = Required }
    ∷ record { width = 1; low = negsuc 4; high = pos 40; need = Allowed }
    ∷ record { width = 2; low = pos 1; high = pos 600; need = Allowed }
    ∷ record { width = 1; low = pos 1; high = pos 32; need = Allowed }
    ∷ unknown ∷ unknown ∷ unknown ∷ unknown ∷ unknown
    ∷ unknown ∷ unknown ∷ unknown ∷ unknown ∷ unknown ∷ []

unfoldable pub row_of : ℕ → Row
row_of k = slice_index_or rows k unknown

-- how many bits a map has
abbrev pub map_bits : ℕ
map_bits = 16

-- the bit of a kind of field
abbrev pub bit_of : Kind → ℕ
bit_of Code = 0
bit_of Parent = 1
bit_of Count = 2
bit_of Landing = 3
bit_of Months = 4
bit_of Drawing = 5

-- z lies between the ends of row k
abbrev pub in_row : ℕ → ℤ → Bool
in_row k z = int_le (row_of k).low z && int_le z (row_of k).high

-- bit k of a map, and whether it is set
abbrev pub bit : ℕ → ℕ → ℕ
bit m k = m / 2 ^ k % 2

abbrev pub is_set : ℕ → ℕ → Bool
is_set m k = bit m k == 1

-- how many of the lowest k bits are set
abbrev pub set_below : ℕ → ℕ → ℕ
set_below m zero = 0
set_below m (suc k) = set_below m k + bit m k

abbrev pub is_unknown : Need → Bool
is_unknown Required = false
is_unknown Allowed = false
is_unknown Unknown = true

abbrev pub is_required : Need → Bool
is_required Required = true
is_required Allowed = false
is_required Unknown = false

-- bit k is as the table allows, and as it requires
abbrev pub known_at : ℕ → ℕ → Bool
known_at m k = not (is_set m k && is_unknown (row_of k).need)

abbrev pub complete_at : ℕ → ℕ → Bool
complete_at m k = is_set m k || not (is_required (row_of k).need)

-- the test passes at each number below k
unfoldable pub all_below : (ℕ → Bool) → ℕ → Bool
all_below t k = list_all t (range_with_len 0 k)
