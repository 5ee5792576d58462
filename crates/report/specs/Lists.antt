-- The list of entries as text.
use Rattle.std.specs.Prelude.{ℕ, List, [], ◌∷◌, ◌++◌}
use Rattle.sheet.specs.Entries.{Item}
use Rattle.listing.specs.Lines.{line_of}

-- a line for each entry
abbrev pub list_of : List Item → List ℕ
list_of [] = []
list_of (e ∷ es) = line_of e ++ list_of es
