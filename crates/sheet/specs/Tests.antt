-- The forms of a code and of a drawing as tests. No contract of a public function cites them.
use Rattle.std.specs.Prelude.{ℕ, Bool, true, false, ◌&&◌, List, length, pos, ◌==◌}
use Rattle.sheet.specs.Table.{row_of, in_row}
use Rattle.sheet.specs.Entries.{signs}

abbrev pub code_test : ℕ → List ℕ → Bool
code_test k s = length s == (row_of k).width && signs false s

abbrev pub drawing_test : List ℕ → Bool
drawing_test s = in_row 5 (pos (length s)) && signs true s
