-- The lines so far stand in the text; with those that are left, they are all.
use Rattle.std.proofs.Common.{◌≡◌, ◌≤◌, ◌-◌, List, length}
use Rattle.sheet.specs.Entries.{Item, AllGood, sheet_of}
use Rattle.report.specs.Lists.{list_of}
use Rattle.report.proofs.Listing.{Sofar}
use Rattle.report.proofs.lines.put_lines.Given as goal

abbrev pub invariant-loop-entry : goal.invariant-loop-entry
invariant-loop-entry l = (es : List Item) → AllGood es → l.initial.sheet ≡ sheet_of es → length (list_of es) ≤ length l.initial.text → Sofar l.initial.text l.text l.at l.reader es

abbrev pub decreases-loop-entry : goal.decreases-loop-entry
decreases-loop-entry l = length l.reader.sheet.now - l.reader.place
