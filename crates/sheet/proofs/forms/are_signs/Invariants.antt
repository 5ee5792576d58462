use Rattle.std.proofs.Common.{◌≡◌, drop}
use Rattle.sheet.specs.Entries.{signs}
use Rattle.sheet.proofs.forms.are_signs.Given as goal

abbrev pub invariant-loop-b : goal.invariant-loop-b
invariant-loop-b l = signs l.slash (drop l.b-index l.part) ≡ signs l.slash l.part
