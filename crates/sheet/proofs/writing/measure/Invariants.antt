use Rattle.std.proofs.Common.{map, take}
use Rattle.sheet.specs.Entries.{item_of}
use Rattle.sheet.proofs.Lists.{GoodSofar}
use Rattle.sheet.proofs.writing.measure.Given as goal

abbrev pub invariant-loop-e : goal.invariant-loop-e
invariant-loop-e l = GoodSofar (map item_of (take l.e-index l.entries)) l.room l.at
