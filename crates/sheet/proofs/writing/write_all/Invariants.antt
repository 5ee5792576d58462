use Rattle.std.proofs.Common.{map, take}
use Rattle.sheet.specs.Entries.{item_of}
use Rattle.sheet.proofs.Lists.{WrittenSofar}
use Rattle.sheet.proofs.writing.write_all.Given as goal

abbrev pub invariant-loop-e : goal.invariant-loop-e
invariant-loop-e l = WrittenSofar (map item_of (take l.e-index l.entries)) l.initial.buf l.buf l.at
