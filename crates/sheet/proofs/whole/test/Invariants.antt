use Rattle.std.proofs.Common.{◌≡◌, ◌-◌, length}
use Rattle.sheet.proofs.Decoding.{Sofar}
use Rattle.sheet.proofs.whole.test.Given as goal

abbrev pub invariant-loop-count : goal.invariant-loop-count
invariant-loop-count l = (l.reader.sheet.now ≡ l.initial.sheet) × Sofar l.initial.sheet l.reader.place l.count

abbrev pub decreases-loop-count : goal.decreases-loop-count
decreases-loop-count l = length l.reader.sheet.now - l.reader.place
