-- What is gone from the rest was written.
use Rattle.std.proofs.Common.{◌≡◌, List, ℕ, ◌++◌}
use Rattle.std.specs.Io.KnownBytes.{Appends}
use Rattle.streams.proofs.put.Given as goal

abbrev pub invariant-loop : goal.invariant-loop
invariant-loop g l = (done : List ℕ) × (done ++ l.rest ≡ l.initial.rest) × Appends (g.W.Write.contents l.initial.writer) (g.W.Write.contents l.writer) done
