use Rattle.speck.proofs.Rounds.{MadeTo}
use Rattle.speck.proofs.Schedule.new.Given as goal

abbrev pub invariant-loop-i : goal.invariant-loop-i
invariant-loop-i l = MadeTo l.fn.key l.k-items l.i l.words
