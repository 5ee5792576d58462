use Rattle.aes.specs.Between.{AfterRounds}
use Rattle.aes.proofs.Schedule.whole_rounds.Given as goal

abbrev pub invariant-loop-i : goal.invariant-loop-i
invariant-loop-i l = AfterRounds l.self.keys l.i l.fn.x l.s
