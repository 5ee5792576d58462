use Rattle.std.proofs.Common.{◌-◌}
use Rattle.aes.specs.Between.{BeforeRounds}
use Rattle.aes.proofs.Schedule.decipher.Given as goal

abbrev pub invariant-loop-i : goal.invariant-loop-i
invariant-loop-i l = BeforeRounds l.self.keys (9 - l.i) l.fn.y l.w
