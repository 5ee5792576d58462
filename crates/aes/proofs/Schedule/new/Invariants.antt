use Rattle.std.proofs.Common.{◌≡◌}
use Rattle.aes.specs.Cipher.{IsSchedule}
use Rattle.aes.specs.Expansion.{power}
use Rattle.aes.proofs.Words.{expanded_at}
use Rattle.aes.proofs.Schedules.{Placed}
use Rattle.aes.proofs.Schedule.new.Given as goal

abbrev pub invariant-loop-i : goal.invariant-loop-i
invariant-loop-i l =
    IsSchedule l.keys × (l.k ≡ expanded_at l.initial.k l.i) × (l.rc ≡ power l.i) × Placed l.initial.k l.keys l.i
