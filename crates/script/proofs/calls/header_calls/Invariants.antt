use Rattle.std.proofs.Common.{take}
use Rattle.script.specs.Playing.{HeaderPlayed}
use Rattle.script.proofs.calls.header_calls.Given as goal

abbrev pub invariant-loop-stretch : goal.invariant-loop-stretch
invariant-loop-stretch g l =
    HeaderPlayed (take l.stretch-index l.stretches) l.initial.log l.log l.initial.heading l.heading
