use Rattle.std.proofs.Common.{take}
use Rattle.script.specs.Playing.{BodyPlayed}
use Rattle.script.proofs.calls.body_calls.Given as goal

abbrev pub invariant-loop-stretch : goal.invariant-loop-stretch
invariant-loop-stretch g l =
    BodyPlayed (take l.stretch-index l.stretches) l.initial.log l.log l.initial.session l.session
