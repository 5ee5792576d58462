use Rattle.replay.specs.Scripts.{written_in}
use Rattle.replay.proofs.Through.{SoFar}
use Rattle.replay.proofs.input.read_script.Given as goal

abbrev pub invariant-loop-before : goal.invariant-loop-before
invariant-loop-before g l = SoFar (g.R.Read.remaining l.initial.reader) (g.R.Read.remaining l.reader) l.before (written_in l.script)
