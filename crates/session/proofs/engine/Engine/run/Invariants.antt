use Rattle.std.proofs.Common.{◌≡◌, ℕ, ◌*◌, List, ◌++◌, drop}
use Rattle.poet.specs.Functions.{Functions}
use Rattle.session.specs.Directions.{picks}
use Rattle.session.specs.Engines.{EngineAt}
use Rattle.session.specs.Steps.{Ran}
use Rattle.session.proofs.engine.Engine.run.Given as goal

-- the rows so far, and what they leave
abbrev pub invariant-loop-i : goal.invariant-loop-i
invariant-loop-i g l = record {
  ran : (f : Functions) (H : List ℕ) → EngineAt g.S.Permutation.Permutation g.S.ChainingHash.ChainingHash f H l.self → Ran (picks g.W.Way.way f.enc f.dec) f.chain l.initial.lanes (l.initial.held ++ l.initial.input) l.initial.out l.i l.lanes l.out;
  hashed : (f : Functions) (H : List ℕ) → EngineAt g.S.Permutation.Permutation g.S.ChainingHash.ChainingHash f H l.self → l.hashed ≡ f.chain l.lanes.taking;
  left : l.held ++ l.input ≡ drop (16 * l.i) (l.initial.held ++ l.initial.input);
}
