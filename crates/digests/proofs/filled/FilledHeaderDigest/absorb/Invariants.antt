use Rattle.std.proofs.Common.{◌≡◌, ℕ, List, ◌++◌, drop}
use Rattle.digests.proofs.filled.FilledHeaderDigest.absorb.Given as goal

abbrev pub invariant-loop-b : goal.invariant-loop-b
invariant-loop-b g l =
    (r : List ℕ) → g.D.BlockDigest.rule l.self.digest (g.G.Filling.fill (l.self.held ++ (drop l.b-index l.p ++ r)))
    ≡ g.D.BlockDigest.rule l.initial.self.digest (g.G.Filling.fill (l.initial.self.held ++ (l.p ++ r)))
