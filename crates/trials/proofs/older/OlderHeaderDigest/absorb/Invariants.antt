use Rattle.std.proofs.Common.{◌≡◌, ℕ, List, ◌++◌, drop}
use Rattle.trial_forms.specs.Older.{older}
use Rattle.trials.proofs.older.OlderHeaderDigest.absorb.Given as goal

abbrev pub invariant-loop-b : goal.invariant-loop-b
invariant-loop-b g l =
    (r : List ℕ) → older (g.P.Permutation.enc l.self.permutation) l.self.sum l.self.mask (l.self.held ++ (drop l.b-index l.p ++ r))
    ≡ older (g.P.Permutation.enc l.initial.self.permutation) l.initial.self.sum l.initial.self.mask (l.initial.self.held ++ (l.p ++ r))
