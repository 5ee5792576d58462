-- What an engine holds.
use Rattle.std.specs.Prelude.{◌≡◌, ℕ, List}
use Rattle.poet.specs.Functions.{Functions}
use Rattle.suite.specs.declared.Permutation as permutation
use Rattle.suite.specs.declared.ChainingHash as hash
use Rattle.session.specs.declared.engine.Engine.{Engine}

-- The engine s holds the functions f, and has taken the header H. The members p and h of its
-- permutation and its hash are given beside it: its type does not name them, as it has no ghost
-- field.
pub record EngineAt {A B C D : Type 0} (p : permutation.Ghosts B) (h : hash.Ghosts C)
    (f : Functions) (H : List ℕ) (s : Engine A B C D) : Type 0 where
  pub enc_is : p.enc s.permutation ≡ f.enc
  pub dec_is : p.dec s.permutation ≡ f.dec
  pub chain_is : h.chain s.hash ≡ f.chain
  pub tau_is : s.tau ≡ f.dig H
