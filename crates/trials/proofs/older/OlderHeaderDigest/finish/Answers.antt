use Rattle.std.proofs.Common.{rules}
use Rattle.trials.proofs.Pushing.{ended}
use Rattle.trials.proofs.older.OlderHeaderDigest.finish.Goals as goal

pub returns : goal.returns
returns g c = ended _ _ _ c.args.self.held c.complete-block.result _ _ _ _ (search rules) (search rules) (search rules) c.xor-last.ensures c.xor.ensures c.encrypt.ensures
