use Rattle.std.proofs.Common.{rules}
use Rattle.digests.proofs.Steps.{row_last}
use Rattle.digests.proofs.chained.ChainedBlockDigest.end.Goals as goal

pub returns : goal.returns
returns g c = row_last _ _ _ _ c.args.block _ _ _ _ _ (search rules) c.hash.ensures c.xor.ensures c.encrypt-last.ensures c.hash-2.ensures c.xor-2.ensures
