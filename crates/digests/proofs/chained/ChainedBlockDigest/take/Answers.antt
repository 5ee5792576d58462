use Rattle.std.proofs.Common.{rules}
use Rattle.digests.proofs.Steps.{row_more}
use Rattle.digests.proofs.chained.ChainedBlockDigest.take.Goals as goal

pub returns : goal.returns
returns g c = λ B w. row_more _ _ _ _ c.args.block _ _ _ B (search rules) w c.hash.ensures c.xor-x.ensures c.encrypt-self.ensures
