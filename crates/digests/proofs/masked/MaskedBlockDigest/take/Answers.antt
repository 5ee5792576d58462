use Rattle.std.proofs.Common.{rules}
use Rattle.digests.proofs.Steps.{sum_more}
use Rattle.digests.proofs.masked.MaskedBlockDigest.take.Goals as goal

pub returns : goal.returns
returns g c = λ B w. sum_more _ _ _ c.args.block _ _ B (search rules) c.with-self.ensures c.double-self.ensures
