use Rattle.std.proofs.Common.{rules}
use Rattle.digests.proofs.Steps.{sum_last}
use Rattle.digests.proofs.masked.MaskedBlockDigest.end.Goals as goal

pub returns : goal.returns
returns g c = sum_last _ _ _ c.args.block _ _ (search rules) c.with.ensures c.encrypt.ensures
