use Rattle.std.proofs.Common.{rules}
use Rattle.aes.specs.State.{sub_bytes}
use Rattle.aes.specs.Grouping.{next_key}
use Rattle.aes.proofs.keys.next_key.Goals as goal

pub returns : goal.returns
unfolding next_key sub_bytes
returns c = let e = c.sub_bytes-s.ensures in search rules
