use Rattle.std.proofs.Common.{rules}
use Rattle.aes.proofs.Rounds.{four_back}
use Rattle.aes.proofs.Schedule.decipher4.Goals as goal

pub returns : goal.returns
returns c = rw four_back (search rules)
