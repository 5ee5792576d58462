use Rattle.aes.specs.Expansion.{schedule}
use Rattle.aes.proofs.Undone.{cipher_permutes, cipher4_permutes}
use Rattle.aes.proofs.Schedules.{expands, held}
use Rattle.aes.proofs.schedules_stands.Goals as goal

pub returns : goal.returns
returns c = record {
  expands = expands;
  holds = held;
  ten = λ key b. cipher_permutes (schedule key) (expands key b);
  four = λ key b. cipher4_permutes (schedule key) (expands key b);
}
