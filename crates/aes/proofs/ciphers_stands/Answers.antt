use Rattle.aes.proofs.Undone.{cipher_permutes, cipher4_permutes}
use Rattle.aes.proofs.ciphers_stands.Goals as goal

pub returns : goal.returns
returns c = record { ten = cipher_permutes; four = cipher4_permutes }
