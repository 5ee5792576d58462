-- Blocks in reverse.
use Rattle.std.specs.Prelude.{ℕ, ◌-◌, ◌<◌, List, reverse, length}
use Rattle.std.proofs.Common.{◌∙◌, arith}
use Rattle.std.proofs.lemmas.List.{length-reverse, get_or-reverse, reverse-reverse}
use Rattle.block.specs.Bytes.{Block}
use Rattle.block.specs.Permutes.{Permutes}
use Rattle.block.proofs.Xors.{bytes_from, bytes_at}

reverse_block : (b : List ℕ) → Block b → Block (reverse b)
reverse_block b p =
    let n = length-reverse b in
    record { long = n ∙ p.long; bytes = bytes_from (reverse b) (λ k l. let m : k < length b = omega arith in rw (get_or-reverse b k 0 m) (bytes_at b p.bytes (length b - 1 - k) (omega arith))) }

pub reversal : Permutes reverse reverse
reversal = record { dec_enc = λ b p. reverse-reverse b; enc_dec = λ b p. reverse-reverse b; enc_block = reverse_block; dec_block = reverse_block }
