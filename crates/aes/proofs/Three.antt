-- Three blocks go through the rounds side by side: what the last round makes of each.
use Rattle.std.proofs.Common.{◌≡◌, ℕ, ◌<◌, List, length, get_or, subst}
use Rattle.block.specs.Bytes.{Block}
use Rattle.aes.specs.Between.{AfterRounds}
use Rattle.aes.specs.Cipher.{cipher}
use Rattle.aes.proofs.Blocks.{block_from}

pub enciphered : (keys : List (List ℕ)) (x s r : List ℕ) (n : ℕ) → length x ≡ 16 → ((i : ℕ) → i < 16 → get_or x i 0 < 256)
    → n ≡ 9 → AfterRounds keys n x s → ((z : List ℕ) → Block z → AfterRounds keys 9 z s → r ≡ cipher keys z) → r ≡ cipher keys x
enciphered keys x s r n l h e v last = last x (block_from x l h) (subst (λ k. AfterRounds keys k x s) e v)
