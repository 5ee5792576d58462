use Rattle.std.proofs.Common.{◌+◌, ◌*◌, ◌∙◌, bit_xor, arith}
use Rattle.block.specs.Bytes.{◌⊕◌}
use Rattle.block.proofs.Xors.{length_xor, get_or_xor}
use Rattle.aes.specs.State.{byte_at, add_round_key}
use Rattle.aes.proofs.Blocks.{placed}
use Rattle.aes.proofs.steps.add_round_key.Goals as goal

pub returns : goal.returns
unfolding add_round_key
returns c =
    let s = c.args.s in
    let k = c.args.k in
    let l = length_xor s k in
    c.xor.ensures ∙ placed (s ⊕ k) (λ r q. bit_xor (byte_at s r q) (byte_at k r q)) (omega arith) (λ r q hr hq. get_or_xor s k (r + 4 * q) (omega arith))
