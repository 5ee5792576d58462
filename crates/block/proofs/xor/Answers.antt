use Rattle.std.proofs.Common.{◌≡◌, get_or, sym, ◌∙◌, rules, arith}
use lib.Bits.{bit_xor}
use Rattle.std.proofs.lemmas.List.{ext_get_or}
use Rattle.block.specs.Bytes.{◌⊕◌}
use Rattle.block.proofs.Made.{made}
use Rattle.block.proofs.Xors.{length_xor, get_or_xor}
use Rattle.block.proofs.xor.Goals as goal

pub returns : goal.returns
returns c =
    let a = c.args.a in
    let b = c.args.b in
    ext_get_or 0 c.from_fn.result (a ⊕ b) (omega (arith, length_xor a b, c.from_fn.ensures.items.long))
    (λ i h. made _ (λ p. (p.0.now ≡ a) × (p.1.now ≡ b)) (λ k y. y ≡ bit_xor (get_or a k 0) (get_or b k 0)) (λ p q k y e call. (search rules, search rules)) c.from_fn.result _ 0 16 (search rules) c.from_fn.ensures.items.each i 0 (omega arith) (omega arith) ∙ sym (get_or_xor a b i (omega arith)))
