use Rattle.std.proofs.Common.{◌≡◌, get_or, rules, arith}
use Rattle.block.proofs.Made.{made}
use Rattle.forms.specs.Double.{moved}
use Rattle.forms.proofs.Doubles.{doubled}
use Rattle.digests.proofs.doubling.double.Goals as goal

pub returns : goal.returns
returns c =
    let b = c.args.b in
    let r = c.from_fn-doubled.result in
    doubled b r (search rules) (search rules)
    (λ i h. made _ (λ p. p.0.now ≡ b) (λ k y. y ≡ get_or (moved 0 b) k 0) (λ p q k y e call. (search rules, search rules)) r _ 0 16 (search rules) c.from_fn-doubled.ensures.items.each i 0 (omega arith) (omega arith))
