use Rattle.field.proofs.Linear.{mul_sum}
use Rattle.field.proofs.Inverses.{inverse_law}
use Rattle.field.proofs.product_stands.Goals as goal

pub returns : goal.returns
returns c = record { sums = mul_sum; inverses = inverse_law }
