use Rattle.std.proofs.Common.{arith}
use Rattle.wire.proofs.Pieces.{chunk, told, four_coded}
use Rattle.wire.proofs.parsing.cut_ciphertext.Goals as goal

pub returns : goal.returns
returns c =
    let e = c.in_ok-length.ensures.cases in
    told four_coded c.in_ok-length.length.now c.in_ok-length.rest.now c.args.input.now c.from_be_bytes.result c.cut_within.result
    (chunk 4 _ _ c.args.input.now e.0 e.1 (omega (arith, e.2))) (cc) (λ i. (c.type_inv.input i).fits) c.cut_within.ensures
