use Rattle.std.proofs.Common.{arith}
use Rattle.wire.proofs.Pieces.{chunk, told, two_coded}
use Rattle.wire.proofs.parsing.cut_header.Goals as goal

pub returns : goal.returns
returns c =
    let e = c.in_ok-length.ensures.cases in
    told two_coded c.in_ok-length.length.now c.in_ok-length.rest.now c.args.input.now c.from.result c.cut_within.result
    (chunk 2 _ _ c.args.input.now e.0 e.1 (omega (arith, e.2))) (cc) (λ i. (c.type_inv.input i).fits) c.cut_within.ensures
