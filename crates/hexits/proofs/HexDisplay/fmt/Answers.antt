use Rattle.std.proofs.Common.{rules, ◌<◌, length, slice_index, sym, ap, take_all}
use Rattle.std.proofs.Output.{has_written_append, has_written_of_eq}
use Rattle.std.proofs.lemmas.Fmt.{hex_byte}
use Rattle.hex.specs.Hex.{encode_lower}
use Rattle.hexits.proofs.Digits.{one_more, none}
use Rattle.hexits.proofs.HexDisplay.fmt.Goals as goal

pub loop-b-init : goal.loop-b-init
loop-b-init g c plain = has_written_of_eq _ _ _ _ _ (sym none) (search rules)

pub loop-b-preserved : goal.loop-b-preserved
loop-b-preserved g c plain =
    let xs = c.args.self.now.0.now in
    let i = c.loop-b.b-index in
    let here : i < length xs = search rules in
    let byte : slice_index xs i < 256 = search rules in
    has_written_of_eq _ _ _ _ _ (one_more xs i here byte) (has_written_append _ _ _ _ _ _ (c.loop-b.invariant plain) (search (rules, hex_byte)))

pub returns-clause-writes : goal.returns-clause-writes
returns-clause-writes g c plain _ = has_written_of_eq _ _ _ _ _ (ap encode_lower (take_all c.loop-b.b-index c.args.self.now.0.now (search rules))) (c.loop-b.invariant plain)
