use Rattle.std.proofs.Common.{drop, replicate, rules}
use Rattle.std.proofs.lemmas.Slice.{overwrites}
use Rattle.block.proofs.Completing.{filled}
use Rattle.block.proofs.complete.Goals as goal

pub returns : goal.returns
returns c = filled c.args.front.now c.args.fill.now c.copy_from_slice.new.self c.copy_from_slice-2.new.self (drop c.min-n.result (replicate 16 0)) c.min-n.result c.told-fill c.min-n.ensures (search rules) (search rules) (search (rules, overwrites)) (search (rules, overwrites))
