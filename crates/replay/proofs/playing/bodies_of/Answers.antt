use Rattle.std.proofs.Common.{rules}
use Rattle.std.proofs.lemmas.Iterator.{YieldsList-from_slice, YieldsList-from_map_by}
use Rattle.std.proofs.lemmas.Iterator.Consumers.{map_from_collect}
use Rattle.replay.specs.Lines.{brought_in}
use Rattle.replay.specs.Outcomes.{brought_by}
use Rattle.replay.proofs.playing.bodies_of.Goals as goal

pub returns : goal.returns
returns c = map_from_collect _ c.collect.ensures.ran (YieldsList-from_map_by _ brought_by brought_in (YieldsList-from_slice c.args.pieces.now cc) c.map.ensures.closure (λ x r q k. search rules))
