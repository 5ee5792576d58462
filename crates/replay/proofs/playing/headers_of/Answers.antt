use Rattle.std.proofs.Common.{rules, vec_items}
use Rattle.std.proofs.lemmas.Iterator.{YieldsList-from_slice, YieldsList-from_map_by}
use Rattle.std.proofs.lemmas.Iterator.Consumers.{map_from_collect}
use Rattle.replay.proofs.playing.headers_of.Goals as goal

pub returns : goal.returns
returns c = map_from_collect _ c.collect.ensures.ran (YieldsList-from_map_by _ (λ s. s.bytes.now) (λ h. vec_items h) (YieldsList-from_slice c.args.headers.now cc) c.map.ensures.closure (λ x r q k. search rules))
