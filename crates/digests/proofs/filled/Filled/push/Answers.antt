use Rattle.std.proofs.Common.{◌∷◌, ap}
use Rattle.digests.proofs.Steps.{byte_more, taken}
use Rattle.digests.proofs.filled.Filled.push.Goals as goal

pub returns-in-None : goal.returns-in-None
returns-in-None g c =
    λ r.
    let s = c.args.self.now in
    ap (λ z. g.D.BlockDigest.rule s.digest (g.G.Filling.fill z)) (byte_more s.held c.push.new.self c.args.b r c.in-None.ensures c.push.ensures)

pub returns-in-Some : goal.returns-in-Some
returns-in-Some g c =
    λ r.
    let s = c.args.self.now in
    let k = c.in-Some.ensures in
    taken g.G.Filling.fill g.met.G.Filling.front (g.D.BlockDigest.rule s.digest) (g.D.BlockDigest.rule c.take.new.self) s.held c.in-Some.block c.new-self.result c.push-in-Some.new.self c.args.b r k.1 k.0 c.new-self.ensures c.push-in-Some.ensures
    (c.take.ensures (g.G.Filling.fill (c.args.b ∷ r)) (g.met.G.Filling.whole (c.args.b ∷ r)).0)
