use Rattle.std.proofs.Common.{refl, ◌∙◌, ap, Ok}
use Rattle.delivery.specs.Told.{suite_of}
use Rattle.roundtrip.proofs.Calls.{seals, opened, from_three}
use Rattle.roundtrip.specs.Trips.{key, message}
use Rattle.roundtrip.proofs.trips.Trip.under.Goals as goal

pub returns : goal.returns
returns c =
    let sealing = c.seal-sealed in
    from_three (suite_of c.args.suite) sealing.ensures.listed c.unseal-opened.ensures c.unseal-turned.ensures (λ under called opening turned.
    let (answer, seal) = seals under _ _ sealing.new.out sealing.new.tag refl sealing.auto.out sealing.result called in
    let again = opened (under key) message sealing.new.out sealing.new.tag c.unseal-opened.result seal opening in
    record { suite = refl; sealed = answer; seals = seal; opened = again.0 ∙ ap Ok sealing.auto.out; given = again.1; other = turned })
