use Rattle.std.proofs.Common.{refl}
use Rattle.std.proofs.lemmas.Option.{IfSome_then}
use Rattle.delivery.specs.Told.{suite_of}
use Rattle.roundtrip.proofs.Calls.{opens}
use Rattle.roundtrip.proofs.trips.unseal.Goals as goal

pub returns : goal.returns
returns c =
    IfSome_then (suite_of c.args.suite) c.open-answer.ensures.listed (λ under. opens under c.args.ciphertext.now c.args.tag.now _ c.open-answer.new.out c.told-ciphertext c.told-tag refl c.open-answer.auto.out c.open-answer.result)
