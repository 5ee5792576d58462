-- A session that was played, under a key that was taken.
use Rattle.std.proofs.Common.{◌≡◌, ℕ, true, false, List, IsOk, Some, None, Ok, Err, Option, Result, refl}
use Rattle.fault.specs.declared.kinds.KeyFault.{KeyFault}
use Rattle.fault.specs.declared.kinds.Placed.{Placed}
use Rattle.fault.specs.Refusals.{Refusal, RefusedBy, key_faults}
use Rattle.poet.specs.Functions.{Functions}
use Rattle.script.specs.declared.played.Played.{Played}
use Rattle.script.specs.declared.played.End.{End}
use Rattle.replay.specs.declared.report.Outcome.TheVariants as outcome
use Rattle.replay.specs.Scripts.{Written}
use Rattle.replay.specs.Outcomes.{ComesUnder, PlayedAs}

pub taken : (under : List ℕ → Functions) (w : Written) (p : Played) (e : End) (k : Option (Refusal KeyFault)) (r : Result (Unit {0}) (Placed KeyFault))
    → RefusedBy key_faults k r → IsOk r → PlayedAs under w p e → ComesUnder under k w (outcome.Played p e)
taken under w p e None r by ok played = (p, e, refl, played)
taken under w p e (Some x) (Ok u) by ok played = absurd by
taken under w p e (Some x) (Err f) by ok played = let z : false ≡ true = ok in absurd cc
