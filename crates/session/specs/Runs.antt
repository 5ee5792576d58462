-- A run: what a session took and handed out so far.
use Rattle.std.specs.Prelude.{ℕ, List, [], ◌++◌, take, Ok, Err, Result}
use Rattle.fault.specs.declared.kinds.SessionFault.{SessionFault}
use Rattle.fault.specs.declared.kinds.Placed.{Placed}

-- Taken are the bytes of the calls that were not refused, in order; handed out are the bytes that
-- such body calls wrote, in order, and then the last bytes of a finish that was accepted.
pub record Run : Type 0 where
  pub key : List ℕ
  pub header : List ℕ
  pub body : List ℕ
  pub out : List ℕ

-- a new session has taken a key and nothing else
abbrev pub fresh : List ℕ → Run
fresh key = record { key = key; header = []; body = []; out = [] }

abbrev pub headed : Run → List ℕ → Run
headed R p = record { key = R.key; header = R.header ++ p; body = R.body; out = R.out }

abbrev pub bodied : Run → List ℕ → List ℕ → Run
bodied R p g = record { key = R.key; header = R.header; body = R.body ++ p; out = R.out ++ g }

-- a finish that was accepted hands out the last bytes
abbrev pub finished : Run → List ℕ → Run
finished R g = record { key = R.key; header = R.header; body = R.body; out = R.out ++ g }

-- the front of the place that a finish wrote to
abbrev pub last_of : Result ℕ (Placed SessionFault) → List ℕ → List ℕ
last_of (Ok n) last = take n last
last_of (Err e) last = []

-- the run once a finish answered r and left `last` in its place
abbrev pub ended : Run → Result ℕ (Placed SessionFault) → (last : List ℕ) → Run
ended R r last = finished R (last_of r last)
