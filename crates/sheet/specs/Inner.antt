-- What private functions answer. No contract of a public function cites it.
use Rattle.std.specs.Prelude.{◌≡◌, ℕ, ◌-◌, ◌≤◌, Bool, true, false, List, length, drop}
use Rattle.std.specs.Prelude.{Some, None, Ok, Err, Option, Result}
use Rattle.std.specs.Borrow.{Bor}
use Rattle.fault.specs.declared.kinds.SheetFault.{SheetFault}
use Rattle.fault.specs.declared.kinds.Placed.{Placed}
use Rattle.sheet.specs.Entries.{Item, AllGood, sheet_of}
use Rattle.sheet.specs.Reading.{Read, got, fault}
use Rattle.sheet.specs.Calls.{Lies}
use Rattle.sheet.specs.Laws.{NotAll}

-- What a function that reads from the front of some bytes answers: the value, and the bytes behind.
abbrev pub Told : {T X : Type 0} → (T → X) → Read X → Result (T × Bor (List ℕ)) SheetFault → Type 0
Told f o (Ok x) = o ≡ got (f x.0) x.1.now
Told f o (Err e) = o ≡ fault e

-- The same of a field that is read only if its bit is set, where P says what the reading of such a
-- field may answer.
abbrev pub HeldOr : {T : Type 0} → Bool → Bor (List ℕ)
    → (Result (T × Bor (List ℕ)) SheetFault → Type 0)
    → Result (Option T × Bor (List ℕ)) SheetFault → Type 0
HeldOr false b P r = r ≡ Ok (None, b)
HeldOr true b P (Ok (None, rest)) = ⊥
HeldOr true b P (Ok (Some a, rest)) = P (Ok (a, rest))
HeldOr true b P (Err e) = P (Err e)

pub record HeldTold {T : Type 0} (on : Bool) (b : Bor (List ℕ))
    (P : Result (T × Bor (List ℕ)) SheetFault → Type 0)
    (r : Result (Option T × Bor (List ℕ)) SheetFault) : Type 0 where
  pub told : HeldOr on b P r

-- the bytes r are the end of the bytes b, in memory too
pub record Ends (b r : Bor (List ℕ)) : Type 0 where
  pub long : length r.now ≤ length b.now
  pub is : r.now ≡ drop (length b.now - length r.now) b.now
  pub lies : Lies b.ref_ptr (length b.now - length r.now) r

-- Whether the list es can be written from the start of a buffer with so much room, and where it
-- ends then.
abbrev pub Measured : (es : List Item) (room : ℕ) → Result ℕ (Placed SheetFault) → Type 0
Measured es room (Ok n) = AllGood es × (n ≡ length (sheet_of es)) × (n ≤ room)
Measured es room (Err f) = NotAll es room f
