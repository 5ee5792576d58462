-- What it means that a call refuses: which fault it gives, with which number, of which layer and at
-- which place.
use Rattle.std.specs.Prelude.{◌≡◌, ℕ, Some, None, Ok, Err, IsOk, Option, Result}
use Rattle.fault.specs.declared.kinds.Layer.{Layer}
use Rattle.fault.specs.declared.kinds.Placed.{Placed}
use Rattle.fault.specs.declared.kinds.KeyFault.{KeyFault}
use Rattle.fault.specs.declared.kinds.SessionFault.{SessionFault}
use Rattle.fault.specs.declared.kinds.SheetFault.{SheetFault}
use Rattle.fault.specs.declared.kinds.ConsoleFault.{ConsoleFault}
use Rattle.fault.specs.Numbers as numbers

-- The table of a layer's faults: the number of each, and the layer that finds it.
pub record Table (F : Type 0) : Type 0 where
  pub number : F → ℕ
  pub layer : F → Layer

abbrev pub key_faults : Table KeyFault
key_faults = record { number = numbers.key_number; layer = numbers.key_layer }

abbrev pub session_faults : Table SessionFault
session_faults = record { number = numbers.number_of; layer = numbers.layer_of }

abbrev pub sheet_faults : Table SheetFault
sheet_faults = record { number = numbers.sheet_number; layer = numbers.sheet_layer }

abbrev pub console_faults : Table ConsoleFault
console_faults = record { number = numbers.console_number; layer = numbers.console_layer }

-- A refusal as a rule states it.
pub record Refusal (F : Type 0) : Type 0 where
  pub fault : F
  pub number : ℕ
  pub layer : Layer
  pub place : ℕ

abbrev pub refusal : {F : Type 0} → F → (number : ℕ) → Layer → (place : ℕ) → Refusal F
refusal f n l p = record { fault = f; number = n; layer = l; place = p }

-- what a call answers for it
abbrev pub placed : {F : Type 0} → Refusal F → Placed F
placed e = record { fault = e.fault; place = e.place }

-- The answer p is that refusal: it has the fault and the place, and by the table the fault has the
-- number and the layer.
pub record IsRefusal {F : Type 0} (t : Table F) (e : Refusal F) (p : Placed F) : Type 0 where
  pub is : p ≡ placed e
  pub number : t.number p.fault ≡ e.number
  pub layer : t.layer p.fault ≡ e.layer

-- The call that answers r refuses so.
abbrev pub Refuses : {F X : Type 0} → Table F → Refusal F → Result X (Placed F) → Type 0
Refuses t e (Ok x) = ⊥
Refuses t e (Err p) = IsRefusal t e p

-- It refuses exactly if the check fails, and then as the check says.
abbrev pub RefusedBy : {F X : Type 0} → Table F → Option (Refusal F) → Result X (Placed F) → Type 0
RefusedBy t None r = IsOk r
RefusedBy t (Some e) r = Refuses t e r

-- A higher layer hands a lower one's refusal on, inside its own case c.
abbrev pub inside : {E F : Type 0} → (c : E → F) → Refusal E → Refusal F
inside c e = refusal (c e.fault) e.number e.layer e.place

-- The fault p of a lower layer became q, inside the case c: number, layer and place are the same.
abbrev pub HandedOn : {E F : Type 0} → Table E → Table F → (c : E → F) → (p : Placed E)
    → (q : Placed F) → Type 0
HandedOn s t c p q = (q.fault ≡ c p.fault) × (q.place ≡ p.place)
    × (t.number q.fault ≡ s.number p.fault) × (t.layer q.fault ≡ s.layer p.fault)
