-- What the calls for whole buffers do: which refusal they give, or what they write.
use Rattle.std.specs.Prelude.{◌≡◌, ℕ, ◌≤◌, ◌↔◌, List, ◌++◌, length, take, drop, replicate}
use Rattle.std.specs.Prelude.{if◌then◌else◌, ◌==◌, nat_lt}
use Rattle.std.specs.Prelude.{Some, None, IsOk, IfOk, IfErr, OnErr, Option, Result}
use Rattle.std.specs.Option.{option_or, option_map}
use Rattle.fault.specs.declared.kinds.Layer.TheVariants.{Key as KeyLayer, Session as SessionLayer}
use Rattle.fault.specs.declared.kinds.KeyFault.{KeyFault}
use Rattle.fault.specs.declared.kinds.KeyFault.TheVariants.{Length}
use Rattle.fault.specs.declared.kinds.SessionFault.{SessionFault}
use Rattle.fault.specs.declared.kinds.SessionFault.TheVariants.{Key, Header, Body, Room, Empty}
use Rattle.fault.specs.declared.kinds.SessionFault.TheVariants.{Tag, Forged}
use Rattle.fault.specs.declared.kinds.Placed.{Placed}
use Rattle.fault.specs.Refusals.{Refusal, refusal, inside, IsRefusal, Refuses, RefusedBy}
use Rattle.fault.specs.Refusals.{session_faults}
use Rattle.poet.specs.Functions.{Functions}
use Rattle.poet.specs.Seal.{header_most, body_most, Seals}

-- The checks, each with the refusal where it fails: its fault, number, layer and place. The first
-- that fails is the refusal.
abbrev pub key_check : (key : List ℕ) → Option (Refusal KeyFault)
key_check key = if length key == 16 then None else Some (refusal Length 3 KeyLayer (length key))

abbrev pub tag_check : (T : List ℕ) (place : ℕ) → Option (Refusal SessionFault)
tag_check T place = if length T == 16 then None else Some (refusal Tag 8 SessionLayer place)

-- header, body M and room, in their order; `more` is the check that comes after these
abbrev pub body_checks : (H M : List ℕ) (room : ℕ) → Option (Refusal SessionFault)
    → Option (Refusal SessionFault)
body_checks H M room more =
    if nat_lt header_most (length H) then Some (refusal Header 4 SessionLayer 0)
    else if nat_lt body_most (length M) then Some (refusal Body 5 SessionLayer 0)
    else if nat_lt room (length M) then Some (refusal Room 6 SessionLayer 0)
    else if length M == 0 then Some (refusal Empty 7 SessionLayer 0)
    else more

-- the key comes first
abbrev pub checks : (key H M : List ℕ) (room : ℕ) → Option (Refusal SessionFault)
    → Option (Refusal SessionFault)
checks key H M room more = option_or (option_map (inside Key) (key_check key))
    (body_checks H M room more)

-- those of sealing and of opening into the buffer o
abbrev pub seal_checks : (key H M o : List ℕ) → Option (Refusal SessionFault)
seal_checks key H M o = checks key H M (length o) None

abbrev pub open_checks : (key H C T o : List ℕ) → Option (Refusal SessionFault)
open_checks key H C T o = checks key H C (length o) (tag_check T 0)

-- the refusal of n bytes that no message seals to
abbrev pub forged : (n : ℕ) → Refusal SessionFault
forged n = refusal Forged 9 SessionLayer n

-- A sealing that answers r, under the functions that `under` gives for a key; the buffers o and t
-- became o' and t'.
pub record SealCall (under : List ℕ → Functions) (key H M o t o' t' : List ℕ)
    (r : Result ℕ (Placed SessionFault)) : Type 0 where
  -- it refuses exactly if a check fails, and then as the first of these
  pub refused : RefusedBy session_faults (seal_checks key H M o) r
  -- and alters nothing then
  pub unaltered : OnErr r ((o' ≡ o) × (t' ≡ t))
  -- with a key and room enough, it seals exactly what has a seal
  pub accepts : length key ≡ 16 → length M ≤ length o
      → IsOk r ↔ ((C : List ℕ) × (T : List ℕ) × Seals (under key) H M C T)
  -- then that seal is in the first bytes of o', and in t'
  pub seals : IfOk r (λ n. (n ≡ length M) × Seals (under key) H M (take n o') t')
  pub rest : drop (length M) o' ≡ drop (length M) o
  pub room : IfOk r (λ n. n ≤ length o)

-- An opening that answers r; the buffer o became o'.
pub record OpenCall (under : List ℕ → Functions) (key H C T o o' : List ℕ)
    (r : Result ℕ (Placed SessionFault)) : Type 0 where
  -- it refuses as the first check that fails, and alters nothing then
  pub refused : (e : Refusal SessionFault) → open_checks key H C T o ≡ Some e
      → Refuses session_faults e r × (o' ≡ o)
  -- with a key and room enough, it accepts exactly what some message seals to
  pub accepts : length key ≡ 16 → length C ≤ length o
      → IsOk r ↔ ((M : List ℕ) × Seals (under key) H M C T)
  -- then that message is in the first bytes of o', and it is the only one
  pub message : IfOk r (λ n. (n ≡ length C) × Seals (under key) H (take n o') C T)
  pub only : IfOk r (λ n. (M : List ℕ) → Seals (under key) H M C T → M ≡ take n o')
  -- where no check fails it refuses a forgery, and leaves as many zeros as C has bytes
  pub forgery : open_checks key H C T o ≡ None
      → IfErr r (λ e. IsRefusal session_faults (forged (length C)) e
      × (o' ≡ replicate (length C) 0 ++ drop (length C) o))
  pub rest : drop (length C) o' ≡ drop (length C) o
  pub room : IfOk r (λ n. n ≤ length o)
