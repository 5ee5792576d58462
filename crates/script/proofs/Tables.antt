-- Every refusal that the checks of a written session state has the number and the layer of its fault in the table.
use Rattle.std.proofs.Common.{ℕ, ◌+◌, Bool, true, false, cond, ltb, List, [], ◌∷◌, length, Some, None, Option, refl}
use Rattle.fault.specs.declared.kinds.SessionFault.{SessionFault}
use Rattle.fault.specs.declared.kinds.SessionFault.TheVariants.{Header, Body, Room}
use Rattle.fault.specs.declared.kinds.Layer.TheVariants.{Session as SessionLayer}
use Rattle.fault.specs.Refusals.{Refusal, refusal}
use Rattle.poet.specs.Seal.{header_most, body_most}
use Rattle.session.specs.Sessions.{writes}
use Rattle.script.specs.declared.course.Stretch.{Stretch}
use Rattle.script.specs.Scripts.{ByTable, taken, Check, AllByTable, header_check_of, held_of, body_check_of}

either : (t : Bool) (e : Refusal SessionFault) (rest : Option (Refusal SessionFault)) → ByTable (Some e) → ByTable rest → ByTable (cond t (Some e) rest)
either true e rest b c = b
either false e rest b c = c

all_by_table : (check : Check) → ((n : ℕ) (s : Stretch) → ByTable (check n s)) → (S : List ℕ) (ss : List Stretch) → AllByTable check S ss
all_by_table check b S [] = tt
all_by_table check b S (s ∷ ss) = (b (length S) s, all_by_table check b (taken (check (length S) s) S s.bytes.now) ss)

pub headers_by_table : (H : List ℕ) (ss : List Stretch) → AllByTable header_check_of H ss
headers_by_table = all_by_table header_check_of (λ n s. either (ltb header_most (n + length s.bytes.now)) (refusal Header 4 SessionLayer n) None (record { is = refl; number = refl; layer = refl }) tt)

pub bodies_by_table : (M : List ℕ) (ss : List Stretch) → AllByTable body_check_of M ss
bodies_by_table =
    all_by_table body_check_of λ n s.
    let t = held_of n + length s.bytes.now in
    let room : Option (Refusal SessionFault) = cond (ltb s.room (writes t)) (Some (refusal Room 6 SessionLayer n)) None in
    either (ltb body_most (n + length s.bytes.now)) (refusal Body 5 SessionLayer n) room (record { is = refl; number = refl; layer = refl }) (either (ltb s.room (writes t)) (refusal Room 6 SessionLayer n) None (record { is = refl; number = refl; layer = refl }) tt)
