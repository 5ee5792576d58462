-- One step of a reading, as the code takes it.
use Rattle.std.proofs.Common.{◌≡◌, ℕ, ◌+◌, ◌-◌, ◌≤◌, Bool, true, false, List, length, take, drop, Bor, Some, None, Ok, Option, Result, sym, ap, subst, ◌∙◌, arith, length-drop}
use Rattle.std.proofs.lemmas.List.{drop-drop, take_all}
use Rattle.fault.specs.declared.kinds.SheetFault.{SheetFault}
use Rattle.sheet.specs.Entries.{Held}
use Rattle.sheet.specs.Reading.{Read, check}
use Rattle.sheet.specs.Calls.{Lies}
use Rattle.sheet.specs.Inner.{Ends, HeldOr, HeldTold}

pub check_passes : {X : Type 0} (b : Bool) (f : SheetFault) (r : Read X) → b ≡ true → check b f r ≡ r
check_passes b f r e = ap (λ t. check t f r) e

-- an end of bytes that lie at a place
pub lies_on : (m : ℕ × ℕ) (n k : ℕ) (b r : Bor (List ℕ)) → Lies m n b → Ends b r → n + (length b.now - length r.now) ≡ k → Lies m k r
lies_on m n k b r h e q =
    let p : m.1 + n + (length b.now - length r.now) ≡ m.1 + k = omega (arith, q) in
    e.lies ∙ ap (λ (t : ℕ × ℕ). (t.0, t.1 + (length b.now - length r.now))) h ∙ ap (λ (i : ℕ). (m.0, i)) p

-- the end of an end
pub ends_all : (b : Bor (List ℕ)) → Ends b b
ends_all b =
    let n : length b.now - length b.now ≡ 0 = omega arith in
    let p : b.ref_ptr.1 ≡ b.ref_ptr.1 + (length b.now - length b.now) = omega arith in
    record { long = omega arith; is = sym (ap (λ (k : ℕ). drop k b.now) n); lies = ap (λ (k : ℕ). (b.ref_ptr.0, k)) p }

pub ends_next : (a b c : Bor (List ℕ)) → Ends a b → Ends b c → Ends a c
ends_next a b c p q =
    let x = length a.now - length b.now in
    let y = length b.now - length c.now in
    let n : x + y ≡ length a.now - length c.now = omega (arith, p.long, q.long) in
    record {
      long = omega (arith, p.long, q.long);
      is = q.is ∙ ap (drop y) p.is ∙ drop-drop y x a.now ∙ ap (λ (k : ℕ). drop k a.now) n;
      lies = lies_on a.ref_ptr x _ b c p.lies q n;
    }

-- other parts that lie at a place
pub lies_in : (m : ℕ × ℕ) (n j k : ℕ) (b s : Bor (List ℕ)) → Lies m n b → Lies b.ref_ptr j s → n + j ≡ k → Lies m k s
lies_in m n j k b s h e q =
    let p : m.1 + n + j ≡ m.1 + k = omega (arith, q) in
    e ∙ ap (λ (t : ℕ × ℕ). (t.0, t.1 + j)) h ∙ ap (λ (i : ℕ). (m.0, i)) p

pub lies_first : (m : ℕ × ℕ) (n k : ℕ) (b s : Bor (List ℕ)) → Lies m n b → s.ref_ptr ≡ b.ref_ptr → n ≡ k → Lies m k s
lies_first m n k b s h e q = e ∙ h ∙ ap (λ (i : ℕ). (m.0, m.1 + i)) q

pub rest_all : (s : List ℕ) (p : ℕ) → p ≤ length s → take (length s - p) (drop p s) ≡ drop p s
rest_all s p h = take_all (length s - p) (drop p s) (omega (arith, length-drop p s))

pub rest_at : (s : List ℕ) (p q : ℕ) (b r : Bor (List ℕ)) → b.now ≡ drop p s → p ≤ length s → Ends b r → q ≡ length s - length r.now → (r.now ≡ drop q s) × (q ≤ length s) × (p + (length b.now - length r.now) ≡ q)
rest_at s p q b r e l h k =
    let n = ap length e in
    let m = length-drop p s in
    let j : p + (length b.now - length r.now) ≡ q = omega (arith, h.long) in
    (h.is ∙ ap (drop (length b.now - length r.now)) e ∙ drop-drop (length b.now - length r.now) p s ∙ ap (λ (i : ℕ). drop i s) j, omega arith, j)

-- a field that is read only if its bit stands
pub held_map : {T : Type 0} {P Q : T → Type 0} → ((a : T) → P a → Q a) → (o : Option T) → Held P o → Held Q o
held_map f None h = tt
held_map f (Some a) h = f a h

held_or_ends : {T : Type 0} (Q : T → Type 0) (on : Bool) (b : Bor (List ℕ)) (P : Result (T × Bor (List ℕ)) SheetFault → Type 0) (o : Option T) (rest : Bor (List ℕ)) → HeldOr on b P (Ok (o, rest)) → ((a : T) → P (Ok (a, rest)) → Q a × Ends b rest) → Held Q o × Ends b rest
held_or_ends {T} Q false b P o rest e h =
    let pair : ◌≡◌ {A = Option T × Bor (List ℕ)} (o, rest) (None, b) = cc in
    let q : None ≡ o = sym (ap (λ (x : Option T × Bor (List ℕ)). x.0) pair) in
    let s : b ≡ rest = sym (ap (λ (x : Option T × Bor (List ℕ)). x.1) pair) in
    (subst (Held Q) q tt, subst (Ends b) s (ends_all b))
held_or_ends Q true b P None rest e h = absurd e
held_or_ends Q true b P (Some a) rest e h = h a e

pub held_ends : {T : Type 0} (Q : T → Type 0) {on : Bool} {b : Bor (List ℕ)} {P : Result (T × Bor (List ℕ)) SheetFault → Type 0} {o : Option T} {rest : Bor (List ℕ)} → HeldTold on b P (Ok (o, rest)) → ((a : T) → P (Ok (a, rest)) → Q a × Ends b rest) → Held Q o × Ends b rest
held_ends Q {on} {b} {P} {o} {rest} t h = held_or_ends Q on b P o rest t.told h
