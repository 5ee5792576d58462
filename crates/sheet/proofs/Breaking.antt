-- A refused reading breaks the rule of its refusal first, and bytes that break it are refused so.
use Rattle.std.proofs.Common.{◌≡◌, ℕ, zero, suc, ◌+◌, ◌<◌, ◌≤◌, ◌⊎◌, Bool, true, false, cond, not, ◌&&◌, ◌||◌, leb, List, [], ◌∷◌, ◌++◌, length, get_or, take, drop, pos, w8, to_z, Some, None, Option, sym, refl, ap, ◌∙◌, subst, ap₂, inl, inr, append_assoc, arith, take-append-drop, length-take-le}
use Rattle.std.specs.List.{list_all, range_with_len}
use Rattle.std.proofs.lemmas.Bool.Decides.{nat_tests}
use Rattle.fault.specs.declared.kinds.SheetFault.{SheetFault}
use Rattle.fault.specs.declared.kinds.SheetFault.TheVariants.{Session, Room, Cut, UnknownBit, Missing, Value}
use Rattle.fault.specs.declared.kinds.Placed.{Placed}
use Rattle.fault.specs.Refusals.{sheet_faults}
use Rattle.sheet.specs.declared.entry.Kind.{Kind}
use Rattle.sheet.specs.declared.entry.Kind.TheVariants.{Code, Parent, Count, Landing, Months, Drawing}
use Rattle.sheet.specs.Table.{row_of, in_row, is_set, is_unknown, is_required, known_at, complete_at, all_below}
use Rattle.sheet.specs.Entries.{Item, signs, two}
use Rattle.sheet.specs.Reading.{Read, got, fault, next, check, some, two_of, read_code, read_number, read_landing, read_drawing, read_held, read_fields, read_item}
use Rattle.sheet.specs.Breaks.{IsField, AreFields, IsDrawingCut, IsCut, IsOutside, AtField, HasUnknown, LacksBit, kinds_of, FailsAt, EndsEarly, HasUnknownBit, MissesBit, HasBadValue, RefusedAt, cut, unknown_bit, missing, value}
use Rattle.sheet.specs.Laws.{RefusalLaw, FirstLaw}
use Rattle.sheet.proofs.Maps.{all_at}
use Rattle.sheet.proofs.FieldBytes.{Octets, octets_left, octets_right, fault_got, Lawful, code_lawful, count_lawful, months_lawful, landing_lawful, drawing_lawful, judged, two_sound, two_small, two_back, some_front}

true_false : true ≡ false → ⊥
true_false e = let z : ◌≡◌ {A = ℕ} 1 0 = ap (λ b. cond b 1 0) e in omega arith

pub false_true : false ≡ true → ⊥
false_true e = true_false (sym e)

-- a test that is done, with its outcome
either : {G : Type 0} (b : Bool) → (b ≡ true → G) → (b ≡ false → G) → G
either true t f = t refl
either false t f = f refl

-- ---- the bits of a map

fails_from : (t : ℕ → Bool) (a n : ℕ) → list_all t (range_with_len a n) ≡ false → (k : ℕ) × (a ≤ k) × (k < a + n) × (t k ≡ false)
fails_from t a zero e = absurd (true_false e)
fails_from t a (suc n) e =
    either (t a)
    (λ q.
    let r = fails_from t (a + 1) n (ap (λ b. b && list_all t (range_with_len (a + 1) n)) (sym q) ∙ e) in
    (r.0, omega (arith, r.1), omega (arith, r.2), r.3))
    (λ q. (a, omega arith, omega arith, q))

fails_at : (t : ℕ → Bool) → all_below t 16 ≡ false → (k : ℕ) × (k < 16) × (t k ≡ false)
unfolding all_below
fails_at t e = let r = fails_from t 0 16 e in (r.0, omega (arith, r.2), r.3)

not_both : (a b : Bool) → not (a && b) ≡ false → (a ≡ true) × (b ≡ true)
not_both true true e = (refl, refl)
not_both true false e = absurd (true_false e)
not_both false b e = absurd (true_false e)

neither : (a b : Bool) → (a || not b) ≡ false → (a ≡ false) × (b ≡ true)
neither true b e = absurd (true_false e)
neither false true e = (refl, refl)
neither false false e = absurd (true_false e)

unknown_from : (m : ℕ) → all_below (known_at m) 16 ≡ false → HasUnknown m
unknown_from m e =
    let f = fails_at (known_at m) e in
    let b = not_both (is_set m f.0) (is_unknown (row_of f.0).need) f.2 in
    (f.0, f.1, b.1, b.0)

unknown_fails : (m : ℕ) → HasUnknown m → all_below (known_at m) 16 ≡ true → ⊥
unknown_fails m (k, l, u, on) e = true_false (sym (all_at (known_at m) 16 k e l) ∙ ap₂ (λ a b. not (a && b)) on u)

lacks_from : (m : ℕ) → all_below (complete_at m) 16 ≡ false → LacksBit m
lacks_from m e =
    let f = fails_at (complete_at m) e in
    let b = neither (is_set m f.0) (is_required (row_of f.0).need) f.2 in
    (f.0, f.1, b.1, b.0)

lacks_fails : (m : ℕ) → LacksBit m → all_below (complete_at m) 16 ≡ true → ⊥
lacks_fails m (k, l, r, off) e = true_false (sym (all_at (complete_at m) 16 k e l) ∙ ap₂ (λ a b. a || not b) off r)

-- ---- one field, its value forgotten

abbrev forget : {X : Type 0} → Read X → Read (Unit {0})
forget (got a r) = got tt r
forget (fault f) = fault f

abbrev skip : Kind → List ℕ → Read (Unit {0})
skip Code bs = forget (read_code 0 bs)
skip Parent bs = forget (read_code 1 bs)
skip Count bs = forget (read_number 2 bs)
skip Landing bs = forget (read_landing bs)
skip Months bs = forget (read_number 4 bs)
skip Drawing bs = forget (read_drawing bs)

-- what it comes to: cut short, outside its form, or a good field
data Comes (o : Read (Unit {0})) (bs : List ℕ) (C : Type 0) (F : List ℕ → Type 0) : Type 0 where
  short : o ≡ fault Cut → C → Comes o bs C F
  outside : o ≡ fault Value → (C → ⊥) → Comes o bs C F
  good : (s r : List ℕ) → o ≡ got tt r → (C → ⊥) → F s → bs ≡ s ++ r → Comes o bs C F

-- of a field of one width
by_width : {X : Type 0} {P : X → Type 0} {g : X → List ℕ} (w : ℕ) (t : List ℕ → Bool) (v : List ℕ → X)
    → Lawful P g (λ bs. next (some w bs) (λ s rest. check (t s) Value (got (v s) rest))) → (F : List ℕ → Type 0) → ((a : X) → P a → F (g a))
    → (bs : List ℕ) → Octets bs → Comes (forget (next (some w bs) (λ s rest. check (t s) Value (got (v s) rest)))) bs (length bs < w) F
by_width {X} {P} {g} w t v l F has bs o =
    let K : List ℕ → List ℕ → Read X = λ s rest. check (t s) Value (got (v s) rest) in
    let s = take w bs in
    let rest = drop w bs in
    either (leb w (length bs))
    (λ e.
    let long : w ≤ length bs = grind (arith, nat_tests) in
    let n : length bs < w → ⊥ = λ c. omega arith in
    let q : next (some w bs) K ≡ K s rest = ap (λ b. next (check b Cut (got s rest)) K) e in
    either (t s)
    (λ h.
    let r : next (some w bs) K ≡ got (v s) rest = q ∙ ap (λ b. check b Value (got (v s) rest)) h in
    let f = l.sound bs (v s) rest o r in
    good (g (v s)) rest (ap forget r) n (has (v s) f.0) f.1)
    (λ h. outside (ap forget (q ∙ ap (λ b. check b Value (got (v s) rest)) h)) n))
    (λ e. short (ap (λ b. forget (next (check b Cut (got s rest)) K)) e) (grind (arith, nat_tests)))

drawing_comes : (bs : List ℕ) → Octets bs → Comes (skip Drawing bs) bs (IsCut Drawing bs) (IsField Drawing)
unfolding row_of
drawing_comes [] o = short refl tt
drawing_comes (n ∷ rest) o =
    let N : List ℕ → List ℕ → Read (List ℕ) = λ t after. check (signs true t) Value (got t after) in
    let K : List ℕ → List ℕ → Read (List ℕ) = λ s r. check (in_row 5 (pos (get_or s 0 0))) Value (next (some (get_or s 0 0) r) N) in
    let q : read_drawing (n ∷ rest) ≡ K (n ∷ []) rest = ap (λ x. next x K) (some_front (n ∷ []) rest 1 refl) in
    let t = take n rest in
    let after = drop n rest in
    either (in_row 5 (pos n))
    (λ i.
    let p : read_drawing (n ∷ rest) ≡ next (some n rest) N = q ∙ ap (λ b. check b Value (next (some n rest) N)) i in
    either (leb n (length rest))
    (λ e.
    let long : n ≤ length rest = grind (arith, nat_tests) in
    let u : IsDrawingCut (n ∷ rest) → ⊥ = λ c. let d = c.1 in omega arith in
    let z : read_drawing (n ∷ rest) ≡ N t after = p ∙ ap (λ b. next (check b Cut (got t after)) N) e in
    either (signs true t)
    (λ h.
    let r : read_drawing (n ∷ rest) ≡ got t after = z ∙ ap (λ b. check b Value (got t after)) h in
    let f = drawing_lawful.sound (n ∷ rest) t after o r in
    good (length t ∷ t) after (ap forget r) u (t, f.0, refl) f.1)
    (λ h. outside (ap forget (z ∙ ap (λ b. check b Value (got t after)) h)) u))
    (λ e. short (ap forget (p ∙ ap (λ b. next (check b Cut (got t after)) N) e)) (i, grind (arith, nat_tests))))
    (λ i. outside (ap forget (q ∙ ap (λ b. check b Value (next (some n rest) N)) i)) (λ c. true_false (sym c.0 ∙ i)))

comes : (k : Kind) (bs : List ℕ) → Octets bs → Comes (skip k bs) bs (IsCut k bs) (IsField k)
comes Code bs o = by_width (row_of 0).width (signs false) (λ s. s) (code_lawful 0) (IsField Code) (λ s f. f) bs o
comes Parent bs o = by_width (row_of 1).width (signs false) (λ s. s) (code_lawful 1) (IsField Parent) (λ s f. f) bs o
comes Count bs o = by_width (row_of 2).width (λ s. in_row 2 (pos (two_of s))) two_of count_lawful (IsField Count) (λ n f. (n, f, refl)) bs o
comes Landing bs o = by_width (row_of 3).width (λ s. in_row 3 (to_z w8 (get_or s 0 0))) (λ s. to_z w8 (get_or s 0 0)) landing_lawful (IsField Landing) (λ z f. (z, f, refl)) bs o
comes Months bs o = by_width (row_of 4).width (λ s. in_row 4 (pos (two_of s))) two_of months_lawful (IsField Months) (λ n f. (n, f, refl)) bs o
comes Drawing bs o = drawing_comes bs o

skip_back : (k : Kind) (s r : List ℕ) → IsField k s → skip k (s ++ r) ≡ got tt r
skip_back Code s r f = ap forget ((code_lawful 0).back s r f)
skip_back Parent s r f = ap forget ((code_lawful 1).back s r f)
skip_back Count s r (n, f, e) = ap (λ x. skip Count (x ++ r)) e ∙ ap forget (count_lawful.back n r f)
skip_back Landing s r (z, f, e) = ap (λ x. skip Landing (x ++ r)) e ∙ ap forget (landing_lawful.back z r f)
skip_back Months s r (n, f, e) = ap (λ x. skip Months (x ++ r)) e ∙ ap forget (months_lawful.back n r f)
skip_back Drawing s r (d, f, e) = ap (λ x. skip Drawing (x ++ r)) e ∙ ap forget (drawing_lawful.back d r f)

-- ---- fields one after another

skips : List Kind → List ℕ → Read (Unit {0})
skips [] bs = got tt bs
skips (k ∷ ks) bs = next (skip k bs) (λ _ r. skips ks r)

here : {P : Kind → List ℕ → Type 0} (k : Kind) (ks : List Kind) (bs : List ℕ) → P k bs → AtField P (k ∷ ks) bs
here k ks bs p = record { before = []; kind = k; after = ks; order = refl; front = []; rest = bs; is = refl; good = refl; broken = p }

behind : {P : Kind → List ℕ → Type 0} (k : Kind) (ks : List Kind) (s r bs : List ℕ) → IsField k s → bs ≡ s ++ r → AtField P ks r → AtField P (k ∷ ks) bs
behind k ks s r bs f e h = record {
  before = k ∷ h.before;
  kind = h.kind;
  after = h.after;
  order = ap (λ x. k ∷ x) h.order;
  front = s ++ h.front;
  rest = h.rest;
  is = e ∙ ap (λ x. s ++ x) h.is ∙ sym (append_assoc s h.front h.rest);
  good = (s, h.front, f, h.good, refl);
  broken = h.broken;
}

-- the field that is refused
abbrev Refused : List Kind → List ℕ → SheetFault → Type 0
Refused ks bs f = ((f ≡ Cut) × AtField IsCut ks bs) ⊎ ((f ≡ Value) × AtField IsOutside ks bs)

refused_behind : (k : Kind) (ks : List Kind) (s r bs : List ℕ) (f : SheetFault) → IsField k s → bs ≡ s ++ r → Refused ks r f → Refused (k ∷ ks) bs f
refused_behind k ks s r bs f g e (inl h) = inl (h.0, behind k ks s r bs g e h.1)
refused_behind k ks s r bs f g e (inr h) = inr (h.0, behind k ks s r bs g e h.1)

fault_same : {X : Type 0} (f g : SheetFault) → ◌≡◌ {A = Read X} (fault f) (fault g) → f ≡ g
fault_same f g e = cc

not_field : (k : Kind) (bs : List ℕ) (f : SheetFault) → skip k bs ≡ fault f → (s t : List ℕ) → bs ≡ s ++ t → IsField k s → ⊥
not_field k bs f e s t q g = fault_got f tt t (sym e ∙ ap (skip k) q ∙ skip_back k s t g)

refusal_of : (ks : List Kind) (bs : List ℕ) (f : SheetFault) → Octets bs → skips ks bs ≡ fault f → Refused ks bs f
unfolding skips
refusal_of [] bs f o e = absurd (fault_got f tt bs (sym e))
refusal_of (k ∷ ks) bs f o e =
    elim (comes k bs o) [
      | short q c ↦ inl (sym (fault_same Cut f (sym (ap (λ x. next x (λ _ r. skips ks r)) q) ∙ e)), here k ks bs c)
      | outside q n ↦ inr (sym (fault_same Value f (sym (ap (λ x. next x (λ _ r. skips ks r)) q) ∙ e)), here k ks bs (record { whole = n; formless = not_field k bs Value q }))
      | good s r q n g b ↦
          refused_behind k ks s r bs f g b
          (refusal_of ks r f (octets_right s r (subst Octets b o)) (sym (ap (λ x. next x (λ _ r. skips ks r)) q) ∙ e))
    ]

cut_is : (k : Kind) (bs : List ℕ) → Octets bs → IsCut k bs → skip k bs ≡ fault Cut
cut_is k bs o c = elim (comes k bs o) [ short q d ↦ q | outside q n ↦ absurd (n c) | good s r q n g b ↦ absurd (n c) ]

outside_is : (k : Kind) (bs : List ℕ) → Octets bs → IsOutside k bs → skip k bs ≡ fault Value
outside_is k bs o h = elim (comes k bs o) [ short q d ↦ absurd (h.whole d) | outside q n ↦ q | good s r q n g b ↦ absurd (h.formless s r b g) ]

stops : (before : List Kind) (k : Kind) (after : List Kind) (front rest : List ℕ) (f : SheetFault) → AreFields before front → skip k rest ≡ fault f → skips (before ++ k ∷ after) (front ++ rest) ≡ fault f
unfolding skips
stops [] k after front rest f g e = ap (λ x. skips (k ∷ after) (x ++ rest)) g ∙ ap (λ x. next x (λ _ r. skips after r)) e
stops (b ∷ before) k after front rest f (s, t, gs, gt, q) e =
    ap (λ x. next (skip b x) (λ _ r. skips (before ++ k ∷ after) r)) (ap (λ x. x ++ rest) q ∙ append_assoc s t rest)
    ∙ ap (λ x. next x (λ _ r. skips (before ++ k ∷ after) r)) (skip_back b s (t ++ rest) gs)
    ∙ stops before k after t rest f gt e

stops_at : {P : Kind → List ℕ → Type 0} (f : SheetFault) → ((k : Kind) (bs : List ℕ) → Octets bs → P k bs → skip k bs ≡ fault f) → (ks : List Kind) (bs : List ℕ) → Octets bs → AtField P ks bs → skips ks bs ≡ fault f
stops_at f is ks bs o h =
    ap (λ x. skips x bs) h.order ∙ ap (skips (h.before ++ h.kind ∷ h.after)) h.is
    ∙ stops h.before h.kind h.after h.front h.rest f h.good (is h.kind h.rest (octets_right h.front h.rest (subst Octets h.is o)) h.broken)

-- ---- the fields of a map

must : {X Y : Type 0} (k : Kind) (on : Bool) (ks : List Kind) (o : Read X) (bs : List ℕ) (K : X → List ℕ → Read Y) → on ≡ true → forget o ≡ skip k bs → ((a : X) (r : List ℕ) → forget (K a r) ≡ skips ks r) → forget (next o K) ≡ skips (cond on (k ∷ ks) ks) bs
unfolding skips
must k on ks (got a r) bs K h e f = f a r ∙ ap (λ x. next x (λ _ r. skips ks r)) e ∙ ap (λ b. skips (cond b (k ∷ ks) ks) bs) (sym h)
must k on ks (fault g) bs K h e f = ap (λ x. next x (λ _ r. skips ks r)) e ∙ ap (λ b. skips (cond b (k ∷ ks) ks) bs) (sym h)

held_must : {X Y : Type 0} (k : Kind) (ks : List Kind) (o : Read X) (bs : List ℕ) (K : Option X → List ℕ → Read Y) → forget o ≡ skip k bs → ((a : Option X) (r : List ℕ) → forget (K a r) ≡ skips ks r) → forget (next (next o (λ a rest. got (Some a) rest)) K) ≡ skips (k ∷ ks) bs
unfolding skips
held_must k ks (got a r) bs K e f = f (Some a) r ∙ ap (λ x. next x (λ _ r. skips ks r)) e
held_must k ks (fault g) bs K e f = ap (λ x. next x (λ _ r. skips ks r)) e

may : {X Y : Type 0} (k : Kind) (on : Bool) (ks : List Kind) (p : List ℕ → Read X) (bs : List ℕ) (K : Option X → List ℕ → Read Y) → forget (p bs) ≡ skip k bs → ((a : Option X) (r : List ℕ) → forget (K a r) ≡ skips ks r) → forget (next (read_held p on bs) K) ≡ skips (cond on (k ∷ ks) ks) bs
may k true ks p bs K e f = held_must k ks (p bs) bs K e f
may k false ks p bs K e f = f None bs

fields_skipped : (m : ℕ) (bs : List ℕ) → is_set m 0 ≡ true → is_set m 2 ≡ true → forget (read_fields m bs) ≡ skips (kinds_of m) bs
unfolding skips
fields_skipped m bs h0 h2 =
    must Code (is_set m 0) _ (read_code 0 bs) bs _ h0 refl λ c r1.
    may Parent (is_set m 1) _ (read_code 1) r1 _ refl λ p r2.
    must Count (is_set m 2) _ (read_number 2 r2) r2 _ h2 refl λ n r3.
    may Landing (is_set m 3) _ read_landing r3 _ refl λ l r4.
    may Months (is_set m 4) _ (read_number 4) r4 _ refl λ o r5.
    may Drawing (is_set m 5) _ read_drawing r5 _ refl λ d r6.
    refl

forget_fault : {X : Type 0} (o : Read X) (f : SheetFault) → forget o ≡ fault f → o ≡ fault f
forget_fault (got a r) f e = absurd (fault_got f tt r (sym e))
forget_fault (fault g) f e = ap (λ x. fault x) (fault_same g f e)

-- a bit that does not lack
has_bits : (m : ℕ) → (LacksBit m → ⊥) → (is_set m 0 ≡ true) × (is_set m 2 ≡ true)
unfolding row_of
has_bits m n = (either (is_set m 0) (λ e. e) (λ e. absurd (n (0, omega arith, refl, e))), either (is_set m 2) (λ e. e) (λ e. absurd (n (2, omega arith, refl, e))))

all_known : (m : ℕ) → (HasUnknown m → ⊥) → all_below (known_at m) 16 ≡ true
all_known m n = either (all_below (known_at m) 16) (λ e. e) (λ e. absurd (n (unknown_from m e)))

all_there : (m : ℕ) → (LacksBit m → ⊥) → all_below (complete_at m) 16 ≡ true
all_there m n = either (all_below (complete_at m) 16) (λ e. e) (λ e. absurd (n (lacks_from m e)))

-- ---- the entry

-- the rule of each refusal
abbrev Breaks : List ℕ → SheetFault → Type 0
Breaks bs Cut = EndsEarly bs
Breaks bs UnknownBit = HasUnknownBit bs
Breaks bs Missing = MissesBit bs
Breaks bs Value = HasBadValue bs
Breaks bs Room = ⊥
Breaks bs (Session f) = ⊥

-- the map m and what follows it, read
abbrev from_map : ℕ → List ℕ → Read Item
from_map m rest = next (judged m rest) read_fields

begins : (m : ℕ) (rest : List ℕ) → m < 65536 → read_item (two m ++ rest) ≡ from_map m rest
begins m rest l =
    ap (λ o. next (next o (λ s r. judged (two_of s) r)) read_fields) (some_front (two m) rest 2 refl)
    ∙ ap (λ x. from_map x rest) (two_back m l)

unknown_is : (m : ℕ) (rest : List ℕ) → all_below (known_at m) 16 ≡ false → from_map m rest ≡ fault UnknownBit
unknown_is m rest e = ap (λ b. next (check b UnknownBit (check (all_below (complete_at m) 16) Missing (got m rest))) read_fields) e

known_is : (m : ℕ) (rest : List ℕ) → all_below (known_at m) 16 ≡ true → from_map m rest ≡ next (check (all_below (complete_at m) 16) Missing (got m rest)) read_fields
known_is m rest e = ap (λ b. next (check b UnknownBit (check (all_below (complete_at m) 16) Missing (got m rest))) read_fields) e

missing_is : (m : ℕ) (rest : List ℕ) → all_below (known_at m) 16 ≡ true → all_below (complete_at m) 16 ≡ false → from_map m rest ≡ fault Missing
missing_is m rest e h = known_is m rest e ∙ ap (λ b. next (check b Missing (got m rest)) read_fields) h

fields_are : (m : ℕ) (rest : List ℕ) → all_below (known_at m) 16 ≡ true → all_below (complete_at m) 16 ≡ true → from_map m rest ≡ read_fields m rest
fields_are m rest e h = known_is m rest e ∙ ap (λ b. next (check b Missing (got m rest)) read_fields) h

module _ (bs : List ℕ) (f : SheetFault) (o : Octets bs) where
  at_map : (m : ℕ) (rest : List ℕ) → m < 65536 → bs ≡ two m ++ rest → from_map m rest ≡ fault f → Breaks bs f
  at_map m rest l b e =
      either (all_below (known_at m) 16)
      (λ k.
      either (all_below (complete_at m) 16)
      (λ h.
      let known : HasUnknown m → ⊥ = λ u. unknown_fails m u k in
      let there : LacksBit m → ⊥ = λ u. lacks_fails m u h in
      let on = has_bits m there in
      let s : skips (kinds_of m) rest ≡ fault f = sym (fields_skipped m rest on.0 on.1) ∙ ap forget (sym (fields_are m rest k h) ∙ e) in
      elim (refusal_of (kinds_of m) rest f (octets_right (two m) rest (subst Octets b o)) s) [
        | inl c ↦ subst (Breaks bs) (sym c.0) (inr (m, rest, l, b, (known, there, c.1)))
        | inr c ↦ subst (Breaks bs) (sym c.0) (m, rest, l, b, (known, there, c.1))
      ])
      (λ h. subst (Breaks bs) (fault_same Missing f (sym (missing_is m rest k h) ∙ e)) (m, rest, l, b, ((λ u. unknown_fails m u k), lacks_from m h))))
      (λ k. subst (Breaks bs) (fault_same UnknownBit f (sym (unknown_is m rest k) ∙ e)) (m, rest, l, b, unknown_from m k))

  broken : read_item bs ≡ fault f → Breaks bs f
  broken e =
      either (leb 2 (length bs))
      (λ t.
      let long : 2 ≤ length bs = grind (arith, nat_tests) in
      let s = take 2 bs in
      let rest = drop 2 bs in
      let two_long : length s ≡ 2 = length-take-le 2 bs long in
      let q : bs ≡ s ++ rest = sym (take-append-drop 2 bs) in
      let os : Octets s = octets_left s rest (subst Octets q o) in
      let m = two_of s in
      let b : bs ≡ two m ++ rest = q ∙ ap (λ x. x ++ rest) (sym (two_sound s two_long os)) in
      let l : m < 65536 = two_small s two_long os in
      at_map m rest l b (sym (begins m rest l) ∙ ap read_item (sym b) ∙ e))
      (λ t.
      let c : fault Cut ≡ fault f = sym (ap (λ b. next (next (check b Cut (got (take 2 bs) (drop 2 bs))) (λ s r. judged (two_of s) r)) read_fields) t) ∙ e in
      subst (Breaks bs) (fault_same {X = Item} Cut f c) (inl (grind (arith, nat_tests))))

-- and the other way
module _ (bs : List ℕ) (o : Octets bs) where
  at_field : {P : Kind → List ℕ → Type 0} (f : SheetFault) → ((k : Kind) (s : List ℕ) → Octets s → P k s → skip k s ≡ fault f) → FailsAt P bs → read_item bs ≡ fault f
  at_field f is (m, rest, l, b, (known, there, at)) =
      let on = has_bits m there in
      ap read_item b ∙ begins m rest l ∙ fields_are m rest (all_known m known) (all_there m there)
      ∙ forget_fault (read_fields m rest) f (fields_skipped m rest on.0 on.1 ∙ stops_at f is (kinds_of m) rest (octets_right (two m) rest (subst Octets b o)) at)

  is_fault : (f : SheetFault) → Breaks bs f → read_item bs ≡ fault f
  is_fault Cut (inl l) =
      let t : leb 2 (length bs) ≡ false = grind (arith, nat_tests) in
      ap (λ b. next (next (check b Cut (got (take 2 bs) (drop 2 bs))) (λ s r. judged (two_of s) r)) read_fields) t
  is_fault Cut (inr h) = at_field Cut cut_is h
  is_fault UnknownBit (m, rest, l, b, u) =
      ap read_item b ∙ begins m rest l ∙ unknown_is m rest (either (all_below (known_at m) 16) (λ e. absurd (unknown_fails m u e)) (λ e. e))
  is_fault Missing (m, rest, l, b, (known, u)) =
      ap read_item b ∙ begins m rest l
      ∙ missing_is m rest (all_known m known) (either (all_below (complete_at m) 16) (λ e. absurd (lacks_fails m u e)) (λ e. e))
  is_fault Value h = at_field Value outside_is h
  is_fault Room h = absurd h
  is_fault (Session f) h = absurd h

refused_at : (p : ℕ) (bs : List ℕ) (f : Placed SheetFault) (e : SheetFault) → f.fault ≡ e → f.place ≡ p → Breaks bs e → RefusedAt p bs f
refused_at p bs f Cut e l h = cut (record { is = λ i. record { fault = e i; place = l i }; number = ap sheet_faults.number e; layer = ap sheet_faults.layer e }) h
refused_at p bs f UnknownBit e l h = unknown_bit (record { is = λ i. record { fault = e i; place = l i }; number = ap sheet_faults.number e; layer = ap sheet_faults.layer e }) h
refused_at p bs f Missing e l h = missing (record { is = λ i. record { fault = e i; place = l i }; number = ap sheet_faults.number e; layer = ap sheet_faults.layer e }) h
refused_at p bs f Value e l h = value (record { is = λ i. record { fault = e i; place = l i }; number = ap sheet_faults.number e; layer = ap sheet_faults.layer e }) h
refused_at p bs f Room e l h = absurd h
refused_at p bs f (Session x) e l h = absurd h

refused_is : (p : ℕ) (bs : List ℕ) (f : Placed SheetFault) → Octets bs → RefusedAt p bs f → (read_item bs ≡ fault f.fault) × (f.place ≡ p)
refused_is p bs f o (cut r h) = (is_fault bs o Cut h ∙ ap (λ (x : Placed SheetFault). fault x.fault) (sym r.is), ap (λ (x : Placed SheetFault). x.place) r.is)
refused_is p bs f o (unknown_bit r h) = (is_fault bs o UnknownBit h ∙ ap (λ (x : Placed SheetFault). fault x.fault) (sym r.is), ap (λ (x : Placed SheetFault). x.place) r.is)
refused_is p bs f o (missing r h) = (is_fault bs o Missing h ∙ ap (λ (x : Placed SheetFault). fault x.fault) (sym r.is), ap (λ (x : Placed SheetFault). x.place) r.is)
refused_is p bs f o (value r h) = (is_fault bs o Value h ∙ ap (λ (x : Placed SheetFault). fault x.fault) (sym r.is), ap (λ (x : Placed SheetFault). x.place) r.is)

pub refusals : RefusalLaw
refusals p bs f o = (λ r. refused_at p bs f f.fault refl r.1 (broken bs f.fault o r.0), refused_is p bs f o)

pub first : FirstLaw
first p bs f g o q r =
    let a = refused_is p bs f o q in
    let b = refused_is p bs g o r in
    let e : f.fault ≡ g.fault = fault_same {X = Item} f.fault g.fault (sym a.0 ∙ b.0) in
    let l : f.place ≡ g.place = a.1 ∙ sym b.1 in
    λ i. record { fault = e i; place = l i }
