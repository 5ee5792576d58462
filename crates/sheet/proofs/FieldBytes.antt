-- Each field: what is written is read back, and what is read was written.
use Rattle.std.proofs.Common.{◌≡◌, ℕ, zero, suc, ◌+◌, ◌*◌, ◌/◌, ◌%◌, ◌^◌, ◌<◌, ◌≤◌, Bool, true, false, cond, ◌&&◌, ◌||◌, eqb, ltb, leb, List, [], ◌∷◌, ◌++◌, length, get_or, take, drop, ℤ, pos, negsuc, is_some, Some, None, Option, sym, refl, ap, ◌∙◌, subst, arith, length-append, take-append-drop, length-take-le, w8, SFits, to_z, le-leb}
use Rattle.std.specs.List.{All}
use Rattle.std.proofs.lemmas.List.{take_at, drop_at}
use Rattle.std.proofs.lemmas.List.Elements.{All-take, All-drop}
use Rattle.std.proofs.lemmas.Bool.Decides.{nat_tests, Decides-below_and, Decides-eqb}
use Rattle.std.proofs.lemmas.Int.{to_z-of_z, of_z-to_z}
use Rattle.fault.specs.declared.kinds.SheetFault.{SheetFault}
use Rattle.fault.specs.declared.kinds.SheetFault.TheVariants.{Cut, UnknownBit, Missing, Value}
use Rattle.sheet.specs.Table.{row_of, in_row, is_set, is_unknown, known_at, complete_at, all_below}
use Rattle.sheet.specs.Entries.{signs, CodeForm, NumberForm, LandingForm, DrawingForm, Held, two, one, text, counted, held, map_of}
use Rattle.sheet.specs.Reading.{Read, got, fault, next, check, some, read_code, two_of, read_number, read_landing, read_drawing, read_held, read_map}
use Rattle.sheet.proofs.Maps.{all_at, not_false, down}
use Rattle.sheet.proofs.Steps.{check_passes}

abbrev pub Octets : List ℕ → Type 0
Octets bs = All (λ b. b < 256) bs

pub octets_left : (xs ys : List ℕ) → Octets (xs ++ ys) → Octets xs
octets_left xs ys h = subst Octets (take_at xs ys (length xs) refl) (All-take (λ b. b < 256) (length xs) (xs ++ ys) h)

pub octets_right : (xs ys : List ℕ) → Octets (xs ++ ys) → Octets ys
octets_right xs ys h = subst Octets (drop_at xs ys (length xs) refl) (All-drop (λ b. b < 256) (length xs) (xs ++ ys) h)

pub fault_got : {X : Type 0} (f : SheetFault) (a : X) (r : List ℕ) → fault f ≡ got a r → ⊥
fault_got f a r e = let z : ◌≡◌ {A = ℕ} 0 1 = cc in omega arith

pub got_same : {X : Type 0} (a b : X) (r s : List ℕ) → got a r ≡ got b s → (a ≡ b) × (r ≡ s)
got_same a b r s e = (cc, cc)

pub next_inv : {X Y : Type 0} (o : Read X) (k : X → List ℕ → Read Y) (b : Y) (rest : List ℕ) → next o k ≡ got b rest → (a : X) × (r : List ℕ) × (o ≡ got a r) × (k a r ≡ got b rest)
next_inv (got a r) k b rest e = (a, r, refl, e)
next_inv (fault f) k b rest e = absurd (fault_got f b rest e)

pub check_inv : {X : Type 0} (t : Bool) (f : SheetFault) (o : Read X) (b : X) (rest : List ℕ) → check t f o ≡ got b rest → (t ≡ true) × (o ≡ got b rest)
check_inv true f o b rest e = (refl, e)
check_inv false f o b rest e = absurd (fault_got f b rest e)

pub some_front : (s rest : List ℕ) (n : ℕ) → length s ≡ n → some n (s ++ rest) ≡ got s rest
some_front s rest n h =
    let e : leb n (length (s ++ rest)) ≡ true = le-leb _ _ (simp length-append (omega arith)) in
    check_passes _ _ _ e ∙ ap (λ l. got l (drop n (s ++ rest))) (take_at s rest n h) ∙ ap (got s) (drop_at s rest n h)

pub some_sound : (n : ℕ) (bs s rest : List ℕ) → some n bs ≡ got s rest → (length s ≡ n) × (bs ≡ s ++ rest)
some_sound n bs s rest e =
    let c = check_inv (leb n (length bs)) Cut (got (take n bs) (drop n bs)) s rest e in
    let g = got_same (take n bs) s (drop n bs) rest c.1 in
    let h : n ≤ length bs = grind (arith, nat_tests) in
    (sym (ap length g.0) ∙ length-take-le n bs h, sym (take-append-drop n bs) ∙ ap (λ l. l ++ drop n bs) g.0 ∙ ap (λ l. s ++ l) g.1)

pub record Lawful {X : Type 0} (P : X → Type 0) (w : X → List ℕ) (r : List ℕ → Read X) : Type 0 where
  pub back : (a : X) (rest : List ℕ) → P a → r (w a ++ rest) ≡ got a rest
  pub sound : (bs : List ℕ) (a : X) (rest : List ℕ) → Octets bs → r bs ≡ got a rest → P a × (bs ≡ w a ++ rest)

pub code_lawful : (k : ℕ) → Lawful (CodeForm k) text (read_code k)
code_lawful k = record {
  back = λ s rest f.
      ap (λ o. next o (λ t r. check (signs false t) Value (got t r))) (some_front s rest (row_of k).width f.0) ∙ check_passes _ _ _ f.1;
  sound = λ bs s rest h e.
      let n = next_inv (some (row_of k).width bs) (λ t r. check (signs false t) Value (got t r)) s rest e in
      let c = check_inv (signs false n.0) Value (got n.0 n.1) s rest n.3 in
      let g = got_same n.0 s n.1 rest c.1 in
      let f = some_sound (row_of k).width bs s rest (n.2 ∙ c.1) in
      ((f.0, ap (signs false) (sym g.0) ∙ c.0), f.1);
}

pub two_back : (n : ℕ) → n < 65536 → two_of (two n) ≡ n
two_back n h = omega arith

pub two_sound : (s : List ℕ) → length s ≡ 2 → Octets s → two (two_of s) ≡ s
two_sound [] l o = absurd (omega arith)
two_sound (a ∷ []) l o = absurd (omega arith)
two_sound (a ∷ b ∷ []) l o =
    let g : a < 256 = o 0 0 (omega arith) in
    let h : b < 256 = o 1 0 (omega arith) in
    let p : (a * 256 + b) / 256 % 256 ≡ a = omega arith in
    let q : (a * 256 + b) % 256 ≡ b = omega arith in
    ap (λ x. x ∷ ((a * 256 + b) % 256) ∷ []) p ∙ ap (λ x. a ∷ x ∷ []) q
two_sound (a ∷ b ∷ c ∷ s) l o = absurd (omega arith)

pub two_small : (s : List ℕ) → length s ≡ 2 → Octets s → two_of s < 65536
two_small [] l o = absurd (omega arith)
two_small (a ∷ []) l o = absurd (omega arith)
two_small (a ∷ b ∷ []) l o =
    let g : a < 256 = o 0 0 (omega arith) in
    let h : b < 256 = o 1 0 (omega arith) in
    omega arith
two_small (a ∷ b ∷ c ∷ s) l o = absurd (omega arith)

pub number_lawful : (k : ℕ) → (row_of k).width ≡ 2 → ((n : ℕ) → NumberForm k n → n < 65536) → Lawful (NumberForm k) two (read_number k)
number_lawful k wide small = record {
  back = λ n rest f.
      ap (λ o. next o (λ s r. check (in_row k (pos (two_of s))) Value (got (two_of s) r))) (some_front (two n) rest (row_of k).width (sym wide))
      ∙ ap (λ m. check (in_row k (pos m)) Value (got m rest)) (two_back n (small n f)) ∙ check_passes _ _ _ f;
  sound = λ bs n rest h e.
      let i = next_inv (some (row_of k).width bs) (λ s r. check (in_row k (pos (two_of s))) Value (got (two_of s) r)) n rest e in
      let c = check_inv (in_row k (pos (two_of i.0))) Value (got (two_of i.0) i.1) n rest i.3 in
      let g = got_same (two_of i.0) n i.1 rest c.1 in
      let f = some_sound (row_of k).width bs i.0 i.1 i.2 in
      let o = octets_left i.0 i.1 (subst Octets f.1 h) in (
        ap (λ m. in_row k (pos m)) (sym g.0) ∙ c.0,
        f.1 ∙ ap (λ l. l ++ i.1) (sym (two_sound i.0 (f.0 ∙ wide) o)) ∙ ap (λ m. two m ++ i.1) g.0 ∙ ap (λ l. two n ++ l) g.1,
      );
}

pub count_lawful : Lawful (NumberForm 2) two (read_number 2)
unfolding row_of
count_lawful = number_lawful 2 refl (λ n f. grind (arith, nat_tests))

pub months_lawful : Lawful (NumberForm 4) two (read_number 4)
unfolding row_of
months_lawful = number_lawful 4 refl (λ n f. grind (arith, nat_tests))

landing_fits : (z : ℤ) → LandingForm z → SFits w8 z
unfolding row_of
landing_fits (pos n) f = record { sfits = grind (arith, nat_tests) }
landing_fits (negsuc n) f = record { sfits = grind (arith, nat_tests) }

one_sound : (s : List ℕ) → length s ≡ 1 → Octets s → one (to_z w8 (get_or s 0 0)) ≡ s
one_sound [] l o = absurd (omega arith)
one_sound (b ∷ []) l o = ap (λ x. x ∷ []) (of_z-to_z w8 b (o 0 0 (omega arith)))
one_sound (a ∷ b ∷ s) l o = absurd (omega arith)

pub landing_lawful : Lawful LandingForm one read_landing
unfolding row_of
landing_lawful = record {
  back = λ z rest f.
      ap (λ o. next o (λ s r. check (in_row 3 (to_z w8 (get_or s 0 0))) Value (got (to_z w8 (get_or s 0 0)) r))) (some_front (one z) rest (row_of 3).width refl)
      ∙ ap (λ m. check (in_row 3 m) Value (got m rest)) (to_z-of_z w8 z (landing_fits z f)) ∙ check_passes _ _ _ f;
  sound = λ bs z rest h e.
      let i = next_inv (some (row_of 3).width bs) (λ s r. check (in_row 3 (to_z w8 (get_or s 0 0))) Value (got (to_z w8 (get_or s 0 0)) r)) z rest e in
      let c = check_inv (in_row 3 (to_z w8 (get_or i.0 0 0))) Value (got (to_z w8 (get_or i.0 0 0)) i.1) z rest i.3 in
      let g = got_same (to_z w8 (get_or i.0 0 0)) z i.1 rest c.1 in
      let f = some_sound (row_of 3).width bs i.0 i.1 i.2 in
      let o = octets_left i.0 i.1 (subst Octets f.1 h) in (
        ap (in_row 3) (sym g.0) ∙ c.0,
        f.1 ∙ ap (λ l. l ++ i.1) (sym (one_sound i.0 f.0 o)) ∙ ap (λ m. one m ++ i.1) g.0 ∙ ap (λ l. one z ++ l) g.1,
      );
}

-- what follows a drawing's length
abbrev behind : ℕ → List ℕ → Read (List ℕ)
behind n bs = next (some n bs) (λ t after. check (signs true t) Value (got t after))

single : (s : List ℕ) → length s ≡ 1 → s ≡ get_or s 0 0 ∷ []
single [] l = absurd (omega arith)
single (b ∷ []) l = refl
single (a ∷ b ∷ s) l = absurd (omega arith)

pub drawing_lawful : Lawful DrawingForm counted read_drawing
unfolding row_of
drawing_lawful = record {
  back = λ d rest f.
      ap (λ o. next o (λ s r. check (in_row 5 (pos (get_or s 0 0))) Value (behind (get_or s 0 0) r))) (some_front (length d ∷ []) (d ++ rest) (row_of 5).width refl)
      ∙ check_passes _ _ _ f.0
      ∙ ap (λ o. next o (λ t after. check (signs true t) Value (got t after))) (some_front d rest (length d) refl)
      ∙ check_passes _ _ _ f.1;
  sound = λ bs d rest h e.
      let i = next_inv (some (row_of 5).width bs) (λ s r. check (in_row 5 (pos (get_or s 0 0))) Value (behind (get_or s 0 0) r)) d rest e in
      let n = get_or i.0 0 0 in
      let c = check_inv (in_row 5 (pos (get_or i.0 0 0))) Value (behind (get_or i.0 0 0) i.1) d rest i.3 in
      let j = next_inv (some (get_or i.0 0 0) i.1) (λ t after. check (signs true t) Value (got t after)) d rest c.1 in
      let k = check_inv (signs true j.0) Value (got j.0 j.1) d rest j.3 in
      let g = got_same j.0 d j.1 rest k.1 in
      let f = some_sound (row_of 5).width bs i.0 i.1 i.2 in
      let u = some_sound (get_or i.0 0 0) i.1 d rest (j.2 ∙ k.1) in (
        (ap (λ m. in_row 5 (pos m)) u.0 ∙ c.0, ap (signs true) (sym g.0) ∙ k.0),
        f.1 ∙ ap (λ l. l ++ i.1) (single i.0 f.0) ∙ ap (λ m. m ∷ i.1) (sym u.0) ∙ ap (λ l. length d ∷ l) u.1,
      );
}

-- a field that may be left out
pub held_back : {X : Type 0} {P : X → Type 0} {w : X → List ℕ} {r : List ℕ → Read X} → Lawful P w r → (o : Option X) (rest : List ℕ) → Held P o → read_held r (is_some o) (held w o ++ rest) ≡ got o rest
held_back l None rest f = refl
held_back l (Some a) rest f = ap (λ o. next o (λ b after. got (Some b) after)) (l.back a rest f)

pub held_sound : {X : Type 0} {P : X → Type 0} {w : X → List ℕ} {r : List ℕ → Read X} → Lawful P w r → (on : Bool) (bs : List ℕ) (o : Option X) (rest : List ℕ) → Octets bs → read_held r on bs ≡ got o rest → Held P o × (bs ≡ held w o ++ rest) × (is_some o ≡ on)
held_sound {X} {P} {w} {r} l false bs o rest h e =
    let g = got_same None o bs rest e in
    let Q : Option X → Type 0 = λ p. Held P p × (bs ≡ held w p ++ rest) × (is_some p ≡ false) in
    subst Q g.0 (tt, g.1, refl)
held_sound {X} {P} {w} {r} l true bs o rest h e =
    let i = next_inv (r bs) (λ a after. got (Some a) after) o rest e in
    let g = got_same (Some i.0) o i.1 rest i.3 in
    let s = l.sound bs i.0 i.1 h i.2 in
    let Q : Option X → Type 0 = λ p. Held P p × (bs ≡ held w p ++ rest) × (is_some p ≡ true) in
    subst Q g.0 (s.0, s.1 ∙ ap (λ t. w i.0 ++ t) g.1, refl)

-- the map
abbrev pub judged : ℕ → List ℕ → Read ℕ
judged m rest = check (all_below (known_at m) 16) UnknownBit (check (all_below (complete_at m) 16) Missing (got m rest))

map_passes : (p l m d : Bool) (rest : List ℕ) → judged (map_of p l m d) rest ≡ got (map_of p l m d) rest
unfolding all_below row_of
map_passes true true true true rest = refl
map_passes true true true false rest = refl
map_passes true true false true rest = refl
map_passes true true false false rest = refl
map_passes true false true true rest = refl
map_passes true false true false rest = refl
map_passes true false false true rest = refl
map_passes true false false false rest = refl
map_passes false true true true rest = refl
map_passes false true true false rest = refl
map_passes false true false true rest = refl
map_passes false true false false rest = refl
map_passes false false true true rest = refl
map_passes false false true false rest = refl
map_passes false false false true rest = refl
map_passes false false false false rest = refl

pub record Flags (x : ℕ) (p l m d : Bool) : Type 0 where
  pub parent : is_set x 1 ≡ p
  pub landing : is_set x 3 ≡ l
  pub months : is_set x 4 ≡ m
  pub drawing : is_set x 5 ≡ d
  pub small : x < 65536

flags_by : (x : ℕ) → ltb x 65536 ≡ true → Flags x (is_set x 1) (is_set x 3) (is_set x 4) (is_set x 5)
flags_by x h = record { parent = refl; landing = refl; months = refl; drawing = refl; small = grind (arith, nat_tests) }

pub map_flags : (p l m d : Bool) → Flags (map_of p l m d) p l m d
map_flags true true true true = flags_by 63 refl
map_flags true true true false = flags_by 31 refl
map_flags true true false true = flags_by 47 refl
map_flags true true false false = flags_by 15 refl
map_flags true false true true = flags_by 55 refl
map_flags true false true false = flags_by 23 refl
map_flags true false false true = flags_by 39 refl
map_flags true false false false = flags_by 7 refl
map_flags false true true true = flags_by 61 refl
map_flags false true true false = flags_by 29 refl
map_flags false true false true = flags_by 45 refl
map_flags false true false false = flags_by 13 refl
map_flags false false true true = flags_by 53 refl
map_flags false false true false = flags_by 21 refl
map_flags false false false true = flags_by 37 refl
map_flags false false false false = flags_by 5 refl

pub map_back : (p l m d : Bool) (rest : List ℕ) → read_map (two (map_of p l m d) ++ rest) ≡ got (map_of p l m d) rest
map_back p l m d rest =
    ap (λ o. next o (λ s r. judged (two_of s) r)) (some_front (two (map_of p l m d)) rest 2 refl)
    ∙ ap (λ x. judged x rest) (two_back (map_of p l m d) (map_flags p l m d).small) ∙ map_passes p l m d rest

-- a map that passes is that of its flags: a test at each number below 64
abbrev again : ℕ → ℕ
again x = map_of (is_set x 1) (is_set x 3) (is_set x 4) (is_set x 5)

abbrev tested : ℕ → Bool
tested x = cond (is_set x 0 && is_set x 2) (eqb (again x) x) true

abbrev all_tested : ℕ → Bool
all_tested zero = true
all_tested (suc n) = tested n && all_tested n

map_again : (x : ℕ) → x < 64 → (is_set x 0 && is_set x 2) ≡ true → again x ≡ x
map_again x h s =
    let d = Decides-below_and tested (λ k. tested k ≡ true) all_tested (λ k. (λ e. e, λ e. e)) refl (λ n. refl) 64 in
    let t = d.0 refl x h in
    (Decides-eqb (again x) x).0 (ap (λ b. cond b (eqb (again x) x) true) (sym s) ∙ t)

halved : (x k : ℕ) → all_below (known_at x) 16 ≡ true → k < 16 → is_unknown (row_of k).need ≡ true → x / 2 ^ k % 2 ≡ 0
halved x k h l u =
    let t = all_at (known_at x) 16 k h l in
    let s : (is_set x k && true) ≡ false = subst (λ b. (is_set x k && b) ≡ false) u (not_false _ t) in
    grind (arith, nat_tests)

below_64 : (x : ℕ) → x < 65536 → all_below (known_at x) 16 ≡ true → x < 64
unfolding row_of
below_64 x w h =
    let a15 : x / 32768 % 2 ≡ 0 = halved x 15 h (omega arith) refl in
    let a14 : x / 16384 % 2 ≡ 0 = halved x 14 h (omega arith) refl in
    let a13 : x / 8192 % 2 ≡ 0 = halved x 13 h (omega arith) refl in
    let a12 : x / 4096 % 2 ≡ 0 = halved x 12 h (omega arith) refl in
    let a11 : x / 2048 % 2 ≡ 0 = halved x 11 h (omega arith) refl in
    let a10 : x / 1024 % 2 ≡ 0 = halved x 10 h (omega arith) refl in
    let a9 : x / 512 % 2 ≡ 0 = halved x 9 h (omega arith) refl in
    let a8 : x / 256 % 2 ≡ 0 = halved x 8 h (omega arith) refl in
    let a7 : x / 128 % 2 ≡ 0 = halved x 7 h (omega arith) refl in
    let a6 : x / 64 % 2 ≡ 0 = halved x 6 h (omega arith) refl in
    down 32768 x w a15 λ w15. down 16384 x w15 a14 λ w14. down 8192 x w14 a13 λ w13. down 4096 x w13 a12 λ w12. down 2048 x w12 a11 λ w11. down 1024 x w11 a10 λ w10. down 512 x w10 a9 λ w9. down 256 x w9 a8 λ w8. down 128 x w8 a7 λ w7. down 64 x w7 a6 λ w6. w6

required : (x : ℕ) → all_below (complete_at x) 16 ≡ true → (is_set x 0 && is_set x 2) ≡ true
unfolding row_of
required x h =
    let a : (is_set x 0 || false) ≡ true = all_at (complete_at x) 16 0 h (omega arith) in
    let b : (is_set x 2 || false) ≡ true = all_at (complete_at x) 16 2 h (omega arith) in
    grind arith

pub map_sound : (bs : List ℕ) (x : ℕ) (rest : List ℕ) → Octets bs → read_map bs ≡ got x rest → (again x ≡ x) × (bs ≡ two x ++ rest)
map_sound bs x rest h e =
    let i = next_inv (some 2 bs) (λ s r. judged (two_of s) r) x rest e in
    let c = check_inv (all_below (known_at (two_of i.0)) 16) UnknownBit (check (all_below (complete_at (two_of i.0)) 16) Missing (got (two_of i.0) i.1)) x rest i.3 in
    let k = check_inv (all_below (complete_at (two_of i.0)) 16) Missing (got (two_of i.0) i.1) x rest c.1 in
    let g = got_same (two_of i.0) x i.1 rest k.1 in
    let f = some_sound 2 bs i.0 i.1 i.2 in
    let o = octets_left i.0 i.1 (subst Octets f.1 h) in
    let below : two_of i.0 < 64 = below_64 (two_of i.0) (two_small i.0 f.0 o) c.0 in (
      ap again (sym g.0) ∙ map_again (two_of i.0) below (required (two_of i.0) k.0) ∙ g.0,
      f.1 ∙ ap (λ l. l ++ i.1) (sym (two_sound i.0 f.0 o)) ∙ ap (λ m. two m ++ i.1) g.0 ∙ ap (λ l. two x ++ l) g.1,
    )
