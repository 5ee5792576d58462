-- What each pair of tables gives, by computing both sides at all 256 bytes; and from that, one byte of a round and of a round undone. This is
-- what ties the tables of `src/tables.rt` to the field of AES.
use Rattle.std.proofs.Common.{◌≡◌, ℕ, ◌<◌, Bool, T, List, eqb, eqb→eq, bit_xor, refl, sym, ap, ap₂, ◌∙◌, arith}
use lib.Bits.{xor_assoc, xor_mod, xor_shr, xor_lt, xor_zero_r, and_le_r, and_mask}
use Rattle.field.specs.Field.{xtime, mul, inverse}
use Rattle.field.specs.Substitution.{affine, unaffine, sub, unsub}
use Rattle.field.specs.Columns.{sum4, dot}
use Rattle.field.proofs.Test.{agreed}
use Rattle.field.proofs.Linear.{xor_swap, mul_sum, mul_lt}
use Rattle.field.proofs.Columns.{dot_lt}
use Rattle.field.proofs.Substitution.{sub_lt, unsub_lt}
use Rattle.aes.specs.declared.tables.TheConstants.{AFFINE_CONSTANT, DOUBLED_IN_TOWER, INTO_TOWER, OUT_OF_TOWER, SUBSTITUTED, SUBSTITUTED_IN_TOWER, UNAFFINE, UNAFFINE_9, UNAFFINE_11, UNAFFINE_13, UNAFFINE_14, UNAFFINE_CONSTANT, UNSUBSTITUTED, UNSUBSTITUTED_9, UNSUBSTITUTED_11, UNSUBSTITUTED_13, UNSUBSTITUTED_14}
use Rattle.aes.specs.Tower.{look_up, low, high, by_halves, by_inverse, place_i, place_j, in_tower, key_in_tower, unaffine_in_tower}
use Rattle.aes.proofs.Lanes.{all_below, every_below}

-- what is looked up from a byte that is taken into the tower: SubBytes but for its constant, as a byte, in the tower, and in the tower times 2
abbrev pub bare_sub : ℕ → ℕ
bare_sub x = by_inverse SUBSTITUTED (in_tower x)

abbrev pub substituted_in_tower : ℕ → ℕ
substituted_in_tower x = by_inverse SUBSTITUTED_IN_TOWER (in_tower x)

abbrev pub doubled_in_tower : ℕ → ℕ
doubled_in_tower x = by_inverse DOUBLED_IN_TOWER (in_tower x)

-- the inverse of the affine map but for its constant, into the tower; and the inverse of a byte of the tower
abbrev pub bare_unaffine : ℕ → ℕ
bare_unaffine = by_halves UNAFFINE

abbrev pub unsubstituted : ℕ → ℕ
unsubstituted = by_inverse UNSUBSTITUTED

-- ---- the maps by halves go through sums

abbrev sums : List ℕ → ℕ → ℕ → Bool
sums t a b = eqb (look_up t (bit_xor a b)) (bit_xor (look_up t a) (look_up t b))

summed : (t : List ℕ) → T (all_below (λ a. all_below (sums t a) 16) 16) → (a b : ℕ) → a < 16 → b < 16 → look_up t (bit_xor a b) ≡ bit_xor (look_up t a) (look_up t b)
summed t h a b la lb = eqb→eq _ _ (every_below (sums t a) 16 (every_below (λ x. all_below (sums t x) 16) 16 h a la) b lb)

low_lt : (a : ℕ) → low a < 16
low_lt a = omega (arith, and_le_r a 15)

low_sum : (a b : ℕ) → low (bit_xor a b) ≡ bit_xor (low a) (low b)
low_sum a b = and_mask (bit_xor a b) 4 ∙ xor_mod a b 4 ∙ sym (ap₂ bit_xor (and_mask a 4) (and_mask b 4))

bare_unaffine_sum : (a b : ℕ) → a < 256 → b < 256 → bare_unaffine (bit_xor a b) ≡ bit_xor (bare_unaffine a) (bare_unaffine b)
unfolding by_halves
bare_unaffine_sum a b ha hb =
    ap₂ bit_xor
    (ap (look_up UNAFFINE.low) (low_sum a b) ∙ summed UNAFFINE.low tt (low a) (low b) (low_lt a) (low_lt b))
    (ap (look_up UNAFFINE.high) (xor_shr a b 4) ∙ summed UNAFFINE.high tt (high a) (high b) (omega arith) (omega arith))
    ∙ xor_swap (look_up UNAFFINE.low (low a)) (look_up UNAFFINE.low (low b)) (look_up UNAFFINE.high (high a)) (look_up UNAFFINE.high (high b))

in_tower_sum : (a b : ℕ) → a < 256 → b < 256 → in_tower (bit_xor a b) ≡ bit_xor (in_tower a) (in_tower b)
unfolding by_halves
in_tower_sum a b ha hb =
    ap₂ bit_xor
    (ap (look_up INTO_TOWER.low) (low_sum a b) ∙ summed INTO_TOWER.low tt (low a) (low b) (low_lt a) (low_lt b))
    (ap (look_up INTO_TOWER.high) (xor_shr a b 4) ∙ summed INTO_TOWER.high tt (high a) (high b) (omega arith) (omega arith))
    ∙ xor_swap (look_up INTO_TOWER.low (low a)) (look_up INTO_TOWER.low (low b)) (look_up INTO_TOWER.high (high a)) (look_up INTO_TOWER.high (high b))

-- ---- computed at every byte

pub left_at : (x : ℕ) → x < 256 → by_halves OUT_OF_TOWER (in_tower x) ≡ x
unfolding by_halves
left_at x h = agreed (λ k. by_halves OUT_OF_TOWER (in_tower k)) (λ k. k) 256 tt x h

bare_sub_is : (x : ℕ) → x < 256 → bare_sub x ≡ bit_xor (sub x) AFFINE_CONSTANT
unfolding by_inverse by_halves place_i place_j sub affine inverse mul xtime
bare_sub_is x h = agreed bare_sub (λ k. bit_xor (sub k) AFFINE_CONSTANT) 256 tt x h

substituted_in_tower_is : (x : ℕ) → x < 256 → substituted_in_tower x ≡ in_tower (bit_xor (sub x) AFFINE_CONSTANT)
unfolding by_inverse by_halves place_i place_j sub affine inverse mul xtime
substituted_in_tower_is x h = agreed substituted_in_tower (λ k. in_tower (bit_xor (sub k) AFFINE_CONSTANT)) 256 tt x h

doubled_in_tower_is : (x : ℕ) → x < 256 → doubled_in_tower x ≡ in_tower (mul 2 (bit_xor (sub x) AFFINE_CONSTANT))
unfolding by_inverse by_halves place_i place_j sub affine inverse mul xtime
doubled_in_tower_is x h = agreed doubled_in_tower (λ k. in_tower (mul 2 (bit_xor (sub k) AFFINE_CONSTANT))) 256 tt x h

unsubstituted_is : (x : ℕ) → x < 256 → unsubstituted (bit_xor (bare_unaffine x) UNAFFINE_CONSTANT) ≡ unsub x
unfolding by_inverse by_halves place_i place_j unsub unaffine inverse mul xtime
unsubstituted_is x h = agreed (λ k. unsubstituted (bit_xor (bare_unaffine k) UNAFFINE_CONSTANT)) unsub 256 tt x h

three : (x : ℕ) → x < 256 → mul 3 x ≡ bit_xor x (mul 2 x)
unfolding mul xtime
three x h = agreed (λ k. mul 3 k) (λ k. bit_xor k (mul 2 k)) 256 tt x h

one : (x : ℕ) → x < 256 → mul 1 x ≡ x
unfolding mul xtime
one x h = agreed (λ k. mul 1 k) (λ k. k) 256 tt x h

double_99 : mul 2 99 ≡ 198
unfolding mul xtime
double_99 = refl

unaffine14 : (x : ℕ) → x < 256 → by_halves UNAFFINE_14 x ≡ bare_unaffine (mul 14 x)
unfolding by_halves mul xtime
unaffine14 x h = agreed (by_halves UNAFFINE_14) (λ k. bare_unaffine (mul 14 k)) 256 tt x h

unaffine11 : (x : ℕ) → x < 256 → by_halves UNAFFINE_11 x ≡ bare_unaffine (mul 11 x)
unfolding by_halves mul xtime
unaffine11 x h = agreed (by_halves UNAFFINE_11) (λ k. bare_unaffine (mul 11 k)) 256 tt x h

unaffine13 : (x : ℕ) → x < 256 → by_halves UNAFFINE_13 x ≡ bare_unaffine (mul 13 x)
unfolding by_halves mul xtime
unaffine13 x h = agreed (by_halves UNAFFINE_13) (λ k. bare_unaffine (mul 13 k)) 256 tt x h

unaffine9 : (x : ℕ) → x < 256 → by_halves UNAFFINE_9 x ≡ bare_unaffine (mul 9 x)
unfolding by_halves mul xtime
unaffine9 x h = agreed (by_halves UNAFFINE_9) (λ k. bare_unaffine (mul 9 k)) 256 tt x h

unsub14 : (x : ℕ) → x < 256 → by_inverse UNSUBSTITUTED_14 (unaffine_in_tower x) ≡ bare_unaffine (mul 14 (unsub x))
unfolding by_inverse by_halves place_i place_j unsub unaffine inverse mul xtime
unsub14 x h = agreed (λ k. by_inverse UNSUBSTITUTED_14 (unaffine_in_tower k)) (λ k. bare_unaffine (mul 14 (unsub k))) 256 tt x h

unsub11 : (x : ℕ) → x < 256 → by_inverse UNSUBSTITUTED_11 (unaffine_in_tower x) ≡ bare_unaffine (mul 11 (unsub x))
unfolding by_inverse by_halves place_i place_j unsub unaffine inverse mul xtime
unsub11 x h = agreed (λ k. by_inverse UNSUBSTITUTED_11 (unaffine_in_tower k)) (λ k. bare_unaffine (mul 11 (unsub k))) 256 tt x h

unsub13 : (x : ℕ) → x < 256 → by_inverse UNSUBSTITUTED_13 (unaffine_in_tower x) ≡ bare_unaffine (mul 13 (unsub x))
unfolding by_inverse by_halves place_i place_j unsub unaffine inverse mul xtime
unsub13 x h = agreed (λ k. by_inverse UNSUBSTITUTED_13 (unaffine_in_tower k)) (λ k. bare_unaffine (mul 13 (unsub k))) 256 tt x h

unsub9 : (x : ℕ) → x < 256 → by_inverse UNSUBSTITUTED_9 (unaffine_in_tower x) ≡ bare_unaffine (mul 9 (unsub x))
unfolding by_inverse by_halves place_i place_j unsub unaffine inverse mul xtime
unsub9 x h = agreed (λ k. by_inverse UNSUBSTITUTED_9 (unaffine_in_tower k)) (λ k. bare_unaffine (mul 9 (unsub k))) 256 tt x h

-- ---- one byte of a step

pub substituted_at : (x : ℕ) → x < 256 → bit_xor (bare_sub x) AFFINE_CONSTANT ≡ sub x
substituted_at x h = ap (λ (y : ℕ). bit_xor y AFFINE_CONSTANT) (bare_sub_is x h) ∙ xor_assoc (sub x) AFFINE_CONSTANT AFFINE_CONSTANT ∙ xor_zero_r (sub x)

pub unsubstituted_at : (x : ℕ) → x < 256 → unsubstituted (bit_xor (bare_unaffine x) UNAFFINE_CONSTANT) ≡ unsub x
unsubstituted_at x h = unsubstituted_is x h

-- the constants of the affine map fall out
cancel : (p q r c d k : ℕ) → bit_xor (bit_xor (bit_xor (bit_xor p 198) (bit_xor (bit_xor q 99) (bit_xor r 198))) (bit_xor (bit_xor c 99) (bit_xor d 99))) (bit_xor k 99)
    ≡ bit_xor (sum4 p (bit_xor q r) c d) k
cancel p q r c d k =
    let e1 : bit_xor (bit_xor p 198) (bit_xor (bit_xor q 99) (bit_xor r 198)) ≡ bit_xor (bit_xor p (bit_xor q r)) 99 =
    ap (bit_xor (bit_xor p 198)) (xor_swap q 99 r 198) ∙ xor_swap p 198 (bit_xor q r) (bit_xor 99 198) in
    let e2 : bit_xor (bit_xor c 99) (bit_xor d 99) ≡ bit_xor (bit_xor c d) 0 = xor_swap c 99 d 99 in
    ap (λ (x : ℕ). bit_xor x (bit_xor k 99)) (ap₂ bit_xor e1 e2 ∙ xor_swap (bit_xor p (bit_xor q r)) 99 (bit_xor c d) 0)
    ∙ xor_swap (bit_xor (bit_xor p (bit_xor q r)) (bit_xor c d)) 99 k 99
    ∙ xor_zero_r _
    ∙ ap (λ (x : ℕ). bit_xor x k) (sym (xor_assoc (bit_xor p (bit_xor q r)) c d))

xor8 : (a b : ℕ) → a < 256 → b < 256 → bit_xor a b < 256
xor8 a b ha hb = xor_lt 8 a b ha hb

pub mixed_at : (a b c d k : ℕ) → a < 256 → b < 256 → c < 256 → d < 256 → k < 256
    → bit_xor (bit_xor (bit_xor (doubled_in_tower a) (bit_xor (substituted_in_tower b) (doubled_in_tower b))) (bit_xor (substituted_in_tower c) (substituted_in_tower d))) (key_in_tower k)
    ≡ in_tower (bit_xor (dot 2 3 1 1 (sub a) (sub b) (sub c) (sub d)) k)
mixed_at a b c d k ha hb hc hd hk =
    let w : 99 < 256 = omega arith in
    let sa = sub_lt a in
    let sb = sub_lt b in
    let la = xor8 (sub a) 99 sa w in
    let lb = xor8 (sub b) 99 sb w in
    let lc = xor8 (sub c) 99 (sub_lt c) w in
    let ld = xor8 (sub d) 99 (sub_lt d) w in
    let ma = mul_lt 2 _ la in
    let mb = mul_lt 2 _ lb in
    let l1 = xor8 _ _ lb mb in
    let l2 = xor8 _ _ ma l1 in
    let l3 = xor8 _ _ lc ld in
    let l4 = xor8 _ _ l2 l3 in
    let lk = xor8 k 99 hk w in
    ap (λ (x : ℕ). bit_xor x (key_in_tower k)) (ap₂ bit_xor
    (ap₂ bit_xor (doubled_in_tower_is a ha) (ap₂ bit_xor (substituted_in_tower_is b hb) (doubled_in_tower_is b hb) ∙ sym (in_tower_sum _ _ lb mb)) ∙ sym (in_tower_sum _ _ ma l1))
    (ap₂ bit_xor (substituted_in_tower_is c hc) (substituted_in_tower_is d hd) ∙ sym (in_tower_sum _ _ lc ld))
    ∙ sym (in_tower_sum _ _ l2 l3))
    ∙ sym (in_tower_sum _ _ l4 lk)
    ∙ ap in_tower
    (ap (λ (x : ℕ). bit_xor x (bit_xor k 99)) (ap (λ (x : ℕ). bit_xor x (bit_xor (bit_xor (sub c) 99) (bit_xor (sub d) 99))) (ap₂ bit_xor (mul_sum 2 (sub a) 99 sa w ∙ ap (bit_xor (mul 2 (sub a))) double_99) (ap (bit_xor (bit_xor (sub b) 99)) (mul_sum 2 (sub b) 99 sb w ∙ ap (bit_xor (mul 2 (sub b))) double_99))))
    ∙ cancel (mul 2 (sub a)) (sub b) (mul 2 (sub b)) (sub c) (sub d) k
    ∙ ap (λ (x : ℕ). bit_xor x k) (ap₂ bit_xor (ap₂ bit_xor (ap (bit_xor (mul 2 (sub a))) (sym (three (sub b) sb))) (sym (one (sub c) (sub_lt c)))) (sym (one (sub d) (sub_lt d)))))

-- four products, summed in the tower
bare_unaffine_dot : (p q r s : ℕ) → p < 256 → q < 256 → r < 256 → s < 256 → bit_xor (bit_xor (bare_unaffine p) (bare_unaffine q)) (bit_xor (bare_unaffine r) (bare_unaffine s)) ≡ bare_unaffine (sum4 p q r s)
bare_unaffine_dot p q r s hp hq hr hs =
    ap₂ bit_xor (sym (bare_unaffine_sum p q hp hq)) (sym (bare_unaffine_sum r s hr hs))
    ∙ sym (bare_unaffine_sum (bit_xor p q) (bit_xor r s) (xor8 p q hp hq) (xor8 r s hr hs))
    ∙ ap bare_unaffine (sym (xor_assoc (bit_xor p q) r s))

pub unmixed_at : (a b c d : ℕ) → a < 256 → b < 256 → c < 256 → d < 256
    → bit_xor (bit_xor (bit_xor (by_halves UNAFFINE_14 a) (by_halves UNAFFINE_11 b)) (bit_xor (by_halves UNAFFINE_13 c) (by_halves UNAFFINE_9 d))) UNAFFINE_CONSTANT
    ≡ unaffine_in_tower (dot 14 11 13 9 a b c d)
unmixed_at a b c d ha hb hc hd =
    ap (λ (x : ℕ). bit_xor x UNAFFINE_CONSTANT)
    (ap₂ bit_xor (ap₂ bit_xor (unaffine14 a ha) (unaffine11 b hb)) (ap₂ bit_xor (unaffine13 c hc) (unaffine9 d hd))
    ∙ bare_unaffine_dot (mul 14 a) (mul 11 b) (mul 13 c) (mul 9 d) (mul_lt 14 a ha) (mul_lt 11 b hb) (mul_lt 13 c hc) (mul_lt 9 d hd))

sum4_swap : (a b c d e f g h : ℕ) → bit_xor (sum4 a b c d) (sum4 e f g h) ≡ sum4 (bit_xor a e) (bit_xor b f) (bit_xor c g) (bit_xor d h)
sum4_swap a b c d e f g h =
    xor_swap (bit_xor (bit_xor a b) c) d (bit_xor (bit_xor e f) g) h
    ∙ ap (λ (x : ℕ). bit_xor x (bit_xor d h))
    (xor_swap (bit_xor a b) c (bit_xor e f) g ∙ ap (λ (x : ℕ). bit_xor x (bit_xor c g)) (xor_swap a b e f))

-- a row of a matrix times a sum of two columns
dot_sum : (p q r s a b c d e f g h : ℕ) → a < 256 → b < 256 → c < 256 → d < 256 → e < 256 → f < 256 → g < 256 → h < 256
    → bit_xor (dot p q r s a b c d) (dot p q r s e f g h) ≡ dot p q r s (bit_xor a e) (bit_xor b f) (bit_xor c g) (bit_xor d h)
dot_sum p q r s a b c d e f g h ha hb hc hd he hf hg hh =
    sum4_swap (mul p a) (mul q b) (mul r c) (mul s d) (mul p e) (mul q f) (mul r g) (mul s h)
    ∙ ap₂ bit_xor (ap₂ bit_xor (ap₂ bit_xor (sym (mul_sum p a e ha he)) (sym (mul_sum q b f hb hf))) (sym (mul_sum r c g hc hg))) (sym (mul_sum s d h hd hh))

pub unround_at : (a b c d e f g h : ℕ) → a < 256 → b < 256 → c < 256 → d < 256 → e < 256 → f < 256 → g < 256 → h < 256
    → bit_xor (bit_xor (bit_xor (by_inverse UNSUBSTITUTED_14 (unaffine_in_tower a)) (by_inverse UNSUBSTITUTED_11 (unaffine_in_tower b))) (bit_xor (by_inverse UNSUBSTITUTED_13 (unaffine_in_tower c)) (by_inverse UNSUBSTITUTED_9 (unaffine_in_tower d)))) (unaffine_in_tower (dot 14 11 13 9 e f g h))
    ≡ unaffine_in_tower (dot 14 11 13 9 (bit_xor (unsub a) e) (bit_xor (unsub b) f) (bit_xor (unsub c) g) (bit_xor (unsub d) h))
unround_at a b c d e f g h ha hb hc hd he hf hg hh =
    let p = unsub_lt a in
    let q = unsub_lt b in
    let r = unsub_lt c in
    let s = unsub_lt d in
    ap (λ (x : ℕ). bit_xor x (unaffine_in_tower (dot 14 11 13 9 e f g h)))
    (ap₂ bit_xor (ap₂ bit_xor (unsub14 a ha) (unsub11 b hb)) (ap₂ bit_xor (unsub13 c hc) (unsub9 d hd))
    ∙ bare_unaffine_dot (mul 14 (unsub a)) (mul 11 (unsub b)) (mul 13 (unsub c)) (mul 9 (unsub d)) (mul_lt 14 (unsub a) p) (mul_lt 11 (unsub b) q) (mul_lt 13 (unsub c) r) (mul_lt 9 (unsub d) s))
    ∙ sym (xor_assoc (bare_unaffine (dot 14 11 13 9 (unsub a) (unsub b) (unsub c) (unsub d))) (bare_unaffine (dot 14 11 13 9 e f g h)) UNAFFINE_CONSTANT)
    ∙ ap (λ (x : ℕ). bit_xor x UNAFFINE_CONSTANT)
    (sym (bare_unaffine_sum (dot 14 11 13 9 (unsub a) (unsub b) (unsub c) (unsub d)) (dot 14 11 13 9 e f g h) (dot_lt 14 11 13 9 (unsub a) (unsub b) (unsub c) (unsub d) p q r s) (dot_lt 14 11 13 9 e f g h he hf hg hh))
    ∙ ap bare_unaffine (dot_sum 14 11 13 9 (unsub a) (unsub b) (unsub c) (unsub d) e f g h p q r s he hf hg hh))
