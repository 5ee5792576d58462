-- A product goes through a sum, and products of bytes are bytes.
use mathlib.Core.Path.{◌≡◌, refl, ◌∙◌, sym, ap, ap₂}
use Prim.Native.Nat.{ℕ, zero, suc, ◌*◌, ◌/◌, ◌%◌, ◌<◌}
use native.Mathlib.Nat.{add-zero, le_of_suc-le-suc, not-suc-le-zero}
use native.Mathlib.Omega.{arith}
use lib.Bits.{bit_xor, xor_comm, xor_assoc, xor_block, xor_mod, xor_shr, xor_lt, xor_self, xor_zero_r}
use Rattle.field.specs.Field.{xtime, mul, mul_on, add_if}

-- (a + b) + (c + d) is (a + c) + (b + d)
pub xor_swap : (a b c d : ℕ) → bit_xor (bit_xor a b) (bit_xor c d) ≡ bit_xor (bit_xor a c) (bit_xor b d)
xor_swap a b c d =
    xor_assoc a b (bit_xor c d)
    ∙ ap (bit_xor a) (sym (xor_assoc b c d) ∙ ap (λ (x : ℕ). bit_xor x d) (xor_comm b c) ∙ xor_assoc c b d)
    ∙ sym (xor_assoc a c (bit_xor b d))

pub xor_twice : (a k : ℕ) → bit_xor (bit_xor a k) k ≡ a
xor_twice a k = xor_assoc a k k ∙ ap (bit_xor a) (xor_self k) ∙ xor_zero_r a

xor_double : (a b : ℕ) → bit_xor a b * 2 ≡ bit_xor (a * 2) (b * 2)
xor_double a b =
    sym (add-zero (bit_xor a b * 2))
    ∙ sym (xor_block 1 a b 0 0 (omega arith) (omega arith))
    ∙ ap₂ bit_xor (add-zero (a * 2)) (add-zero (b * 2))

-- 27 times a bit goes through a sum
digit_27 : (a b : ℕ) → a < 2 → b < 2 → 27 * bit_xor a b ≡ bit_xor (27 * a) (27 * b)
digit_27 zero b ha hb = refl
digit_27 (suc zero) zero ha hb = refl
digit_27 (suc zero) (suc zero) ha hb = refl
digit_27 (suc zero) (suc (suc b)) ha hb = absurd (not-suc-le-zero (le_of_suc-le-suc (le_of_suc-le-suc hb)))
digit_27 (suc (suc a)) b ha hb = absurd (not-suc-le-zero (le_of_suc-le-suc (le_of_suc-le-suc ha)))

pub xtime_sum : (a b : ℕ) → a < 256 → b < 256 → xtime (bit_xor a b) ≡ bit_xor (xtime a) (xtime b)
unfolding xtime
xtime_sum a b ha hb =
    ap₂ bit_xor
    (ap (λ (x : ℕ). x % 256) (xor_double a b) ∙ xor_mod (a * 2) (b * 2) 8)
    (ap (λ (x : ℕ). 27 * x) (xor_shr a b 7) ∙ digit_27 (a / 128) (b / 128) (omega arith) (omega arith))
    ∙ xor_swap ((a * 2) % 256) ((b * 2) % 256) (27 * (a / 128)) (27 * (b / 128))

pub xtime_lt : (a : ℕ) → a < 256 → xtime a < 256
unfolding xtime
xtime_lt a h = xor_lt 8 ((a * 2) % 256) (27 * (a / 128)) (omega arith) (omega arith)

add_if_sum : (d p q a b : ℕ) → add_if d (bit_xor p q) (bit_xor a b) ≡ bit_xor (add_if d p a) (add_if d q b)
add_if_sum zero p q a b = refl
add_if_sum (suc d) p q a b = xor_swap p q a b

add_if_lt : (d p a : ℕ) → p < 256 → a < 256 → add_if d p a < 256
add_if_lt zero p a hp ha = hp
add_if_lt (suc d) p a hp ha = xor_lt 8 p a hp ha

mul_on_sum : (n c p q a b : ℕ) → a < 256 → b < 256
    → mul_on n c (bit_xor p q) (bit_xor a b) ≡ bit_xor (mul_on n c p a) (mul_on n c q b)
mul_on_sum zero c p q a b ha hb = refl
mul_on_sum (suc n) c p q a b ha hb =
    ap₂ (mul_on n (c / 2)) (add_if_sum (c % 2) p q a b) (xtime_sum a b ha hb)
    ∙ mul_on_sum n (c / 2) (add_if (c % 2) p a) (add_if (c % 2) q b) (xtime a) (xtime b) (xtime_lt a ha) (xtime_lt b hb)

mul_on_lt : (n c p a : ℕ) → p < 256 → a < 256 → mul_on n c p a < 256
mul_on_lt zero c p a hp ha = hp
mul_on_lt (suc n) c p a hp ha = mul_on_lt n (c / 2) (add_if (c % 2) p a) (xtime a) (add_if_lt (c % 2) p a hp ha) (xtime_lt a ha)

pub mul_sum : (c a b : ℕ) → a < 256 → b < 256 → mul c (bit_xor a b) ≡ bit_xor (mul c a) (mul c b)
unfolding mul
mul_sum c a b ha hb = mul_on_sum 8 c 0 0 a b ha hb

pub mul_lt : (c a : ℕ) → a < 256 → mul c a < 256
unfolding mul
mul_lt c a h = mul_on_lt 8 c 0 a (omega arith) h
