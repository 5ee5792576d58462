-- Doubling is by x.
use Rattle.std.proofs.Common.{◌≡◌, ℕ, zero, suc, ◌+◌, ◌-◌, ◌*◌, ◌/◌, ◌%◌, ◌^◌, ◌<◌, cond, ◌||◌, ◌==◌, List, [], ◌∷◌, get_or, bit_xor, refl, ap, ap₂, ◌∙◌, inl, inr, arith, lit<}
use Rattle.std.proofs.lemmas.Bool.{cases_lt, ne_eqb}
use lib.Bits.{xor_shr, xor_mod}
use Rattle.block.specs.Bytes.{Block}
use Rattle.block.proofs.Xors.{get_or_xor, bytes_at}
use Rattle.forms.specs.Double.{moved, double, coefficient, before}
use Rattle.forms.specs.Laws.{DoubleLaw}
use Rattle.forms.proofs.Doubles.{length_moved, moved_first, moved_later}

-- a bit of a sum
bit_sum : (x y n : ℕ) → bit_xor x y / 2 ^ n % 2 ≡ bit_xor (x / 2 ^ n % 2) (y / 2 ^ n % 2)
bit_sum x y n = ap (λ a. a % 2) (xor_shr x y n) ∙ xor_mod (x / 2 ^ n) (y / 2 ^ n) 1

-- a byte that was moved on, with c on top: its bits, counted from the top one
bit_later : (c x j : ℕ) → c < 2 → x < 256 → j < 7 → (128 * c + x / 2) / 2 ^ (7 - suc j) % 2 ≡ x / 2 ^ (7 - j) % 2
bit_later c x zero p q l = omega arith
bit_later c x (suc zero) p q l = omega arith
bit_later c x (suc (suc zero)) p q l = omega arith
bit_later c x (suc (suc (suc zero))) p q l = omega arith
bit_later c x (suc (suc (suc (suc zero)))) p q l = omega arith
bit_later c x (suc (suc (suc (suc (suc zero))))) p q l = omega arith
bit_later c x (suc (suc (suc (suc (suc (suc zero)))))) p q l = omega arith
bit_later c x (suc (suc (suc (suc (suc (suc (suc j))))))) p q l = absurd (omega arith)

-- byte k of a block that was moved on
moved_is : (b : List ℕ) → Block b → (k : ℕ) → k < 16 → (c : ℕ) × (c < 2) × (get_or (moved 0 b) k 0 ≡ 128 * c + get_or b k 0 / 2)
moved_is b p zero l = (0, lit< tt, moved_first 0 b (let n = p.long in omega arith))
moved_is b p (suc k) l = (get_or b k 0 % 2, omega arith, moved_later 0 b k (let n = p.long in omega arith))

moved_bit : (b : List ℕ) → Block b → (i : ℕ) → i < 128 → coefficient (moved 0 b) i ≡ before b i
moved_bit b p zero l =
    let n = p.long in
    let h = bytes_at b p.bytes 0 (omega arith) in
    let m = moved_first 0 b (omega arith) in
    rw m (omega arith)
moved_bit b p (suc i) l =
    let n = p.long in
    elim (cases_lt (i % 8) 7) [
      | inl less ↦ (
          let k : suc i / 8 ≡ i / 8 = omega arith in
          let j : suc i % 8 ≡ suc (i % 8) = omega arith in
          let h = bytes_at b p.bytes (i / 8) (omega arith) in
          let m = moved_is b p (i / 8) (omega arith) in
          rw (k, j, m.2) (bit_later m.0 (get_or b (i / 8) 0) (i % 8) m.1 h less)
          )
      | inr more ↦ (
          let k : suc i / 8 ≡ suc (i / 8) = omega arith in
          let j : suc i % 8 ≡ 0 = omega arith in
          let j' : i % 8 ≡ 7 = omega arith in
          let h = bytes_at b p.bytes (suc (i / 8)) (omega arith) in
          let m = moved_later 0 b (i / 8) (omega arith) in
          rw (k, j, j', m) (omega arith)
          )
    ]

-- E1 for the bit that falls out
wrapped : (x i : ℕ) → i < 8 → (0xE1 * (x % 2)) / 2 ^ (7 - i % 8) % 2 ≡ cond (i == 0 || i == 1 || i == 2 || i == 7) (x / 2 ^ 0 % 2) 0
wrapped x zero l = omega arith
wrapped x (suc zero) l = omega arith
wrapped x (suc (suc zero)) l = omega arith
wrapped x (suc (suc (suc zero))) l = omega arith
wrapped x (suc (suc (suc (suc zero)))) l = omega arith
wrapped x (suc (suc (suc (suc (suc zero))))) l = omega arith
wrapped x (suc (suc (suc (suc (suc (suc zero)))))) l = omega arith
wrapped x (suc (suc (suc (suc (suc (suc (suc zero))))))) l = omega arith
wrapped x (suc (suc (suc (suc (suc (suc (suc (suc i)))))))) l = absurd (omega arith)

later_none : (v k : ℕ) → get_or (v ∷ []) (suc k) 0 ≡ 0
later_none v k = refl

wrap_bit : (b : List ℕ) (i : ℕ) → coefficient ((0xE1 * (get_or b 15 0 % 2)) ∷ []) i ≡ cond (i == 0 || i == 1 || i == 2 || i == 7) (coefficient b 127) 0
wrap_bit b i =
    elim (cases_lt i 8) [
      | inl less ↦ (let k : i / 8 ≡ 0 = omega arith in rw k (wrapped (get_or b 15 0) i less))
      | inr more ↦ (
          let k : i / 8 ≡ suc (i / 8 - 1) = omega arith in
          let e0 = ne_eqb i 0 (λ q. omega arith) in
          let e1 = ne_eqb i 1 (λ q. omega arith) in
          let e2 = ne_eqb i 2 (λ q. omega arith) in
          let e7 = ne_eqb i 7 (λ q. omega arith) in
          rw (k, later_none (0xE1 * (get_or b 15 0 % 2)) (i / 8 - 1), e0, e1, e2, e7) (omega arith)
          )
    ]

pub by_x : DoubleLaw
unfolding double
by_x b p i l =
    let n = length_moved 0 b ∙ p.long in
    let v : List ℕ = (0xE1 * (get_or b 15 0 % 2)) ∷ [] in
    ap (λ x. x / 2 ^ (7 - i % 8) % 2) (get_or_xor (moved 0 b) v (i / 8) (omega arith))
    ∙ bit_sum (get_or (moved 0 b) (i / 8) 0) (get_or v (i / 8) 0) (7 - i % 8)
    ∙ ap₂ bit_xor (moved_bit b p i l) (wrap_bit b i)
