-- A rotation exchanges the high and the low part of a word, and so the one back undoes it.
use Rattle.std.proofs.Common.{◌≡◌, ℕ, ◌+◌, ◌-◌, ◌*◌, ◌/◌, ◌%◌, ◌^◌, ◌<◌, bit_or, sym, ap, ap₂, ◌∙◌, subst, arith}
use Rattle.std.specs.Int.{w64, rotate_left, rotate_right}
use Rattle.std.proofs.lemmas.Nat.{or_comm, or_shifted, pow-add, mod-pow-add, shl-shr, mod_low, shr_high, shr_below, shr_split, mod_below, mul-add-lt, pow_pos}

-- x with its low b bits in front of its a high ones
exchanged : ℕ → ℕ → ℕ → ℕ
exchanged a b x = x % 2 ^ b * 2 ^ a + x / 2 ^ b

shifted : (a b x : ℕ) → (x * 2 ^ a) % 2 ^ (b + a) ≡ x % 2 ^ b * 2 ^ a
shifted a b x =
    let low : (x * 2 ^ a) % 2 ^ a ≡ 0 = ap (λ n. n % 2 ^ a) (omega arith) ∙ mod_low x a 0 (pow_pos a) in
    mod-pow-add (x * 2 ^ a) b a ∙ ap₂ (λ m n. m % 2 ^ b * 2 ^ a + n) (shl-shr x a) low ∙ omega arith

-- a word as its two parts
one_word : (a b x : ℕ) → a + b ≡ 64 → x < 2 ^ 64 → x < 2 ^ (a + b)
one_word a b x e l = subst (λ c. x < 2 ^ c) (sym e) l

turned : (a b x : ℕ) → a + b ≡ 64 → x < 2 ^ 64 → bit_or ((x * 2 ^ a) % 2 ^ 64) (x / 2 ^ b) ≡ exchanged a b x
unfolding exchanged
turned a b x e l =
    let c : b + a ≡ 64 = omega arith in
    let s : (x * 2 ^ a) % 2 ^ 64 ≡ x % 2 ^ b * 2 ^ a = subst (λ c. (x * 2 ^ a) % 2 ^ c ≡ x % 2 ^ b * 2 ^ a) c (shifted a b x) in
    ap (λ n. bit_or n (x / 2 ^ b)) s ∙ or_shifted (x % 2 ^ b) a (x / 2 ^ b) (shr_below x a b (one_word a b x e l))

twice : (a b x : ℕ) → a + b ≡ 64 → x < 2 ^ 64 → exchanged b a (exchanged a b x) ≡ x
unfolding exchanged
twice a b x e l =
    let h = shr_below x a b (one_word a b x e l) in
    ap₂ (λ m n. m * 2 ^ b + n) (mod_low (x % 2 ^ b) a (x / 2 ^ b) h) (shr_high (x % 2 ^ b) a (x / 2 ^ b) h) ∙ shr_split x b

within : (a b x : ℕ) → a + b ≡ 64 → x < 2 ^ 64 → exchanged a b x < 2 ^ 64
unfolding exchanged
within a b x e l =
    subst (λ n. x % 2 ^ b * 2 ^ a + x / 2 ^ b < n) (sym (pow-add 2 a b) ∙ ap (λ c. 2 ^ c) e)
    (mul-add-lt (x % 2 ^ b) (2 ^ a) (x / 2 ^ b) (2 ^ b) (mod_below x (2 ^ b) (pow_pos b)) (shr_below x a b (one_word a b x e l)))

-- Rotations by n bits, fewer than a word has, and not none.
module _ (n : ℕ) (p : 0 < n) (h : n < 64) where
  left : (x : ℕ) → x < 2 ^ 64 → rotate_left w64 x n ≡ exchanged n (64 - n) x
  left x l =
      let i : n % 64 ≡ n = omega arith in
      let j : (64 - n % 64) % 64 ≡ 64 - n = omega arith in
      ap₂ (λ i j. bit_or ((x * 2 ^ i) % 2 ^ 64) (x / 2 ^ j)) i j ∙ turned n (64 - n) x (omega arith) l

  right : (x : ℕ) → x < 2 ^ 64 → rotate_right w64 x n ≡ exchanged (64 - n) n x
  right x l =
      let i : n % 64 ≡ n = omega arith in
      let j : (64 - n % 64) % 64 ≡ 64 - n = omega arith in
      ap₂ (λ i j. bit_or (x / 2 ^ i) ((x * 2 ^ j) % 2 ^ 64)) i j
      ∙ or_comm (x / 2 ^ n) ((x * 2 ^ (64 - n)) % 2 ^ 64) ∙ turned (64 - n) n x (omega arith) l

  pub left_below : (x : ℕ) → x < 2 ^ 64 → rotate_left w64 x n < 2 ^ 64
  left_below x l = subst (λ y. y < 2 ^ 64) (sym (left x l)) (within n (64 - n) x (omega arith) l)

  pub right_below : (x : ℕ) → x < 2 ^ 64 → rotate_right w64 x n < 2 ^ 64
  right_below x l = subst (λ y. y < 2 ^ 64) (sym (right x l)) (within (64 - n) n x (omega arith) l)

  pub left_right : (x : ℕ) → x < 2 ^ 64 → rotate_left w64 (rotate_right w64 x n) n ≡ x
  left_right x l = left (rotate_right w64 x n) (right_below x l) ∙ ap (exchanged n (64 - n)) (right x l) ∙ twice (64 - n) n x (omega arith) l

  pub right_left : (x : ℕ) → x < 2 ^ 64 → rotate_right w64 (rotate_left w64 x n) n ≡ x
  right_left x l = right (rotate_left w64 x n) (left_below x l) ∙ ap (exchanged (64 - n) n) (left x l) ∙ twice n (64 - n) x (omega arith) l
