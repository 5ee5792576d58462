-- The words of the expansion: a word that was made stays, and four turns of the loop make the next round key.
use Rattle.std.proofs.Common.{◌≡◌, ℕ, zero, suc, ◌+◌, ◌-◌, ◌*◌, ◌/◌, ◌%◌, ◌<◌, ◌≤◌, Bool, false, cond, eqb, List, [], ◌∷◌, ◌++◌, length, get_or, sym, refl, ap, ◌∙◌, ap₂, inl, inr, eq-or-lt_of_le, arith, lit<, length-append}
use lib.Bits.{bit_xor, xor_zero_r}
use lib.ListN.{get_or-append}
use lib.Seq.{get_or_at}
use Rattle.aes.specs.State.{byte_at}
use Rattle.aes.specs.Expansion.{word, word_at, xor_word, rot_word, sub_word, power, rcon, temp, turn, expanded, round_key}
use Rattle.aes.specs.Grouping.{next_key}
use Rattle.aes.proofs.Blocks.{as_state}

temp_first : (j : ℕ) (t : List ℕ) → temp (4 * j + 4) t ≡ xor_word (sub_word (rot_word t)) (power j ∷ 0 ∷ 0 ∷ 0 ∷ [])
unfolding temp
temp_first j t =
    let e : (4 * j + 4) % 4 ≡ 0 = omega arith in
    let f : (4 * j + 4) / 4 - 1 ≡ j = omega arith in
    ap₂ (λ (m q : ℕ). cond (eqb m 0) (xor_word (sub_word (rot_word t)) (power q ∷ 0 ∷ 0 ∷ 0 ∷ [])) t) e f

temp_other : (i m : ℕ) (t : List ℕ) → i % 4 ≡ m → eqb m 0 ≡ false → temp i t ≡ t
unfolding temp
temp_other i m t e f =
    ap (λ (k : ℕ). cond (eqb k 0) (xor_word (sub_word (rot_word t)) (rcon (i / 4))) t) e
    ∙ ap (λ (b : Bool). cond b (xor_word (sub_word (rot_word t)) (rcon (i / 4))) t) f

-- a list of four numbers
abbrev IsWord : List ℕ → Type 0
IsWord a = (f : ℕ → ℕ) × (a ≡ word f)

next_words : (rc : ℕ) (a b c d e f g h : List ℕ) → IsWord a → IsWord b → IsWord c → IsWord d
    → e ≡ xor_word a (xor_word (sub_word (rot_word d)) (rc ∷ 0 ∷ 0 ∷ 0 ∷ [])) → f ≡ xor_word b e → g ≡ xor_word c f → h ≡ xor_word d g
    → e ++ f ++ g ++ h ≡ next_key rc (a ++ b ++ c ++ d)
unfolding next_key
next_words rc a b c d e f g h wa wb wc wd p q r s = rw (s, r, q, p, wa.1, wb.1, wc.1, wd.1) (simp xor_zero_r)

module _ (key : List ℕ) where
  count : (n : ℕ) → length (expanded key n) ≡ n + 4
  unfolding expanded
  count zero = refl
  count (suc n) = omega (arith, length-append (expanded key n) (turn (n + 4) (expanded key n) ∷ []), count n)

  kept_one : (n i : ℕ) → i < n + 4 → word_at (expanded key (suc n)) i ≡ word_at (expanded key n) i
  unfolding expanded
  kept_one n i h = get_or-append (expanded key n) (turn (n + 4) (expanded key n) ∷ []) [] i (omega (arith, count n))

  kept : (m n i : ℕ) → n ≤ m → i < n + 4 → word_at (expanded key m) i ≡ word_at (expanded key n) i
  kept zero n i l h = let e : n ≡ 0 = omega arith in ap (λ (k : ℕ). word_at (expanded key k) i) (sym e)
  kept (suc m) n i l h =
      elim (eq-or-lt_of_le l) [
        | inl e ↦ ap (λ (k : ℕ). word_at (expanded key k) i) (sym e)
        | inr p ↦ kept_one m i (omega arith) ∙ kept m n i (omega arith) h
      ]

  made : (n : ℕ) → word_at (expanded key (suc n)) (n + 4) ≡ turn (n + 4) (expanded key n)
  unfolding expanded
  made n = get_or_at (expanded key n) (turn (n + 4) (expanded key n)) [] [] (n + 4) (count n)

  -- w[i] of all 44 words
  w : ℕ → List ℕ
  w i = word_at (expanded key 40) i

  -- the loop, over all 44 words
  turned : (n : ℕ) → n < 40 → w (n + 4) ≡ xor_word (w n) (temp (n + 4) (w (n + 3)))
  unfolding turn w
  turned n h =
      let i4 : n + 4 - 4 ≡ n = omega arith in
      let i1 : n + 4 - 1 ≡ n + 3 = omega arith in
      kept 40 (suc n) (n + 4) h (omega arith)
      ∙ made n
      ∙ ap₂ (λ (a b : List ℕ). xor_word a (temp (n + 4) b))
      (ap (word_at (expanded key n)) i4 ∙ sym (kept 40 n n (omega arith) (omega arith)))
      (ap (word_at (expanded key n)) i1 ∙ sym (kept 40 n (n + 3) (omega arith) (omega arith)))

  first_words : (word_at (expanded key 0) 0 ≡ word (λ r. byte_at key r 0)) × (word_at (expanded key 0) 1 ≡ word (λ r. byte_at key r 1))
      × (word_at (expanded key 0) 2 ≡ word (λ r. byte_at key r 2)) × (word_at (expanded key 0) 3 ≡ word (λ r. byte_at key r 3))
  unfolding expanded
  first_words = (refl, refl, refl, refl)

  key_words : (w 0 ≡ word (λ r. byte_at key r 0)) × (w 1 ≡ word (λ r. byte_at key r 1))
      × (w 2 ≡ word (λ r. byte_at key r 2)) × (w 3 ≡ word (λ r. byte_at key r 3))
  unfolding w
  key_words = (
    kept 40 0 0 (omega arith) (lit< tt) ∙ first_words.0,
    kept 40 0 1 (omega arith) (lit< tt) ∙ first_words.1,
    kept 40 0 2 (omega arith) (lit< tt) ∙ first_words.2,
    kept 40 0 3 (omega arith) (lit< tt) ∙ first_words.3,
  )

  is_word : (i : ℕ) → i < 44 → IsWord (w i)
  is_word zero h = ((λ r. byte_at key r 0), key_words.0)
  is_word (suc zero) h = ((λ r. byte_at key r 1), key_words.1)
  is_word (suc (suc zero)) h = ((λ r. byte_at key r 2), key_words.2)
  is_word (suc (suc (suc zero))) h = ((λ r. byte_at key r 3), key_words.3)
  is_word (suc (suc (suc (suc n)))) h =
      let e : suc (suc (suc (suc n))) ≡ n + 4 = omega arith in
      ((λ r. bit_xor (get_or (w n) r 0) (get_or (temp (n + 4) (w (n + 3))) r 0)), ap w e ∙ turned n (omega arith))

  other : (n m : ℕ) → n < 40 → n % 4 ≡ m → eqb m 0 ≡ false → w (n + 4) ≡ xor_word (w n) (w (n + 3))
  other n m h e f = turned n h ∙ ap (xor_word (w n)) (temp_other (n + 4) m (w (n + 3)) (omega arith) f)

  -- round key j
  unfoldable pub expanded_at : ℕ → List ℕ
  expanded_at j = round_key (expanded key 40) j

  pub key_first : length key ≡ 16 → expanded_at 0 ≡ key
  unfolding expanded_at w
  key_first e = rw (key_words.0, key_words.1, key_words.2, key_words.3) (sym (as_state key e))

  pub key_next : (j : ℕ) → j < 10 → expanded_at (suc j) ≡ next_key (power j) (expanded_at j)
  unfolding expanded_at w
  key_next j h =
      let i0 : 4 * suc j ≡ 4 * j + 4 = omega arith in
      let i1 : 4 * suc j + 1 ≡ 4 * j + 1 + 4 = omega arith in
      let i2 : 4 * suc j + 2 ≡ 4 * j + 2 + 4 = omega arith in
      let i3 : 4 * suc j + 3 ≡ 4 * j + 3 + 4 = omega arith in
      let p1 : 4 * j + 1 + 3 ≡ 4 * suc j = omega arith in
      let p2 : 4 * j + 2 + 3 ≡ 4 * suc j + 1 = omega arith in
      let p3 : 4 * j + 3 + 3 ≡ 4 * suc j + 2 = omega arith in
      next_words (power j) (w (4 * j)) (w (4 * j + 1)) (w (4 * j + 2)) (w (4 * j + 3)) (w (4 * suc j)) (w (4 * suc j + 1)) (w (4 * suc j + 2)) (w (4 * suc j + 3))
      (is_word (4 * j) (omega arith))
      (is_word (4 * j + 1) (omega arith))
      (is_word (4 * j + 2) (omega arith))
      (is_word (4 * j + 3) (omega arith))
      (ap w i0 ∙ turned (4 * j) (omega arith) ∙ ap (xor_word (w (4 * j))) (temp_first j (w (4 * j + 3))))
      (ap w i1 ∙ other (4 * j + 1) 1 (omega arith) (omega arith) refl ∙ ap (λ (k : ℕ). xor_word (w (4 * j + 1)) (w k)) p1)
      (ap w i2 ∙ other (4 * j + 2) 2 (omega arith) (omega arith) refl ∙ ap (λ (k : ℕ). xor_word (w (4 * j + 2)) (w k)) p2)
      (ap w i3 ∙ other (4 * j + 3) 3 (omega arith) (omega arith) refl ∙ ap (λ (k : ℕ). xor_word (w (4 * j + 3)) (w k)) p3)
