-- One round more, as the loops count, and InvCipher in the groups of the code.
use Rattle.std.proofs.Common.{◌≡◌, ℕ, zero, suc, ◌+◌, ◌-◌, ◌<◌, ◌≤◌, List, [], ◌∷◌, ◌++◌, length, get_or, take, drop, refl, sym, ap, ◌∙◌, arith, not-suc-le-zero, add-one, sub-one, length-append}
use Rattle.std.proofs.lemmas.List.{get_or-drop, get_or-take, get_or-append-add, take_at, take-take}
use Rattle.aes.specs.State.{add_round_key, inv_mix_columns, inv_shift_rows, inv_sub_bytes}
use Rattle.aes.specs.Cipher.{key_at, round, rounds, inv_round, inv_rounds, inv_cipher, inv_cipher4}
use Rattle.aes.specs.Grouping.{unround, unrounds}

pub rounds_none : (ks : List (List ℕ)) (s : List ℕ) → rounds ks 0 s ≡ s
unfolding rounds
rounds_none ks s = refl

pub rounds_more : (ks : List (List ℕ)) (n : ℕ) (s : List ℕ) → rounds ks (n + 1) s ≡ round (key_at ks (n + 1)) (rounds ks n s)
unfolding rounds
rounds_more ks n s = rw add-one

pub unrounds_none : (ks : List (List ℕ)) (s : List ℕ) → unrounds ks 0 s ≡ s
unfolding unrounds
unrounds_none ks s = refl

-- one round back, from n to n - 1
pub unrounds_less : (ks : List (List ℕ)) (n : ℕ) (s : List ℕ) → 0 < n
    → unrounds ks n s ≡ unrounds ks (n - 1) (unround (add_round_key (key_at ks (n - 1 + 1)) s))
unfolding unrounds
unrounds_less ks zero s h = absurd (not-suc-le-zero h)
unrounds_less ks (suc n) s h = rw (sub-one, add-one)

-- the round keys from 1 on, as the loops go over them
pub key_after : (ks : List (List ℕ)) (n i : ℕ) → i < n → get_or (take n (drop 1 ks)) i [] ≡ key_at ks (i + 1)
key_after ks n i h = get_or-take n (drop 1 ks) i [] h ∙ get_or-drop 1 ks i [] ∙ ap (key_at ks) (omega arith)

-- the last of them taken away
module _ (ks xs ys : List (List ℕ)) (k : List ℕ) (e : xs ≡ ys ++ k ∷ []) (l : xs ≡ take (length xs) (drop 1 ks)) where
  pub longer : length xs ≡ length ys + 1
  longer = ap length e ∙ length-append ys (k ∷ [])

  pub left : ys ≡ take (length ys) (drop 1 ks)
  left = sym (take_at ys (k ∷ []) (length ys) refl) ∙ ap (take (length ys)) (sym e ∙ l) ∙ take-take (length ys) (length xs) (drop 1 ks) (omega (arith, longer))

  pub last : k ≡ key_at ks (length ys + 1)
  last = sym (get_or-append-add ys (k ∷ []) 0 []) ∙ ap (λ n. get_or (ys ++ k ∷ []) n []) (omega arith) ∙ ap (λ z. get_or z (length ys) []) (sym e ∙ l) ∙ key_after ks (length xs) (length ys) (omega (arith, longer))

  pub fewer : (n : ℕ) → length xs ≤ n → length ys ≤ n
  fewer n h = omega (arith, longer)

  pub back : (s t u : List ℕ) → t ≡ add_round_key k s → u ≡ unround t → unrounds ks (length ys) u ≡ unrounds ks (length xs) s
  back s t u te ue =
      let m : length xs - 1 ≡ length ys = omega (arith, longer) in
      let o : length xs - 1 + 1 ≡ length ys + 1 = omega (arith, longer) in
      sym (unrounds_less ks (length xs) s (omega (arith, longer)) ∙ ap (λ i. unrounds ks i (unround (add_round_key (key_at ks (length xs - 1 + 1)) s))) m ∙ ap (λ i. unrounds ks (length ys) (unround (add_round_key (key_at ks i) s))) o ∙ ap (λ x. unrounds ks (length ys) (unround (add_round_key x s))) (sym last) ∙ ap (λ x. unrounds ks (length ys) (unround x)) (sym te) ∙ ap (unrounds ks (length ys)) (sym ue))

-- the rounds of InvCipher and what follows them
regrouped : (ks : List (List ℕ)) (n : ℕ) (s : List ℕ)
    → inv_sub_bytes (inv_shift_rows (inv_rounds ks n s)) ≡ unrounds ks n (inv_sub_bytes (inv_shift_rows s))
unfolding inv_rounds unrounds
regrouped ks zero s = refl
regrouped ks (suc n) s = regrouped ks n (inv_round (key_at ks (suc n)) s)

pub ten_back : (ks : List (List ℕ)) (y : List ℕ)
    → inv_cipher ks y ≡ add_round_key (key_at ks 0) (unrounds ks 9 (inv_sub_bytes (inv_shift_rows (add_round_key (key_at ks 10) y))))
unfolding inv_cipher
ten_back ks y = ap (add_round_key (key_at ks 0)) (regrouped ks 9 (add_round_key (key_at ks 10) y))

pub four_back : (ks : List (List ℕ)) (y : List ℕ) → inv_cipher4 ks y ≡ add_round_key (key_at ks 0) (unrounds ks 4 y)
unfolding inv_cipher4 unrounds
four_back ks y = ap (add_round_key (key_at ks 0)) (regrouped ks 3 (inv_mix_columns (add_round_key (key_at ks 4) y)))
