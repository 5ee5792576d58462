-- The rounds take blocks to blocks, and are undone, both ways round; so both forms permute the blocks.
use Rattle.std.proofs.Common.{◌≡◌, ℕ, zero, suc, ◌<◌, List, sym, refl, ap, ◌∙◌, subst, arith, lit<}
use Rattle.block.specs.Bytes.{Block}
use Rattle.block.specs.Permutes.{Permutes}
use Rattle.aes.specs.State.{sub_bytes, inv_sub_bytes, shift_rows, inv_shift_rows, mix_columns, inv_mix_columns, add_round_key}
use Rattle.aes.specs.Cipher.{IsSchedule, key_at, round, rounds, cipher, inv_cipher, cipher4, inv_cipher4}
use Rattle.aes.specs.Grouping.{unround, unrounds}
use Rattle.aes.proofs.Inverses.{sub_block, unsub_block, shift_block, unshift_block, mix_block, unmix_block, add_block, unsub_sub_bytes, sub_unsub_bytes, unshift_shift, shift_unshift, unmix_mix, mix_unmix, add_add}
use Rattle.aes.proofs.Rounds.{ten_back, four_back}

round_block : (k s : List ℕ) → Block k → Block (round k s)
round_block k s bk = add_block k _ bk (mix_block _ (shift_block _ (sub_block s)))

unround_block : (s : List ℕ) → Block (unround s)
unround_block s = unsub_block _

round_undone : (k s : List ℕ) → Block k → Block s → unround (add_round_key k (round k s)) ≡ s
round_undone k s bk b =
    let b1 = sub_block s in
    let b2 = shift_block _ b1 in
    let b3 = mix_block _ b2 in
    ap unround (add_add k (mix_columns (shift_rows (sub_bytes s))) b3)
    ∙ ap (λ (y : List ℕ). inv_sub_bytes (inv_shift_rows y)) (unmix_mix (shift_rows (sub_bytes s)) b2)
    ∙ ap inv_sub_bytes (unshift_shift (sub_bytes s) b1)
    ∙ unsub_sub_bytes s b

unround_undone : (k s : List ℕ) → Block k → Block s → round k (unround (add_round_key k s)) ≡ s
unround_undone k s bk b =
    let b1 = add_block k s bk b in
    let b2 = unmix_block _ b1 in
    let b3 = unshift_block _ b2 in
    ap (λ (y : List ℕ). add_round_key k (mix_columns (shift_rows y))) (sub_unsub_bytes (inv_shift_rows (inv_mix_columns (add_round_key k s))) b3)
    ∙ ap (λ (y : List ℕ). add_round_key k (mix_columns y)) (shift_unshift (inv_mix_columns (add_round_key k s)) b2)
    ∙ ap (add_round_key k) (mix_unmix (add_round_key k s) b1)
    ∙ add_add k s b

module _ (ks : List (List ℕ)) (keys : IsSchedule ks) where
  key_block : (i : ℕ) → i < 11 → Block (key_at ks i)
  key_block i h = keys.each i h

  pub rounds_block : (n : ℕ) → n < 11 → (s : List ℕ) → Block s → Block (rounds ks n s)
  unfolding rounds
  rounds_block zero h s b = b
  rounds_block (suc n) h s b = round_block (key_at ks (suc n)) (rounds ks n s) (key_block (suc n) h)

  unrounds_block : (n : ℕ) → n < 11 → (s : List ℕ) → Block s → Block (unrounds ks n s)
  unfolding unrounds
  unrounds_block zero h s b = b
  unrounds_block (suc n) h s b = unrounds_block n (omega arith) (unround (add_round_key (key_at ks (suc n)) s)) (unround_block _)

  rounds_undone : (n : ℕ) → n < 11 → (s : List ℕ) → Block s → unrounds ks n (rounds ks n s) ≡ s
  unfolding rounds unrounds
  rounds_undone zero h s b = refl
  rounds_undone (suc n) h s b =
      let p : n < 11 = omega arith in
      ap (unrounds ks n) (round_undone (key_at ks (suc n)) (rounds ks n s) (key_block (suc n) h) (rounds_block n p s b)) ∙ rounds_undone n p s b

  unrounds_undone : (n : ℕ) → n < 11 → (s : List ℕ) → Block s → rounds ks n (unrounds ks n s) ≡ s
  unfolding rounds unrounds
  unrounds_undone zero h s b = refl
  unrounds_undone (suc n) h s b =
      let p : n < 11 = omega arith in
      ap (round (key_at ks (suc n))) (unrounds_undone n p (unround (add_round_key (key_at ks (suc n)) s)) (unround_block _))
      ∙ unround_undone (key_at ks (suc n)) s (key_block (suc n) h) b

  first : Block (key_at ks 0)
  first = key_block 0 (lit< tt)

  last : Block (key_at ks 10)
  last = key_block 10 (lit< tt)

  cipher_block : (x : List ℕ) → Block (cipher ks x)
  unfolding cipher
  cipher_block x = add_block (key_at ks 10) _ last (shift_block _ (sub_block _))

  decipher_block : (y : List ℕ) → Block (inv_cipher ks y)
  decipher_block y = subst Block (sym (ten_back ks y)) (add_block (key_at ks 0) _ first (unrounds_block 9 (lit< tt) _ (unsub_block _)))

  cipher_undone : (x : List ℕ) → Block x → inv_cipher ks (cipher ks x) ≡ x
  unfolding cipher
  cipher_undone x b =
      let b0 = add_block (key_at ks 0) x first b in
      let b1 = rounds_block 9 (lit< tt) (add_round_key (key_at ks 0) x) b0 in
      let b2 = sub_block _ in
      let b3 = shift_block _ b2 in
      let back : List ℕ → List ℕ = λ y. add_round_key (key_at ks 0) (unrounds ks 9 y) in
      ten_back ks _
      ∙ ap (λ (y : List ℕ). back (inv_sub_bytes (inv_shift_rows y))) (add_add (key_at ks 10) _ b3)
      ∙ ap (λ (y : List ℕ). back (inv_sub_bytes y)) (unshift_shift _ b2)
      ∙ ap back (unsub_sub_bytes _ b1)
      ∙ ap (add_round_key (key_at ks 0)) (rounds_undone 9 (lit< tt) _ b0)
      ∙ add_add (key_at ks 0) x b

  decipher_undone : (y : List ℕ) → Block y → cipher ks (inv_cipher ks y) ≡ y
  unfolding cipher
  decipher_undone y b =
      let b0 = add_block (key_at ks 10) y last b in
      let b1 = unshift_block _ b0 in
      let b2 = unsub_block (inv_shift_rows (add_round_key (key_at ks 10) y)) in
      let b3 = unrounds_block 9 (lit< tt) _ b2 in
      let on : List ℕ → List ℕ = λ s. add_round_key (key_at ks 10) (shift_rows (sub_bytes s)) in
      ap (λ (x : List ℕ). on (rounds ks 9 (add_round_key (key_at ks 0) x))) (ten_back ks y)
      ∙ ap (λ (s : List ℕ). on (rounds ks 9 s)) (add_add (key_at ks 0) _ b3)
      ∙ ap on (unrounds_undone 9 (lit< tt) _ b2)
      ∙ ap (λ (s : List ℕ). add_round_key (key_at ks 10) (shift_rows s)) (sub_unsub_bytes _ b1)
      ∙ ap (add_round_key (key_at ks 10)) (shift_unshift _ b0)
      ∙ add_add (key_at ks 10) y b

  pub cipher_permutes : Permutes (cipher ks) (inv_cipher ks)
  cipher_permutes = record {
    dec_enc = cipher_undone;
    enc_dec = decipher_undone;
    enc_block = λ x _. cipher_block x;
    dec_block = λ y _. decipher_block y;
  }

  pub cipher4_permutes : Permutes (cipher4 ks) (inv_cipher4 ks)
  unfolding cipher4
  cipher4_permutes = record {
    dec_enc =
        λ x b.
        four_back ks _
        ∙ ap (add_round_key (key_at ks 0)) (rounds_undone 4 (lit< tt) _ (add_block (key_at ks 0) x first b))
        ∙ add_add (key_at ks 0) x b;
    enc_dec =
        λ y b.
        ap (λ (x : List ℕ). rounds ks 4 (add_round_key (key_at ks 0) x)) (four_back ks y)
        ∙ ap (rounds ks 4) (add_add (key_at ks 0) _ (unrounds_block 4 (lit< tt) y b))
        ∙ unrounds_undone 4 (lit< tt) y b;
    enc_block = λ x b. rounds_block 4 (lit< tt) _ (add_block (key_at ks 0) x first b);
    dec_block = λ y b. subst Block (sym (four_back ks y)) (add_block (key_at ks 0) _ first (unrounds_block 4 (lit< tt) y b));
  }
