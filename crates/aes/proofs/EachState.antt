-- From one byte to the sixteen of a state: what the steps on vectors make of a whole state. A permute with constant places picks list elements, so
-- each of the sixteen bytes of a round is one instance of what `EachByte` says of a row.
use Rattle.std.proofs.Common.{◌≡◌, ℕ, ◌+◌, ◌*◌, ◌<◌, List, ◌++◌, map, replicate, bit_xor, refl, sym, ap, ap₂, ◌∙◌}
use lib.Lanes.{zip2, pick_l}
use Rattle.field.specs.Substitution.{sub, unsub}
use Rattle.field.specs.Columns.{dot, mixed, unmixed}
use Rattle.field.proofs.Columns.{dot_turn}
use Rattle.aes.specs.State.{byte_at, state, add_round_key, sub_bytes, shift_rows, mix_columns, inv_sub_bytes, inv_shift_rows, inv_mix_columns}
use Rattle.block.specs.Bytes.{Block}
use Rattle.aes.specs.Cipher.{round}
use Rattle.aes.proofs.Blocks.{as_state, byte_lt, cons_of, state_of}
use Rattle.aes.specs.declared.tables.TheConstants.{AFFINE_CONSTANT, DOUBLED_IN_TOWER, OUT_OF_TOWER, SUBSTITUTED, SUBSTITUTED_IN_TOWER, UNAFFINE_9, UNAFFINE_11, UNAFFINE_13, UNAFFINE_14, UNAFFINE_CONSTANT, UNSUBSTITUTED_9, UNSUBSTITUTED_11, UNSUBSTITUTED_13, UNSUBSTITUTED_14, SHIFTED_SAME_ROW, SHIFTED_NEXT_ROW, SHIFTED_SECOND_ROW, SHIFTED_THIRD_ROW, UNSHIFTED_SAME_ROW, UNSHIFTED_NEXT_ROW, UNSHIFTED_SECOND_ROW, UNSHIFTED_THIRD_ROW}
use Rattle.aes.specs.Tower.{by_halves, by_inverse, in_tower, key_in_tower, unaffine_in_tower, unmixed_in_tower}
use Rattle.aes.proofs.Lanes.{IsBlock, lane_fits}
use Rattle.aes.proofs.EachByte.{substituted_in_tower, doubled_in_tower, unsubstituted, left_at, substituted_at, unsubstituted_at, mixed_at, unmixed_at, unround_at}

-- a byte of a round, as it is summed, and as it should be in row r
abbrev mixed_sum : ℕ → ℕ → ℕ → ℕ → ℕ → ℕ
mixed_sum a b c d k = bit_xor (bit_xor (bit_xor (doubled_in_tower a) (bit_xor (substituted_in_tower b) (doubled_in_tower b))) (bit_xor (substituted_in_tower c) (substituted_in_tower d))) (key_in_tower k)

abbrev round_byte : ℕ → ℕ → ℕ → ℕ → ℕ → ℕ → ℕ
round_byte r a b c d k = in_tower (bit_xor (mixed r (sub a) (sub b) (sub c) (sub d)) k)

-- a byte of an unmixed column, as it is summed
abbrev unmixed_sum : ℕ → ℕ → ℕ → ℕ → ℕ
unmixed_sum a b c d = bit_xor (bit_xor (bit_xor (by_halves UNAFFINE_14 a) (by_halves UNAFFINE_11 b)) (bit_xor (by_halves UNAFFINE_13 c) (by_halves UNAFFINE_9 d))) UNAFFINE_CONSTANT

-- a byte of a round undone, as it is summed
abbrev undone_sum : ℕ → ℕ → ℕ → ℕ → ℕ → ℕ
undone_sum a b c d k = bit_xor (bit_xor (bit_xor (by_inverse UNSUBSTITUTED_14 (unaffine_in_tower a)) (by_inverse UNSUBSTITUTED_11 (unaffine_in_tower b))) (bit_xor (by_inverse UNSUBSTITUTED_13 (unaffine_in_tower c)) (by_inverse UNSUBSTITUTED_9 (unaffine_in_tower d)))) k

module _ (a b c d k : ℕ) (ha : a < 256) (hb : b < 256) (hc : c < 256) (hd : d < 256) (hk : k < 256) where
  row0 : mixed_sum a b c d k ≡ round_byte 0 a b c d k
  row0 = mixed_at a b c d k ha hb hc hd hk

  row1 : mixed_sum b c d a k ≡ round_byte 1 a b c d k
  row1 = mixed_at b c d a k hb hc hd ha hk ∙ ap (λ (x : ℕ). in_tower (bit_xor x k)) (sym (dot_turn 1 2 3 1 (sub a) (sub b) (sub c) (sub d)))

  row2 : mixed_sum c d a b k ≡ round_byte 2 a b c d k
  row2 = mixed_at c d a b k hc hd ha hb hk ∙ ap (λ (x : ℕ). in_tower (bit_xor x k)) (sym (dot_turn 1 1 2 3 (sub a) (sub b) (sub c) (sub d) ∙ dot_turn 1 2 3 1 (sub b) (sub c) (sub d) (sub a)))

  row3 : mixed_sum d a b c k ≡ round_byte 3 a b c d k
  row3 = mixed_at d a b c k hd ha hb hc hk ∙ ap (λ (x : ℕ). in_tower (bit_xor x k)) (sym (dot_turn 3 1 1 2 (sub a) (sub b) (sub c) (sub d) ∙ dot_turn 1 1 2 3 (sub b) (sub c) (sub d) (sub a) ∙ dot_turn 1 2 3 1 (sub c) (sub d) (sub a) (sub b)))

module _ (a b c d : ℕ) (ha : a < 256) (hb : b < 256) (hc : c < 256) (hd : d < 256) where
  unrow0 : unmixed_sum a b c d ≡ unaffine_in_tower (unmixed 0 a b c d)
  unrow0 = unmixed_at a b c d ha hb hc hd

  turn1 : unmixed 1 a b c d ≡ dot 14 11 13 9 b c d a
  turn1 = dot_turn 9 14 11 13 a b c d

  unrow1 : unmixed_sum b c d a ≡ unaffine_in_tower (unmixed 1 a b c d)
  unrow1 = unmixed_at b c d a hb hc hd ha ∙ ap unaffine_in_tower (sym turn1)

  turn2 : unmixed 2 a b c d ≡ dot 14 11 13 9 c d a b
  turn2 = dot_turn 13 9 14 11 a b c d ∙ dot_turn 9 14 11 13 b c d a

  unrow2 : unmixed_sum c d a b ≡ unaffine_in_tower (unmixed 2 a b c d)
  unrow2 = unmixed_at c d a b hc hd ha hb ∙ ap unaffine_in_tower (sym turn2)

  turn3 : unmixed 3 a b c d ≡ dot 14 11 13 9 d a b c
  turn3 = dot_turn 11 13 9 14 a b c d ∙ dot_turn 13 9 14 11 b c d a ∙ dot_turn 9 14 11 13 c d a b

  unrow3 : unmixed_sum d a b c ≡ unaffine_in_tower (unmixed 3 a b c d)
  unrow3 = unmixed_at d a b c hd ha hb hc ∙ ap unaffine_in_tower (sym turn3)

module _ (a b c d e f g h : ℕ) (ha : a < 256) (hb : b < 256) (hc : c < 256) (hd : d < 256) (he : e < 256) (hf : f < 256) (hg : g < 256) (hh : h < 256) where
  -- ... and as it should be in row r
  abbrev undone_byte : ℕ → ℕ
  undone_byte r = unaffine_in_tower (unmixed r (bit_xor (unsub a) e) (bit_xor (unsub b) f) (bit_xor (unsub c) g) (bit_xor (unsub d) h))

  undone0 : undone_sum a b c d (unaffine_in_tower (unmixed 0 e f g h)) ≡ undone_byte 0
  undone0 = unround_at a b c d e f g h ha hb hc hd he hf hg hh

  undone1 : undone_sum b c d a (unaffine_in_tower (unmixed 1 e f g h)) ≡ undone_byte 1
  undone1 = ap (λ (x : ℕ). undone_sum b c d a (unaffine_in_tower x)) (dot_turn 9 14 11 13 e f g h) ∙ unround_at b c d a f g h e hb hc hd ha hf hg hh he ∙ ap unaffine_in_tower (sym (dot_turn 9 14 11 13 (bit_xor (unsub a) e) (bit_xor (unsub b) f) (bit_xor (unsub c) g) (bit_xor (unsub d) h)))

  undone2 : undone_sum c d a b (unaffine_in_tower (unmixed 2 e f g h)) ≡ undone_byte 2
  undone2 = ap (λ (x : ℕ). undone_sum c d a b (unaffine_in_tower x)) (dot_turn 13 9 14 11 e f g h ∙ dot_turn 9 14 11 13 f g h e) ∙ unround_at c d a b g h e f hc hd ha hb hg hh he hf ∙ ap unaffine_in_tower (sym (dot_turn 13 9 14 11 (bit_xor (unsub a) e) (bit_xor (unsub b) f) (bit_xor (unsub c) g) (bit_xor (unsub d) h) ∙ dot_turn 9 14 11 13 (bit_xor (unsub b) f) (bit_xor (unsub c) g) (bit_xor (unsub d) h) (bit_xor (unsub a) e)))

  undone3 : undone_sum d a b c (unaffine_in_tower (unmixed 3 e f g h)) ≡ undone_byte 3
  undone3 = ap (λ (x : ℕ). undone_sum d a b c (unaffine_in_tower x)) (dot_turn 11 13 9 14 e f g h ∙ dot_turn 13 9 14 11 f g h e ∙ dot_turn 9 14 11 13 g h e f) ∙ unround_at d a b c h e f g hd ha hb hc hh he hf hg ∙ ap unaffine_in_tower (sym (dot_turn 11 13 9 14 (bit_xor (unsub a) e) (bit_xor (unsub b) f) (bit_xor (unsub c) g) (bit_xor (unsub d) h) ∙ dot_turn 13 9 14 11 (bit_xor (unsub b) f) (bit_xor (unsub c) g) (bit_xor (unsub d) h) (bit_xor (unsub a) e) ∙ dot_turn 9 14 11 13 (bit_xor (unsub c) g) (bit_xor (unsub d) h) (bit_xor (unsub a) e) (bit_xor (unsub b) f)))

-- the sums of `round_in_tower`, of the substituted bytes a, their doubles b and the round key k
abbrev pub mixing : (a b k : List ℕ) → List ℕ
mixing a b k = zip2 bit_xor (zip2 bit_xor (zip2 bit_xor (pick_l 0 (b ++ b) SHIFTED_SAME_ROW) (pick_l 0 (zip2 bit_xor a b ++ zip2 bit_xor a b) SHIFTED_NEXT_ROW)) (zip2 bit_xor (pick_l 0 (a ++ a) SHIFTED_SECOND_ROW) (pick_l 0 (a ++ a) SHIFTED_THIRD_ROW))) k

-- the sums of `unmix` and `undo_round_in_tower`, of 14, 11, 13 and 9 times the bytes and of k
abbrev pub unmixing : (a b c d k : List ℕ) → List ℕ
unmixing a b c d k = zip2 bit_xor (zip2 bit_xor (zip2 bit_xor (pick_l 0 (a ++ a) UNSHIFTED_SAME_ROW) (pick_l 0 (b ++ b) UNSHIFTED_NEXT_ROW)) (zip2 bit_xor (pick_l 0 (c ++ c) UNSHIFTED_SECOND_ROW) (pick_l 0 (d ++ d) UNSHIFTED_THIRD_ROW))) k

module _ (f g : ℕ → ℕ → ℕ) (hf : (r c : ℕ) → f r c < 256) (hg : (r c : ℕ) → g r c < 256) where
  mixing_of : mixing (map (by_inverse SUBSTITUTED_IN_TOWER) (map in_tower (state f))) (map (by_inverse DOUBLED_IN_TOWER) (map in_tower (state f))) (map key_in_tower (state g)) ≡ map in_tower (round (state g) (state f))
  unfolding sub_bytes shift_rows mix_columns add_round_key
  mixing_of =
      cons_of (row0 (f 0 0) (f 1 1) (f 2 2) (f 3 3) (g 0 0) (hf 0 0) (hf 1 1) (hf 2 2) (hf 3 3) (hg 0 0))
      (cons_of (row1 (f 0 0) (f 1 1) (f 2 2) (f 3 3) (g 1 0) (hf 0 0) (hf 1 1) (hf 2 2) (hf 3 3) (hg 1 0))
      (cons_of (row2 (f 0 0) (f 1 1) (f 2 2) (f 3 3) (g 2 0) (hf 0 0) (hf 1 1) (hf 2 2) (hf 3 3) (hg 2 0))
      (cons_of (row3 (f 0 0) (f 1 1) (f 2 2) (f 3 3) (g 3 0) (hf 0 0) (hf 1 1) (hf 2 2) (hf 3 3) (hg 3 0))
      (cons_of (row0 (f 0 1) (f 1 2) (f 2 3) (f 3 0) (g 0 1) (hf 0 1) (hf 1 2) (hf 2 3) (hf 3 0) (hg 0 1))
      (cons_of (row1 (f 0 1) (f 1 2) (f 2 3) (f 3 0) (g 1 1) (hf 0 1) (hf 1 2) (hf 2 3) (hf 3 0) (hg 1 1))
      (cons_of (row2 (f 0 1) (f 1 2) (f 2 3) (f 3 0) (g 2 1) (hf 0 1) (hf 1 2) (hf 2 3) (hf 3 0) (hg 2 1))
      (cons_of (row3 (f 0 1) (f 1 2) (f 2 3) (f 3 0) (g 3 1) (hf 0 1) (hf 1 2) (hf 2 3) (hf 3 0) (hg 3 1))
      (cons_of (row0 (f 0 2) (f 1 3) (f 2 0) (f 3 1) (g 0 2) (hf 0 2) (hf 1 3) (hf 2 0) (hf 3 1) (hg 0 2))
      (cons_of (row1 (f 0 2) (f 1 3) (f 2 0) (f 3 1) (g 1 2) (hf 0 2) (hf 1 3) (hf 2 0) (hf 3 1) (hg 1 2))
      (cons_of (row2 (f 0 2) (f 1 3) (f 2 0) (f 3 1) (g 2 2) (hf 0 2) (hf 1 3) (hf 2 0) (hf 3 1) (hg 2 2))
      (cons_of (row3 (f 0 2) (f 1 3) (f 2 0) (f 3 1) (g 3 2) (hf 0 2) (hf 1 3) (hf 2 0) (hf 3 1) (hg 3 2))
      (cons_of (row0 (f 0 3) (f 1 0) (f 2 1) (f 3 2) (g 0 3) (hf 0 3) (hf 1 0) (hf 2 1) (hf 3 2) (hg 0 3))
      (cons_of (row1 (f 0 3) (f 1 0) (f 2 1) (f 3 2) (g 1 3) (hf 0 3) (hf 1 0) (hf 2 1) (hf 3 2) (hg 1 3))
      (cons_of (row2 (f 0 3) (f 1 0) (f 2 1) (f 3 2) (g 2 3) (hf 0 3) (hf 1 0) (hf 2 1) (hf 3 2) (hg 2 3))
      (cons_of (row3 (f 0 3) (f 1 0) (f 2 1) (f 3 2) (g 3 3) (hf 0 3) (hf 1 0) (hf 2 1) (hf 3 2) (hg 3 3))
      (refl))))))))))))))))

  leaving_of : map (by_halves OUT_OF_TOWER) (map in_tower (state f)) ≡ state f
  leaving_of = state_of (λ r c. by_halves OUT_OF_TOWER (in_tower (f r c))) f (λ r c _ _. left_at (f r c) (hf r c))

  unmixing_of : unmixing (map (by_halves UNAFFINE_14) (state f)) (map (by_halves UNAFFINE_11) (state f)) (map (by_halves UNAFFINE_13) (state f)) (map (by_halves UNAFFINE_9) (state f)) (replicate 16 UNAFFINE_CONSTANT) ≡ unmixed_in_tower (state f)
  unfolding inv_shift_rows inv_mix_columns
  unmixing_of =
      cons_of (unrow0 (f 0 0) (f 1 0) (f 2 0) (f 3 0) (hf 0 0) (hf 1 0) (hf 2 0) (hf 3 0))
      (cons_of (unrow1 (f 0 3) (f 1 3) (f 2 3) (f 3 3) (hf 0 3) (hf 1 3) (hf 2 3) (hf 3 3))
      (cons_of (unrow2 (f 0 2) (f 1 2) (f 2 2) (f 3 2) (hf 0 2) (hf 1 2) (hf 2 2) (hf 3 2))
      (cons_of (unrow3 (f 0 1) (f 1 1) (f 2 1) (f 3 1) (hf 0 1) (hf 1 1) (hf 2 1) (hf 3 1))
      (cons_of (unrow0 (f 0 1) (f 1 1) (f 2 1) (f 3 1) (hf 0 1) (hf 1 1) (hf 2 1) (hf 3 1))
      (cons_of (unrow1 (f 0 0) (f 1 0) (f 2 0) (f 3 0) (hf 0 0) (hf 1 0) (hf 2 0) (hf 3 0))
      (cons_of (unrow2 (f 0 3) (f 1 3) (f 2 3) (f 3 3) (hf 0 3) (hf 1 3) (hf 2 3) (hf 3 3))
      (cons_of (unrow3 (f 0 2) (f 1 2) (f 2 2) (f 3 2) (hf 0 2) (hf 1 2) (hf 2 2) (hf 3 2))
      (cons_of (unrow0 (f 0 2) (f 1 2) (f 2 2) (f 3 2) (hf 0 2) (hf 1 2) (hf 2 2) (hf 3 2))
      (cons_of (unrow1 (f 0 1) (f 1 1) (f 2 1) (f 3 1) (hf 0 1) (hf 1 1) (hf 2 1) (hf 3 1))
      (cons_of (unrow2 (f 0 0) (f 1 0) (f 2 0) (f 3 0) (hf 0 0) (hf 1 0) (hf 2 0) (hf 3 0))
      (cons_of (unrow3 (f 0 3) (f 1 3) (f 2 3) (f 3 3) (hf 0 3) (hf 1 3) (hf 2 3) (hf 3 3))
      (cons_of (unrow0 (f 0 3) (f 1 3) (f 2 3) (f 3 3) (hf 0 3) (hf 1 3) (hf 2 3) (hf 3 3))
      (cons_of (unrow1 (f 0 2) (f 1 2) (f 2 2) (f 3 2) (hf 0 2) (hf 1 2) (hf 2 2) (hf 3 2))
      (cons_of (unrow2 (f 0 1) (f 1 1) (f 2 1) (f 3 1) (hf 0 1) (hf 1 1) (hf 2 1) (hf 3 1))
      (cons_of (unrow3 (f 0 0) (f 1 0) (f 2 0) (f 3 0) (hf 0 0) (hf 1 0) (hf 2 0) (hf 3 0))
      (refl))))))))))))))))

  undoing_of : unmixing (map (by_inverse UNSUBSTITUTED_14) (map unaffine_in_tower (state f))) (map (by_inverse UNSUBSTITUTED_11) (map unaffine_in_tower (state f))) (map (by_inverse UNSUBSTITUTED_13) (map unaffine_in_tower (state f))) (map (by_inverse UNSUBSTITUTED_9) (map unaffine_in_tower (state f))) (unmixed_in_tower (state g)) ≡ unmixed_in_tower (add_round_key (state g) (inv_sub_bytes (state f)))
  unfolding inv_shift_rows inv_mix_columns add_round_key inv_sub_bytes
  undoing_of =
      cons_of (undone0 (f 0 0) (f 1 0) (f 2 0) (f 3 0) (g 0 0) (g 1 0) (g 2 0) (g 3 0) (hf 0 0) (hf 1 0) (hf 2 0) (hf 3 0) (hg 0 0) (hg 1 0) (hg 2 0) (hg 3 0))
      (cons_of (undone1 (f 0 3) (f 1 3) (f 2 3) (f 3 3) (g 0 3) (g 1 3) (g 2 3) (g 3 3) (hf 0 3) (hf 1 3) (hf 2 3) (hf 3 3) (hg 0 3) (hg 1 3) (hg 2 3) (hg 3 3))
      (cons_of (undone2 (f 0 2) (f 1 2) (f 2 2) (f 3 2) (g 0 2) (g 1 2) (g 2 2) (g 3 2) (hf 0 2) (hf 1 2) (hf 2 2) (hf 3 2) (hg 0 2) (hg 1 2) (hg 2 2) (hg 3 2))
      (cons_of (undone3 (f 0 1) (f 1 1) (f 2 1) (f 3 1) (g 0 1) (g 1 1) (g 2 1) (g 3 1) (hf 0 1) (hf 1 1) (hf 2 1) (hf 3 1) (hg 0 1) (hg 1 1) (hg 2 1) (hg 3 1))
      (cons_of (undone0 (f 0 1) (f 1 1) (f 2 1) (f 3 1) (g 0 1) (g 1 1) (g 2 1) (g 3 1) (hf 0 1) (hf 1 1) (hf 2 1) (hf 3 1) (hg 0 1) (hg 1 1) (hg 2 1) (hg 3 1))
      (cons_of (undone1 (f 0 0) (f 1 0) (f 2 0) (f 3 0) (g 0 0) (g 1 0) (g 2 0) (g 3 0) (hf 0 0) (hf 1 0) (hf 2 0) (hf 3 0) (hg 0 0) (hg 1 0) (hg 2 0) (hg 3 0))
      (cons_of (undone2 (f 0 3) (f 1 3) (f 2 3) (f 3 3) (g 0 3) (g 1 3) (g 2 3) (g 3 3) (hf 0 3) (hf 1 3) (hf 2 3) (hf 3 3) (hg 0 3) (hg 1 3) (hg 2 3) (hg 3 3))
      (cons_of (undone3 (f 0 2) (f 1 2) (f 2 2) (f 3 2) (g 0 2) (g 1 2) (g 2 2) (g 3 2) (hf 0 2) (hf 1 2) (hf 2 2) (hf 3 2) (hg 0 2) (hg 1 2) (hg 2 2) (hg 3 2))
      (cons_of (undone0 (f 0 2) (f 1 2) (f 2 2) (f 3 2) (g 0 2) (g 1 2) (g 2 2) (g 3 2) (hf 0 2) (hf 1 2) (hf 2 2) (hf 3 2) (hg 0 2) (hg 1 2) (hg 2 2) (hg 3 2))
      (cons_of (undone1 (f 0 1) (f 1 1) (f 2 1) (f 3 1) (g 0 1) (g 1 1) (g 2 1) (g 3 1) (hf 0 1) (hf 1 1) (hf 2 1) (hf 3 1) (hg 0 1) (hg 1 1) (hg 2 1) (hg 3 1))
      (cons_of (undone2 (f 0 0) (f 1 0) (f 2 0) (f 3 0) (g 0 0) (g 1 0) (g 2 0) (g 3 0) (hf 0 0) (hf 1 0) (hf 2 0) (hf 3 0) (hg 0 0) (hg 1 0) (hg 2 0) (hg 3 0))
      (cons_of (undone3 (f 0 3) (f 1 3) (f 2 3) (f 3 3) (g 0 3) (g 1 3) (g 2 3) (g 3 3) (hf 0 3) (hf 1 3) (hf 2 3) (hf 3 3) (hg 0 3) (hg 1 3) (hg 2 3) (hg 3 3))
      (cons_of (undone0 (f 0 3) (f 1 3) (f 2 3) (f 3 3) (g 0 3) (g 1 3) (g 2 3) (g 3 3) (hf 0 3) (hf 1 3) (hf 2 3) (hf 3 3) (hg 0 3) (hg 1 3) (hg 2 3) (hg 3 3))
      (cons_of (undone1 (f 0 2) (f 1 2) (f 2 2) (f 3 2) (g 0 2) (g 1 2) (g 2 2) (g 3 2) (hf 0 2) (hf 1 2) (hf 2 2) (hf 3 2) (hg 0 2) (hg 1 2) (hg 2 2) (hg 3 2))
      (cons_of (undone2 (f 0 1) (f 1 1) (f 2 1) (f 3 1) (g 0 1) (g 1 1) (g 2 1) (g 3 1) (hf 0 1) (hf 1 1) (hf 2 1) (hf 3 1) (hg 0 1) (hg 1 1) (hg 2 1) (hg 3 1))
      (cons_of (undone3 (f 0 0) (f 1 0) (f 2 0) (f 3 0) (g 0 0) (g 1 0) (g 2 0) (g 3 0) (hf 0 0) (hf 1 0) (hf 2 0) (hf 3 0) (hg 0 0) (hg 1 0) (hg 2 0) (hg 3 0))
      (refl))))))))))))))))

  substituting_of : zip2 bit_xor (map (by_inverse SUBSTITUTED) (map in_tower (state f))) (replicate 16 AFFINE_CONSTANT) ≡ sub_bytes (state f)
  unfolding sub_bytes
  substituting_of = state_of (λ r c. bit_xor (by_inverse SUBSTITUTED (in_tower (f r c))) AFFINE_CONSTANT) (λ r c. sub (f r c)) (λ r c _ _. substituted_at (f r c) (hf r c))

  unsubstituting_of : map unsubstituted (map unaffine_in_tower (state f)) ≡ inv_sub_bytes (state f)
  unfolding inv_sub_bytes
  unsubstituting_of = state_of (λ r c. unsubstituted (unaffine_in_tower (f r c))) (λ r c. unsub (f r c)) (λ r c _ _. unsubstituted_at (f r c) (hf r c))

five : {a b c d k p q r s l : List ℕ} → a ≡ p → b ≡ q → c ≡ r → d ≡ s → k ≡ l → unmixing a b c d k ≡ unmixing p q r s l
five ae be ce de ke = cc

-- ---- whole states

module _ (s : List ℕ) (h : IsBlock s) where
  te : s ≡ state (byte_at s)
  te = as_state s h.0

  hs : (r c : ℕ) → byte_at s r c < 256
  hs r c = lane_fits s (r + 4 * c) h.1

  pub unmixed_is : (a b c d : List ℕ) → a ≡ map (by_halves UNAFFINE_14) s → b ≡ map (by_halves UNAFFINE_11) s → c ≡ map (by_halves UNAFFINE_13) s → d ≡ map (by_halves UNAFFINE_9) s
      → unmixing a b c d (replicate 16 UNAFFINE_CONSTANT) ≡ unmixed_in_tower s
  unmixed_is a b c d ae be ce de =
      let a' = ae ∙ ap (map (by_halves UNAFFINE_14)) te in
      let b' = be ∙ ap (map (by_halves UNAFFINE_11)) te in
      let c' = ce ∙ ap (map (by_halves UNAFFINE_13)) te in
      let d' = de ∙ ap (map (by_halves UNAFFINE_9)) te in
      five {k = replicate 16 UNAFFINE_CONSTANT} {l = replicate 16 UNAFFINE_CONSTANT} a' b' c' d' refl
      ∙ unmixing_of (byte_at s) (byte_at s) hs hs ∙ sym (ap (λ x. unmixed_in_tower x) te)

module _ (s t : List ℕ) (b : Block t) (e : s ≡ map in_tower t) where
  te2 : s ≡ map in_tower (state (byte_at t))
  te2 = e ∙ ap (map in_tower) (as_state t b.long)

  pub sub_bytes_is : (a : List ℕ) → a ≡ map (by_inverse SUBSTITUTED) s → zip2 bit_xor a (replicate 16 AFFINE_CONSTANT) ≡ sub_bytes t
  sub_bytes_is a ae =
      ap (λ x. zip2 bit_xor x (replicate 16 AFFINE_CONSTANT)) (ae ∙ ap (map (by_inverse SUBSTITUTED)) te2)
      ∙ substituting_of (byte_at t) (byte_at t) (byte_lt t b) (byte_lt t b) ∙ sym (ap sub_bytes (as_state t b.long))

  pub leaves : (r : List ℕ) → r ≡ map (by_halves OUT_OF_TOWER) s → r ≡ t
  leaves r re = re ∙ ap (map (by_halves OUT_OF_TOWER)) te2 ∙ leaving_of (byte_at t) (byte_at t) (byte_lt t b) (byte_lt t b) ∙ sym (as_state t b.long)

  pub round_is : (k c x y : List ℕ) → Block c → k ≡ map key_in_tower c → x ≡ map (by_inverse SUBSTITUTED_IN_TOWER) s → y ≡ map (by_inverse DOUBLED_IN_TOWER) s → mixing x y k ≡ map in_tower (round c t)
  round_is k c x y bc ke xe ye =
      let k' : k ≡ map key_in_tower (state (byte_at c)) = ke ∙ ap (map key_in_tower) (as_state c bc.long) in
      let x' = xe ∙ ap (map (by_inverse SUBSTITUTED_IN_TOWER)) te2 in
      let y' = ye ∙ ap (map (by_inverse DOUBLED_IN_TOWER)) te2 in
      ap (λ z. mixing z y k) x' ∙ ap (λ z. mixing (map (by_inverse SUBSTITUTED_IN_TOWER) (map in_tower (state (byte_at t)))) z k) y'
      ∙ ap (λ z. mixing (map (by_inverse SUBSTITUTED_IN_TOWER) (map in_tower (state (byte_at t)))) (map (by_inverse DOUBLED_IN_TOWER) (map in_tower (state (byte_at t)))) z) k'
      ∙ mixing_of (byte_at t) (byte_at c) (byte_lt t b) (byte_lt c bc)
      ∙ sym (ap₂ (λ p q. map in_tower (round p q)) (as_state c bc.long) (as_state t b.long))

module _ (s t : List ℕ) (b : Block t) (e : s ≡ map unaffine_in_tower t) where
  te3 : s ≡ map unaffine_in_tower (state (byte_at t))
  te3 = e ∙ ap (map unaffine_in_tower) (as_state t b.long)

  pub unsub_bytes_is : (a : List ℕ) → a ≡ map unsubstituted s → a ≡ inv_sub_bytes t
  unsub_bytes_is a ae = ae ∙ ap (map unsubstituted) te3 ∙ unsubstituting_of (byte_at t) (byte_at t) (byte_lt t b) (byte_lt t b) ∙ sym (ap inv_sub_bytes (as_state t b.long))

  pub undone_is : (k c p q r u : List ℕ) → Block c → k ≡ unmixed_in_tower c → p ≡ map (by_inverse UNSUBSTITUTED_14) s → q ≡ map (by_inverse UNSUBSTITUTED_11) s → r ≡ map (by_inverse UNSUBSTITUTED_13) s → u ≡ map (by_inverse UNSUBSTITUTED_9) s
      → unmixing p q r u k ≡ unmixed_in_tower (add_round_key c (inv_sub_bytes t))
  undone_is k c p q r u bc ke pe qe re ue =
      five (pe ∙ ap (map (by_inverse UNSUBSTITUTED_14)) te3) (qe ∙ ap (map (by_inverse UNSUBSTITUTED_11)) te3) (re ∙ ap (map (by_inverse UNSUBSTITUTED_13)) te3) (ue ∙ ap (map (by_inverse UNSUBSTITUTED_9)) te3) (ke ∙ ap (λ x. unmixed_in_tower x) (as_state c bc.long))
      ∙ undoing_of (byte_at t) (byte_at c) (byte_lt t b) (byte_lt c bc)
      ∙ sym (ap₂ (λ x y. unmixed_in_tower (add_round_key x (inv_sub_bytes y))) (as_state c bc.long) (as_state t b.long))
