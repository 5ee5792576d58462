-- The first blocks out come from the first blocks in, and tell them apart.
use Rattle.std.proofs.Common.{◌≡◌, ℕ, zero, suc, ◌+◌, ◌-◌, ◌*◌, ◌<◌, ◌≤◌, List, [], ◌++◌, length, take, drop, sym, ap, ◌∙◌, append_assoc, append-nil, arith, take-append-drop, length-take-le, take_at}
use Rattle.block.specs.Bytes.{Bytes, block}
use Rattle.poet.specs.Rows.{State, turned, next, gives, rows, cut, whole, last_length}
use Rattle.poet.proofs.Rows.{Kept, rows_front, rows_add, rows_length}
use Rattle.poet.proofs.Turn.{Ways, rows_turn}

-- rows only add to what was given out
pub rows_out : (e c : List ℕ → List ℕ) (n : ℕ) (s : State) (m : List ℕ) → (o : List ℕ) × ((rows e c n s m).out ≡ s.out ++ o)
unfolding rows next
rows_out e c zero s m = ([], sym (append-nil s.out))
rows_out e c (suc n) s m =
    let p = rows_out e c n s m in
    let g : List ℕ = gives e c (rows e c n s m) (block n m) in
    (p.0 ++ g, ap (λ (u : List ℕ). u ++ g) p.1 ∙ append_assoc s.out p.0 g)

-- ... so n rows begin with what k of them gave out
pub rows_begin : (e c : List ℕ → List ℕ) (k n : ℕ) (s : State) (m : List ℕ) → k ≤ n → (o : List ℕ) × ((rows e c n s m).out ≡ (rows e c k s m).out ++ o)
rows_begin e c k n s m l =
    let j : k + (n - k) ≡ n = omega arith in
    let p = rows_out e c (n - k) (rows e c k s m) (drop (16 * k) m) in
    (p.0, ap (λ (i : ℕ). (rows e c i s m).out) (sym j) ∙ ap (λ (t : State). t.out) (rows_add e c k (n - k) s m) ∙ p.1)

module _ (e d c : List ℕ → List ℕ) (w : Ways e d c) (s : State) (k : Kept s) (o : s.out ≡ []) where
  module _ (n : ℕ) (a : List ℕ) (b : Bytes a) (l : 16 * n ≤ length a) where
    pub front_length : length (rows e c n s a).out ≡ 16 * n
    front_length = rows_length e c w.permutes.enc_block w.cb n s a k b l ∙ rw o (omega arith)

    pub front_only : rows e c n s a ≡ rows e c n s (take (16 * n) a)
    front_only = ap (rows e c n s) (sym (take-append-drop (16 * n) a)) ∙ rows_front e c n s (take (16 * n) a) (drop (16 * n) a) (omega (arith, length-take-le (16 * n) a l))

  -- the first n blocks of what all rows give out
  pub cut_front : (S : List ℕ) (n : ℕ) (a fill : List ℕ) → Bytes a → 16 * n < length a → take (16 * n) (cut e c S (whole a) (last_length a) s a fill).out ≡ (rows e c n s a).out
  unfolding cut
  cut_front S n a fill b l =
      let p = rows_begin e c n (whole a) s a (omega arith) in
      rw (p.1, append_assoc) (take_at (rows e c n s a).out _ (16 * n) (front_length n a b (omega arith)))

  -- the same blocks out, the same blocks in
  pub front_back : (n : ℕ) (a b : List ℕ) → Bytes a → Bytes b → 16 * n ≤ length a → 16 * n ≤ length b → (rows e c n s a).out ≡ (rows e c n s b).out → take (16 * n) a ≡ take (16 * n) b
  front_back n a b ba bb la lb q =
      sym (ap (λ (t : State). t.out) (rows_turn e d c w n s a k o ba la)) ∙ ap (λ (u : List ℕ). (rows d c n (turned s) u).out) q ∙ ap (λ (t : State). t.out) (rows_turn e d c w n s b k o bb lb)

  -- the same blocks in, the same blocks out
  pub front_forth : (n : ℕ) (a b : List ℕ) → Bytes a → Bytes b → 16 * n ≤ length a → 16 * n ≤ length b → take (16 * n) a ≡ take (16 * n) b → (rows e c n s a).out ≡ (rows e c n s b).out
  front_forth n a b ba bb la lb q =
      ap (λ (t : State). t.out) (front_only n a ba la) ∙ ap (λ (u : List ℕ). (rows e c n s u).out) q ∙ sym (ap (λ (t : State). t.out) (front_only n b bb lb))
