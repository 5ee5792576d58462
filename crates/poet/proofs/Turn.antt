-- Rows run backwards.
use Rattle.std.proofs.Common.{◌≡◌, ℕ, zero, suc, ◌+◌, ◌*◌, ◌≤◌, List, [], ◌++◌, length, take, drop, refl, ◌∙◌, arith, length-append, length-drop, take-append-drop, length-take, take_all, take_at, take-add, drop_at}
use Rattle.block.specs.Bytes.{Bytes, Block, block, ◌⊕◌}
use Rattle.block.specs.Permutes.{Permutes}
use Rattle.poet.specs.Rows.{State, takes, gives, next, rows, turned, last, cut}
use Rattle.block.proofs.Xors.{xor_twice, block_xor, bytes_append, bytes_take, bytes_drop}
use Rattle.poet.proofs.Rows.{block_block, rows_front, Kept, takes_block, gives_block, rows_kept, rows_length}

-- e and d undo one another on blocks, and c gives blocks
pub record Ways (e d c : List ℕ → List ℕ) : Type 0 where
  pub permutes : Permutes e d
  pub cb : (b : List ℕ) → Block b → Block (c b)

pub turn : {e d c : List ℕ → List ℕ} → Ways e d c → Ways d e c
turn w = record {
  permutes = record { dec_enc = w.permutes.enc_dec; enc_dec = w.permutes.dec_enc; enc_block = w.permutes.dec_block; dec_block = w.permutes.enc_block };
  cb = w.cb;
}

-- the same with X and Y exchanged, after `o` was given out
abbrev pub across : State → List ℕ → State
across s o = record { x = s.y; y = s.x; out = o }

-- what is known of the rows over `a` and `fill`
pub record Facts (e d c : List ℕ → List ℕ) (S : List ℕ) (n r : ℕ) (s : State) (a fill : List ℕ) : Type 0 where
  pub long : length (cut e c S n r s a fill).out ≡ length a
  pub rest_long : r + length (cut e c S n r s a fill).rest ≡ 16
  pub bytes : Bytes (cut e c S n r s a fill).out
  pub rest_bytes : Bytes (cut e c S n r s a fill).rest
  pub x_block : Block (cut e c S n r s a fill).x
  pub y_block : Block (cut e c S n r s a fill).y
  pub turns : cut d c S n r (turned s) (cut e c S n r s a fill).out (cut e c S n r s a fill).rest
      ≡ record { out = a; rest = fill; x = (cut e c S n r s a fill).y; y = (cut e c S n r s a fill).x }

module _ (e d c : List ℕ → List ℕ) (w : Ways e d c) where
  next_turn : (s : State) (b o : List ℕ) → Kept s → Block b → next d c (across s o) (gives e c s b) ≡ across (next e c s b) (o ++ b)
  unfolding next gives takes
  next_turn s b o k h =
      rw (xor_twice (e (b ⊕ c s.x)) (c s.y), w.permutes.dec_enc (b ⊕ c s.x) (takes_block e c w.permutes.enc_block w.cb s b k h), xor_twice b (c s.x))

  pub rows_turn : (n : ℕ) (s : State) (m : List ℕ) → Kept s → s.out ≡ [] → Bytes m → 16 * n ≤ length m
      → rows d c n (turned s) (rows e c n s m).out ≡ across (rows e c n s m) (take (16 * n) m)
  unfolding rows next
  rows_turn zero s m k o b l = refl
  rows_turn (suc n) s m k o b l =
      let l₀ : 16 * n ≤ length m = omega arith in
      let t : State = rows e c n s m in
      let kt : Kept t = rows_kept e c w.permutes.enc_block w.cb n s m k b l₀ in
      let bn : Block (block n m) = block_block n m (omega arith) b in
      let g : List ℕ = gives e c t (block n m) in
      let gl : length g ≡ 16 = (gives_block e c w.permutes.enc_block w.cb t (block n m) kt bn).long in
      let tl : length t.out ≡ 16 * n = rows_length e c w.permutes.enc_block w.cb n s m k b l₀ ∙ rw o (omega arith) in
      let le : 16 * n ≤ length t.out = omega arith in
      let ng : block n (t.out ++ g) ≡ g = rw (drop_at t.out g (16 * n) tl) (take_all 16 g (omega arith)) in
      let ss : 16 * suc n ≡ 16 * n + 16 = omega arith in
      rw (rows_front d c n (turned s) t.out g le, rows_turn n s m k o b l₀, ng, ss, take-add (16 * n) 16 m) (next_turn t (block n m) (take (16 * n) m) kt bn)

  last_takes : (S : List ℕ) (s : State) (b : List ℕ) → Block S → Kept s → Block b → Block (last e c S s b).x
  unfolding last
  last_takes S s b p k h = block_xor _ _ (block_xor b S h p) (w.cb s.x k.x_block)

  last_y : (S : List ℕ) (s : State) (b : List ℕ) → Block S → Kept s → Block b → Block (last e c S s b).y
  unfolding last
  last_y S s b p k h = w.permutes.enc_block _ (last_takes S s b p k h)

  pub last_block : (S : List ℕ) (s : State) (b : List ℕ) → Block S → Kept s → Block b → Block (last e c S s b).out
  unfolding last
  last_block S s b p k h = block_xor _ S (block_xor _ _ (last_y S s b p k h) (w.cb s.y k.y_block)) p

  last_turn : (S : List ℕ) (s : State) (b o : List ℕ) → Block S → Kept s → Block b → last d c S (across s o) (last e c S s b).out ≡ across (last e c S s b) b
  unfolding last
  last_turn S s b o p k h =
      let x : List ℕ = b ⊕ S ⊕ c s.x in
      rw (xor_twice (e x ⊕ c s.y) S, xor_twice (e x) (c s.y), w.permutes.dec_enc x (last_takes S s b p k h), xor_twice (b ⊕ S) (c s.x), xor_twice b S)

  module _ (S : List ℕ) (n r : ℕ) (s : State) (a fill : List ℕ) (p : Block S) (k : Kept s) (o : s.out ≡ []) (b : Bytes a) (long : 16 * n + r ≡ length a) (bf : Bytes fill)
      (full : r + length fill ≡ 16) where
    tops : State
    tops = rows e c n s a

    tops_kept : Kept tops
    unfolding tops
    tops_kept = rows_kept e c w.permutes.enc_block w.cb n s a k b (omega arith)

    tops_length : length tops.out ≡ 16 * n
    unfolding tops
    tops_length = rows_length e c w.permutes.enc_block w.cb n s a k b (omega arith) ∙ rw o (omega arith)

    tail_length : length (drop (16 * n) a) ≡ r
    tail_length = omega (arith, length-drop (16 * n) a)

    pub tail_block : Block (drop (16 * n) a ++ fill)
    tail_block = record {
      long = omega (arith, length-append (drop (16 * n) a) fill, tail_length);
      bytes = bytes_append _ fill (bytes_drop (16 * n) a b) bf;
    }

    end : State
    end = last e c S tops (drop (16 * n) a ++ fill)

    end_block : Block end.out
    unfolding end
    end_block = last_block S tops (drop (16 * n) a ++ fill) p tops_kept tail_block

    pub facts : Facts e d c S n r s a fill
    unfolding cut tops end
    facts =
        let le : 16 * n ≤ length tops.out = omega (arith, tops_length) in
        record {
          long = omega (arith, length-append tops.out (take r end.out), tops_length, length-take r end.out, end_block.long);
          rest_long = omega (arith, length-drop r end.out, end_block.long);
          bytes = bytes_append _ _ tops_kept.bytes (bytes_take r end.out end_block.bytes);
          rest_bytes = bytes_drop r end.out end_block.bytes;
          x_block = last_takes S tops (drop (16 * n) a ++ fill) p tops_kept tail_block;
          y_block = last_y S tops (drop (16 * n) a ++ fill) p tops_kept tail_block;
          turns =
              rw (
                rows_front d c n (turned s) tops.out (take r end.out) le,
                rows_turn n s a k o b (omega arith),
                drop_at tops.out (take r end.out) (16 * n) tops_length,
                take-append-drop r end.out,
                last_turn S tops (drop (16 * n) a ++ fill) (take (16 * n) a) p tops_kept tail_block,
                take_at (drop (16 * n) a) fill r tail_length,
                drop_at (drop (16 * n) a) fill r tail_length,
                take-append-drop (16 * n) a,
              );
        }
