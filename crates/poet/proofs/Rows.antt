-- Rows: how they go on, what they read, and what they keep.
use Rattle.std.proofs.Common.{◌≡◌, ℕ, zero, suc, ◌+◌, ◌*◌, ◌≤◌, List, ◌++◌, length, drop, refl, add-zero, add-suc, arith, length-append, length-drop, length-take-le, drop-drop}
use lib.Seq.{take-append-le, drop-append-le}
use Rattle.block.specs.Bytes.{Bytes, Block, block}
use Rattle.poet.specs.Rows.{State, takes, gives, next, rows}
use Rattle.block.proofs.Xors.{bytes_append, bytes_take, bytes_drop, block_xor}

pub block_append : (n : ℕ) (a b : List ℕ) → 16 * n + 16 ≤ length a → block n (a ++ b) ≡ block n a
block_append n a b l =
    let k : 16 * n ≤ length a = omega arith in
    let j : 16 ≤ length (drop (16 * n) a) = omega (arith, length-drop (16 * n) a) in
    rw (drop-append-le (16 * n) a b k, take-append-le 16 (drop (16 * n) a) b j)

pub block_block : (n : ℕ) (m : List ℕ) → 16 * n + 16 ≤ length m → Bytes m → Block (block n m)
block_block n m l b = record {
  long = length-take-le 16 (drop (16 * n) m) (omega (arith, length-drop (16 * n) m));
  bytes = bytes_take 16 (drop (16 * n) m) (bytes_drop (16 * n) m b);
}

module _ (e c : List ℕ → List ℕ) where
  -- rows read the blocks in front and nothing else
  pub rows_front : (n : ℕ) (s : State) (a b : List ℕ) → 16 * n ≤ length a → rows e c n s (a ++ b) ≡ rows e c n s a
  unfolding rows
  rows_front zero s a b l = refl
  rows_front (suc n) s a b l =
      let k : 16 * n ≤ length a = omega arith in
      let j : 16 * n + 16 ≤ length a = omega arith in
      rw (rows_front n s a b k, block_append n a b j)

  -- rows go on
  pub rows_add : (n k : ℕ) (s : State) (m : List ℕ) → rows e c (n + k) s m ≡ rows e c k (rows e c n s m) (drop (16 * n) m)
  unfolding rows
  rows_add n zero s m = rw (add-zero n)
  rows_add n (suc k) s m =
      let j : 16 * n + 16 * k ≡ 16 * (n + k) = omega arith in
      rw (add-suc n k, rows_add n k s m, drop-drop (16 * k) (16 * n) m, j)

-- whole blocks stand at x and y, and bytes were given out
pub record Kept (s : State) : Type 0 where
  pub x_block : Block s.x
  pub y_block : Block s.y
  pub bytes : Bytes s.out

module _ (e c : List ℕ → List ℕ) (eb : (b : List ℕ) → Block b → Block (e b)) (cb : (b : List ℕ) → Block b → Block (c b)) where
  pub takes_block : (s : State) (b : List ℕ) → Kept s → Block b → Block (takes c s b)
  unfolding takes
  takes_block s b k h = block_xor b (c s.x) h (cb s.x k.x_block)

  pub gives_block : (s : State) (b : List ℕ) → Kept s → Block b → Block (gives e c s b)
  unfolding gives
  gives_block s b k h = block_xor _ (c s.y) (eb _ (takes_block s b k h)) (cb s.y k.y_block)

  next_kept : (s : State) (b : List ℕ) → Kept s → Block b → Kept (next e c s b)
  unfolding next
  next_kept s b k h = record {
    x_block = takes_block s b k h;
    y_block = eb _ (takes_block s b k h);
    bytes = bytes_append s.out (gives e c s b) k.bytes (gives_block s b k h).bytes;
  }

  pub rows_kept : (n : ℕ) (s : State) (m : List ℕ) → Kept s → Bytes m → 16 * n ≤ length m → Kept (rows e c n s m)
  unfolding rows
  rows_kept zero s m k b l = k
  rows_kept (suc n) s m k b l = next_kept (rows e c n s m) (block n m) (rows_kept n s m k b (omega arith)) (block_block n m (omega arith) b)

  pub rows_length : (n : ℕ) (s : State) (m : List ℕ) → Kept s → Bytes m → 16 * n ≤ length m → length (rows e c n s m).out ≡ length s.out + 16 * n
  unfolding rows next
  rows_length zero s m k b l = omega arith
  rows_length (suc n) s m k b l =
      let t : State = rows e c n s m in
      let g = (gives_block t (block n m) (rows_kept n s m k b (omega arith)) (block_block n m (omega arith) b)).long in
      omega (arith, g, length-append t.out (gives e c t (block n m)), rows_length n s m k b (omega arith))
