-- The rows that are computed are those of the seal's equations.
use Rattle.std.proofs.Common.{◌≡◌, ℕ, zero, suc, ◌+◌, ◌*◌, ◌<◌, ◌≤◌, List, [], ◌++◌, length, take, drop, sym, refl, ap, ◌∙◌, ap₂, append_assoc, arith, take-append-drop, take_at, take-add, drop_at}
use Rattle.block.specs.Bytes.{Bytes, block, ◌⊕◌}
use Rattle.poet.specs.Functions.{Functions, Lawful}
use Rattle.poet.specs.Seal.{Rows}
use Rattle.poet.specs.Rows.{State, takes, gives, next, rows, start}
use Rattle.block.proofs.Xors.{block_comm}
use Rattle.poet.proofs.Rows.{Kept, block_block, rows_kept, takes_block, gives_block}
use Rattle.poet.proofs.Fronts.{rows_begin, front_length}
use Rattle.poet.proofs.Opening.{ways, start_kept, start_out}

block_at : (a g o z : List ℕ) (i : ℕ) → length a ≡ 16 * i → length g ≡ 16 → block i (a ++ g ++ o ++ z) ≡ g
block_at a g o z i p q = rw (append_assoc (a ++ g) o z, append_assoc a g (o ++ z), drop_at a (g ++ (o ++ z)) (16 * i) p) (take_at g (o ++ z) 16 q)

-- n rows of the message m under the header h
module _ (f : Functions) (L : Lawful f) (h : List ℕ) (hb : Bytes h) (n : ℕ) (m : List ℕ) (b : Bytes m) (fit : 16 * n ≤ length m) where
  abbrev pub row : ℕ → State
  row i = rows f.enc f.chain i (start f h) m

  pub row_kept : (i : ℕ) → i ≤ n → Kept (row i)
  row_kept i l = rows_kept f.enc f.chain L.permutes.enc_block L.chain_block i (start f h) m (start_kept f L h hb) b (omega arith)

  pub row_length : (i : ℕ) → i ≤ n → length (row i).out ≡ 16 * i
  row_length i l = front_length f.enc f.dec f.chain (ways f L) (start f h) (start_kept f L h hb) (start_out f L h) i m b (omega arith)

  x_zero : (row 0).x ≡ f.dig h
  unfolding rows start
  x_zero = refl

  y_zero : (row 0).y ≡ f.dig h ⊕ f.num 1
  unfolding rows start
  y_zero = refl

  out_zero : (row 0).out ≡ []
  unfolding rows start
  out_zero = refl

  x_is : (i : ℕ) → i < n → (row (suc i)).x ≡ f.chain (row i).x ⊕ block i m
  unfolding rows next takes
  x_is i l = block_comm _ _ (block_block i m (omega arith) b) (L.chain_block _ (row_kept i (omega arith)).x_block)

  y_is : (i : ℕ) → (row (suc i)).y ≡ f.enc (row (suc i)).x
  unfolding rows next
  y_is i = refl

  out_is : (i : ℕ) → (row (suc i)).out ≡ (row i).out ++ gives f.enc f.chain (row i) (block i m)
  unfolding rows next
  out_is i = refl

  g_is : (i : ℕ) → i < n → gives f.enc f.chain (row i) (block i m) ≡ f.chain (row i).y ⊕ (row (suc i)).y
  unfolding rows next gives
  g_is i l =
      block_comm _ _
      (L.permutes.enc_block _ (takes_block f.enc f.chain L.permutes.enc_block L.chain_block (row i) (block i m) (row_kept i (omega arith)) (block_block i m (omega arith) b)))
      (L.chain_block _ (row_kept i (omega arith)).y_block)

  -- block i of what n rows give out, whatever follows
  c_is : (z : List ℕ) (i : ℕ) → i < n → block i ((row n).out ++ z) ≡ gives f.enc f.chain (row i) (block i m)
  c_is z i l =
      let g : List ℕ = gives f.enc f.chain (row i) (block i m) in
      let gl : length g ≡ 16 = (gives_block f.enc f.chain L.permutes.enc_block L.chain_block (row i) (block i m) (row_kept i (omega arith)) (block_block i m (omega arith) b)).long in
      let p = rows_begin f.enc f.chain (suc i) n (start f h) m l in
      let q : (row n).out ≡ (row i).out ++ g ++ p.0 = p.1 ∙ ap (λ (u : List ℕ). u ++ p.0) (out_is i) in
      ap (λ (u : List ℕ). block i (u ++ z)) q ∙ block_at (row i).out g p.0 z i (row_length i (omega arith)) gl

  -- from the computed rows to the equations
  pub ties : (c : List ℕ) → (row n).out ≡ take (16 * n) c → Rows f h n m c (λ i. (row i).x) (λ i. (row i).y)
  ties c e = record {
    X_first = x_zero;
    Y_first = y_zero;
    X_row = x_is;
    Y_row = λ i l. y_is i;
    C_row =
        λ i l.
        let q : c ≡ (row n).out ++ drop (16 * n) c = sym (take-append-drop (16 * n) c) ∙ ap (λ (u : List ℕ). u ++ drop (16 * n) c) (sym e) in
        ap (block i) q ∙ c_is (drop (16 * n) c) i l ∙ g_is i l;
  }

  -- and back
  module _ (c : List ℕ) (X Y : ℕ → List ℕ) (R : Rows f h n m c X Y) where
    pub tied : (i : ℕ) → i ≤ n → ((row i).x ≡ X i) × ((row i).y ≡ Y i) × ((row i).out ≡ take (16 * i) c)
    tied zero l = (x_zero ∙ sym R.X_first, y_zero ∙ sym R.Y_first, out_zero)
    tied (suc i) l =
        let p = tied i (omega arith) in
        let x : (row (suc i)).x ≡ X (suc i) = x_is i l ∙ ap (λ (u : List ℕ). f.chain u ⊕ block i m) p.0 ∙ sym (R.X_row i l) in
        let y : (row (suc i)).y ≡ Y (suc i) = y_is i ∙ ap f.enc x ∙ sym (R.Y_row i l) in
        let g : gives f.enc f.chain (row i) (block i m) ≡ block i c = g_is i l ∙ ap₂ (λ (u v : List ℕ). f.chain u ⊕ v) p.1 y ∙ sym (R.C_row i l) in
        let k : 16 * i + 16 ≡ 16 * suc i = omega arith in
        (x, y, out_is i ∙ ap₂ (λ (u v : List ℕ). u ++ v) p.2 g ∙ sym (take-add (16 * i) 16 c) ∙ ap (λ (j : ℕ). take j c) k)
