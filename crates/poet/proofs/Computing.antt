-- What is computed is the seal.
use Rattle.std.proofs.Common.{◌≡◌, ℕ, suc, ◌-◌, ◌*◌, ◌≤◌, cond, ltb, List, ◌++◌, length, take, drop, sym, refl, ap, ◌∙◌, ap₂, subst₂, arith, length-append, length-drop, take-append-drop, take_at, drop_at}
use Rattle.std.proofs.lemmas.Bool.{lt-ltb, le-ltb, cond-true, cond-false}
use Rattle.block.specs.Bytes.{Block, ◌⊕◌}
use Rattle.poet.specs.Functions.{Functions, Lawful}
use Rattle.poet.specs.Seal.{Limits, Rows, Seals}
use Rattle.poet.specs.Rows.{State, last, cut, whole, last_length, length_mask, closing, sealed_rows, ciphertext, tag, Computed}
use Rattle.poet.specs.Laws.{ComputingLaw}
use Rattle.block.proofs.Xors.{block_xor, block_comm, xor_swap, bytes_append, bytes_take, bytes_drop}
use Rattle.poet.proofs.Rows.{Kept}
use Rattle.poet.proofs.Opening.{length_mask_block, ends_law, ends_most, ends_some, fills}
use Rattle.poet.proofs.Ties.{row, row_kept, row_length, ties, tied}

-- a sequence up to n, and z from there on
upto : ℕ → (ℕ → List ℕ) → List ℕ → ℕ → List ℕ
upto n a z i = cond (ltb n i) z (a i)

upto_below : (n : ℕ) (a : ℕ → List ℕ) (z : List ℕ) (i : ℕ) → i ≤ n → upto n a z i ≡ a i
unfolding upto
upto_below n a z i l = cond-false (ltb n i) z (a i) (le-ltb n i l)

upto_past : (n : ℕ) (a : ℕ → List ℕ) (z : List ℕ) → upto n a z (suc n) ≡ z
unfolding upto
upto_past n a z = cond-true (ltb n (suc n)) z (a (suc n)) (lt-ltb n (suc n) (omega arith))

-- only the first n rows of the sequences count
rows_same : (f : Functions) (h : List ℕ) (n : ℕ) (m c : List ℕ) (X Y X' Y' : ℕ → List ℕ) → ((i : ℕ) → i ≤ n → X' i ≡ X i) → ((i : ℕ) → i ≤ n → Y' i ≡ Y i)
    → Rows f h n m c X Y → Rows f h n m c X' Y'
rows_same f h n m c X Y X' Y' x y R = record {
  X_first = x 0 (omega arith) ∙ R.X_first;
  Y_first = y 0 (omega arith) ∙ R.Y_first;
  X_row = λ i l. rw (x (suc i) l, x i (omega arith)) (R.X_row i l);
  Y_row = λ i l. rw (y (suc i) l, x (suc i) l) (R.Y_row i l);
  C_row = λ i l. rw (y (suc i) l, y i (omega arith)) (R.C_row i l);
}

-- the last row and the tag, at n blocks and r bytes more
record Last (f : Functions) (h m c t : List ℕ) (X Y : ℕ → List ℕ) (n r : ℕ) : Type 0 where
  before : Rows f h n m c X Y
  x : X (suc n) ≡ f.chain (X n) ⊕ (drop (16 * n) m ++ take (16 - r) (f.dig h)) ⊕ length_mask f (length m)
  y : Y (suc n) ≡ f.enc (X (suc n))
  out : drop (16 * n) c ≡ take r (f.chain (Y n) ⊕ Y (suc n) ⊕ length_mask f (length m))
  tag : t ≡ drop r (f.chain (Y n) ⊕ Y (suc n) ⊕ length_mask f (length m)) ++ take r (f.chain (Y (suc n)) ⊕ f.enc (f.chain (X (suc n)) ⊕ f.dig h) ⊕ f.dig h)

module _ (f : Functions) (L : Lawful f) (h m : List ℕ) (lim : Limits h m) where
  fit : 16 * whole m ≤ length m
  fit = omega arith

  abbrev at : ℕ → State
  at i = row f L h lim.header_bytes (whole m) m lim.bytes fit i

  kept : Kept (at (whole m))
  kept = row_kept f L h lim.header_bytes (whole m) m lim.bytes fit (whole m) (omega arith)

  at_length : length (at (whole m)).out ≡ 16 * whole m
  at_length = row_length f L h lim.header_bytes (whole m) m lim.bytes fit (whole m) (omega arith)

  dig_block : Block (f.dig h)
  dig_block = L.dig_block h lim.header_bytes

  tail : List ℕ
  tail = drop (16 * whole m) m ++ take (16 - last_length m) (f.dig h)

  tail_block : Block tail
  unfolding tail
  tail_block = record {
    long =
        omega (arith, length-append (drop (16 * whole m) m) (take (16 - last_length m) (f.dig h)), length-drop (16 * whole m) m, fills m (f.dig h) dig_block, ends_law m lim.some);
    bytes = bytes_append _ _ (bytes_drop _ m lim.bytes) (bytes_take _ _ dig_block.bytes);
  }

  end : State
  end = last f.enc f.chain (length_mask f (length m)) (at (whole m)) tail

  x_end_is : end.x ≡ f.chain (at (whole m)).x ⊕ tail ⊕ length_mask f (length m)
  unfolding end last
  x_end_is = xor_swap _ _ _ ∙ ap (λ (u : List ℕ). u ⊕ length_mask f (length m)) (block_comm _ _ tail_block (L.chain_block _ kept.x_block))

  x_end_block : Block end.x
  unfolding end last
  x_end_block = block_xor _ _ (block_xor _ _ tail_block (length_mask_block f L (length m) lim.most)) (L.chain_block _ kept.x_block)

  y_end_is : end.y ≡ f.enc end.x
  unfolding end last
  y_end_is = refl

  y_end_block : Block end.y
  unfolding end last
  y_end_block = L.permutes.enc_block _ x_end_block

  out_end_is : end.out ≡ f.chain (at (whole m)).y ⊕ end.y ⊕ length_mask f (length m)
  unfolding end last
  out_end_is = ap (λ (u : List ℕ). u ⊕ length_mask f (length m)) (block_comm _ _ (L.permutes.enc_block _ x_end_block) (L.chain_block _ kept.y_block))

  z_is : closing f (f.dig h) end.x end.y ≡ f.chain end.y ⊕ f.enc (f.chain end.x ⊕ f.dig h) ⊕ f.dig h
  unfolding closing
  z_is =
      ap (λ (u : List ℕ). u ⊕ f.dig h)
      (block_comm _ _ (L.permutes.enc_block _ (block_xor _ _ (L.chain_block _ x_end_block) dig_block)) (L.chain_block _ y_end_block))

  cipher_is : ciphertext f h m ≡ (at (whole m)).out ++ take (last_length m) end.out
  unfolding sealed_rows cut end tail
  cipher_is = refl

  tag_is : tag f h m ≡ drop (last_length m) end.out ++ take (last_length m) (closing f (f.dig h) end.x end.y)
  unfolding sealed_rows cut end tail
  tag_is = refl

  -- from the computed seal to the equations
  module _ (c t : List ℕ) (ce : c ≡ ciphertext f h m) (te : t ≡ tag f h m) where
    abbrev X : ℕ → List ℕ
    X = upto (whole m) (λ i. (at i).x) end.x

    abbrev Y : ℕ → List ℕ
    Y = upto (whole m) (λ i. (at i).y) end.y

    to_last : Last f h m c t X Y (whole m) (last_length m)
    unfolding tail
    to_last =
        let xn : X (whole m) ≡ (at (whole m)).x = upto_below (whole m) (λ i. (at i).x) end.x (whole m) (omega arith) in
        let yn : Y (whole m) ≡ (at (whole m)).y = upto_below (whole m) (λ i. (at i).y) end.y (whole m) (omega arith) in
        let xs : X (suc (whole m)) ≡ end.x = upto_past (whole m) (λ i. (at i).x) end.x in
        let ys : Y (suc (whole m)) ≡ end.y = upto_past (whole m) (λ i. (at i).y) end.y in
        let c_is : c ≡ (at (whole m)).out ++ take (last_length m) end.out = ce ∙ cipher_is in
        record {
          before =
              rows_same f h (whole m) m c (λ i. (at i).x) (λ i. (at i).y) X Y (upto_below (whole m) (λ i. (at i).x) end.x) (upto_below (whole m) (λ i. (at i).y) end.y)
              (ties f L h lim.header_bytes (whole m) m lim.bytes fit c (sym (ap (take (16 * whole m)) c_is ∙ take_at (at (whole m)).out _ (16 * whole m) at_length)));
          x = rw (xs, xn) x_end_is;
          y = rw (ys, xs) y_end_is;
          out = rw (yn, ys) (ap (drop (16 * whole m)) c_is ∙ drop_at (at (whole m)).out _ (16 * whole m) at_length ∙ ap (take (last_length m)) out_end_is);
          tag = rw (yn, ys, xs) (te ∙ tag_is ∙ ap₂ (λ (u v : List ℕ). drop (last_length m) u ++ take (last_length m) v) out_end_is z_is);
        }

  -- and back
  module _ (c t : List ℕ) (X Y : ℕ → List ℕ) (E : Last f h m c t X Y (whole m) (last_length m)) where
    at_end : ((at (whole m)).x ≡ X (whole m)) × ((at (whole m)).y ≡ Y (whole m)) × ((at (whole m)).out ≡ take (16 * whole m) c)
    at_end = tied f L h lim.header_bytes (whole m) m lim.bytes fit c X Y E.before (whole m) (omega arith)

    end_x : end.x ≡ X (suc (whole m))
    unfolding tail
    end_x = x_end_is ∙ ap (λ (u : List ℕ). f.chain u ⊕ tail ⊕ length_mask f (length m)) at_end.0 ∙ sym E.x

    end_y : end.y ≡ Y (suc (whole m))
    end_y = y_end_is ∙ ap f.enc end_x ∙ sym E.y

    end_out : end.out ≡ f.chain (Y (whole m)) ⊕ Y (suc (whole m)) ⊕ length_mask f (length m)
    end_out = out_end_is ∙ ap₂ (λ (u v : List ℕ). f.chain u ⊕ v ⊕ length_mask f (length m)) at_end.1 end_y

    from_cipher : c ≡ ciphertext f h m
    from_cipher =
        sym (
        cipher_is ∙ ap₂ (λ (u v : List ℕ). u ++ take (last_length m) v) at_end.2 end_out ∙ ap (λ (u : List ℕ). take (16 * whole m) c ++ u) (sym E.out)
        ∙ take-append-drop (16 * whole m) c
        )

    from_tag : t ≡ tag f h m
    from_tag =
        E.tag
        ∙ sym (
        tag_is
        ∙ ap₂ (λ (u v : List ℕ). drop (last_length m) u ++ take (last_length m) v) end_out
        (z_is ∙ ap₂ (λ (u v : List ℕ). f.chain u ⊕ f.enc (f.chain v ⊕ f.dig h) ⊕ f.dig h) end_y end_x)
        )

to_seal : (f : Functions) → Lawful f → (h m c t : List ℕ) → Computed f h m c t → Seals f h m c t
unfolding length_mask
to_seal f L h m c t s =
    let E = to_last f L h m s.limits c t s.cipher_is s.tag_is in
    record {
      limits = s.limits;
      n = whole m;
      r = last_length m;
      cut = sym (ends_law m s.limits.some);
      r_some = ends_some m s.limits.some;
      r_most = ends_most m;
      X = _;
      Y = _;
      rows = E.before;
      S = _;
      S_is = refl;
      X_last = E.x;
      Y_last = E.y;
      C_whole = _;
      C_whole_is = refl;
      C_last = E.out;
      Z = _;
      Z_is = refl;
      tag = E.tag;
    }

-- the equations with S, C_whole and Z put in
at_last : (f : Functions) (h m c t : List ℕ) (s : Seals f h m c t) → Last f h m c t s.X s.Y s.n s.r
unfolding length_mask
at_last f h m c t s = record {
  before = s.rows;
  x = rw (← s.S_is) s.X_last;
  y = s.Y_last;
  out = rw (← s.S_is, ← s.C_whole_is) s.C_last;
  tag = rw (← s.S_is, ← s.C_whole_is, ← s.Z_is) s.tag;
}

from_seal : (f : Functions) → Lawful f → (h m c t : List ℕ) → Seals f h m c t → Computed f h m c t
from_seal f L h m c t s =
    let en : s.n ≡ whole m = omega (arith, s.cut, s.r_some, s.r_most) in
    let er : s.r ≡ last_length m = omega (arith, s.cut, s.r_some, s.r_most) in
    let E : Last f h m c t s.X s.Y (whole m) (last_length m) = subst₂ (Last f h m c t s.X s.Y) en er (at_last f h m c t s) in
    record { limits = s.limits; cipher_is = from_cipher f L h m s.limits c t s.X s.Y E; tag_is = from_tag f L h m s.limits c t s.X s.Y E }

pub computing_law : ComputingLaw
computing_law f L h m c t = (to_seal f L h m c t, from_seal f L h m c t)
