-- Rows that are run one after another, each block written where it belongs.
use Rattle.std.proofs.Common.{◌≡◌, ℕ, ◌+◌, ◌*◌, ◌≤◌, List, ◌++◌, length, take, drop, sym, refl, subst, ap, ◌∙◌, add-one, arith}
use borrow.Rule.Slice.PartMut.{put_mid}
use Rattle.std.proofs.lemmas.Slice.{take-put_mid, drop-put_mid}
use Rattle.std.proofs.Math.Seq.{drop-append-add}
use Rattle.std.proofs.lemmas.List.{drop-drop, length-drop, length-append}
use Rattle.block.specs.Bytes.{block}
use Rattle.poet.specs.Rows.{State, takes, gives, next, rows}
use Rattle.session.specs.declared.rows.Lanes.{Lanes}
use Rattle.session.specs.Steps.{lanes, Stepped, Ran}

pub ran_none : (e c : List ℕ → List ℕ) (s : Lanes) (a o : List ℕ) → Ran e c s a o 0 s o
unfolding rows
ran_none e c s a o = record { x_is = refl; y_is = refl; front = refl; rest = refl }

pub ran_zero : (e c : List ℕ → List ℕ) (s : Lanes) (a o : List ℕ) (n : ℕ) → n ≡ 0 → Ran e c s a o n s o
ran_zero e c s a o n z = subst (λ k. Ran e c s a o k s o) (sym z) (ran_none e c s a o)

-- one row more: b is the block, and w, which comes of it, is written at 16 * n
pub ran_more : (e c : List ℕ → List ℕ) (s : Lanes) (a o : List ℕ) (n : ℕ) (s' : Lanes) (o' : List ℕ) → Ran e c s a o n s' o' → (b : List ℕ) (s'' : Lanes) (g w : List ℕ) (k : ℕ) → Stepped e c s' b s'' g → b ≡ block n a → w ≡ g → k ≡ 16 → length w ≡ 16
    → length o' ≡ length o → 16 * (n + 1) ≤ length o → Ran e c s a o (n + 1) s'' (put_mid (16 * n) k o' w)
unfolding rows next takes gives
ran_more e c s a o n s' o' r b s'' g w k t be we ke lw lo room =
    let e16 : 16 * (n + 1) ≡ 16 * n + 16 = omega arith in
    let m : rows e c (n + 1) (lanes s.taking s.giving) a ≡ next e c (rows e c n (lanes s.taking s.giving) a) (block n a) = rw add-one refl in
    let xx = r.x_is in
    let yy = r.y_is in
    let sx = t.x_is in
    let sy = t.y_is in
    let sg = t.gives_is in
    record {
      x_is = cc;
      y_is = cc;
      front =
          take-put_mid (16 * n) k o' w (16 * (n + 1)) (omega arith) (omega arith)
          ∙ (ap (λ z. z ++ w) r.front ∙ ap (λ z. (rows e c n (lanes s.taking s.giving) a).out ++ z) (let q : w ≡ gives e c (rows e c n (lanes s.taking s.giving) a) (block n a) = cc in q)) ∙ sym (ap (λ (q : State). q.out) m);
      rest =
          drop-put_mid (16 * n) k o' w (16 * (n + 1)) (omega arith) (omega arith) (omega arith)
          ∙ (ap (λ z. drop z o') e16 ∙ (sym (drop-drop 16 (16 * n) o') ∙ (ap (λ z. drop 16 z) r.rest ∙ (drop-drop 16 (16 * n) o ∙ ap (λ z. drop z o) (sym e16)))));
    }

-- what completes the next block stands in i
pub more_fits : (a h i : List ℕ) (n : ℕ) → h ++ i ≡ drop (16 * n) a → 16 * (n + 1) ≤ length a → 16 ≤ length h + length i
more_fits a h i n e room = omega (arith, length-append h i, ap length e, length-drop (16 * n) a)

-- One block more: h is held and i comes behind it, and both are what n blocks leave of a. Filled up from i, h is the next block, and the
-- rest of i is what is left then.
pub block_next : (a h i : List ℕ) (n k : ℕ) → h ++ i ≡ drop (16 * n) a → k + length h ≡ 16 → (take 16 (h ++ i) ≡ block n a) × (drop k i ≡ drop (16 * (n + 1)) a)
block_next a h i n k e ke =
    let m : 16 * n + 16 ≡ 16 * (n + 1) = omega arith in (
      ap (take 16) e,
      sym (drop-append-add h i k) ∙ ap (λ j. drop j (h ++ i)) (let j : length h + k ≡ 16 = omega arith in j) ∙ ap (drop 16) e ∙ drop-drop 16 (16 * n) a ∙ ap (λ j. drop j a) m,
    )
