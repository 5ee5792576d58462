-- The last row of a session, from what the calls of the code give to what the mode computes.
use Rattle.std.proofs.Common.{◌≡◌, ℕ, ◌-◌, ◌*◌, ◌≤◌, Bool, true, false, ◌&&◌, List, ◌++◌, length, take, drop, replicate, sym, refl, ap, ◌∙◌, ap₂, inl, inr, arith, length-drop, take-append-drop, length-take}
use Rattle.std.proofs.lemmas.List.{take_at, drop_at, take_rest, take-replicate}
use Rattle.std.specs.Bool.{then_some}
use Rattle.std.proofs.lemmas.Bool.{and_parts, and_cases}
use Rattle.poet.specs.Functions.{Functions}
use Rattle.poet.specs.Rows.{State, AllRows, rows, last, cut, whole, last_length, all_rows, start, turned, length_mask, closing, sealed_rows, ciphertext, tag, opened_rows, opened}
use Rattle.block.proofs.Completing.{completes}
use Rattle.session.specs.declared.rows.Lanes.{Lanes}
use Rattle.session.specs.Steps.{lanes, Ended, Tests, Tested}

-- the last row looks at x and y only
last_from : (e c : List ℕ → List ℕ) (S b : List ℕ) (s : State) (x y : List ℕ) → x ≡ s.x → y ≡ s.y → last e c S (lanes x y) b ≡ last e c S s b
unfolding last
last_from e c S b s x y p q = cc

-- all rows over a, whose last block is completed by the front of `fill`; g is the whole last block that they gave
record Closed (e c : List ℕ → List ℕ) (S : List ℕ) (s : State) (a fill : List ℕ) (v' : Lanes) (g : List ℕ) : Type 0 where
  x_is : v'.taking ≡ (all_rows e c S s a (take (16 - last_length a) fill)).x
  y_is : v'.giving ≡ (all_rows e c S s a (take (16 - last_length a) fill)).y
  out : (rows e c (whole a) s a).out ++ take (last_length a) g ≡ (all_rows e c S s a (take (16 - last_length a) fill)).out
  rest : drop (last_length a) g ≡ (all_rows e c S s a (take (16 - last_length a) fill)).rest

closed : (e c : List ℕ → List ℕ) (S : List ℕ) (s : State) (a fill p b : List ℕ) (v v' : Lanes) (g : List ℕ) → v.taking ≡ (rows e c (whole a) s a).x → v.giving ≡ (rows e c (whole a) s a).y → p ≡ drop (16 * whole a) a → b ≡ take 16 (p ++ fill)
    → Ended e c S v b v' g → Closed e c S s a fill v' g
unfolding cut
closed e c S s a fill p b v v' g xe ye pe be E =
    let t : State = rows e c (whole a) s a in
    let pl : length p ≡ last_length a = ap length pe ∙ length-drop (16 * whole a) a in
    let bd : b ≡ drop (16 * whole a) a ++ take (16 - last_length a) fill = be ∙ completes p fill (omega arith) ∙ ap (λ n. p ++ take (16 - n) fill) pl ∙ ap (λ q. q ++ take (16 - last_length a) fill) pe in
    let L : last e c S (lanes v.taking v.giving) b ≡ last e c S t (drop (16 * whole a) a ++ take (16 - last_length a) fill) = last_from e c S b t v.taking v.giving xe ye ∙ ap (last e c S t) bd in
    let ge : g ≡ (last e c S t (drop (16 * whole a) a ++ take (16 - last_length a) fill)).out = E.gives_is ∙ ap (λ (z : State). z.out) L in
    record {
      x_is = E.x_is ∙ ap (λ (z : State). z.x) L;
      y_is = E.y_is ∙ ap (λ (z : State). z.y) L;
      out = ap (λ z. t.out ++ take (last_length a) z) ge;
      rest = ap (drop (last_length a)) ge;
    }

-- what is written to the place of the last bytes: the first k bytes of g, and zeros
pub last_bytes : (g q l : List ℕ) (k j : ℕ) → length g ≡ 16 → k ≤ 16 → j ≡ k → q ≡ take j g → l ≡ take 16 (q ++ replicate 16 0) → (take k l ≡ take k g) × (drop k l ≡ replicate (16 - k) 0)
last_bytes g q l k j gl fit je qe le =
    let q₁ : q ≡ take k g = qe ∙ ap (λ n. take n g) je in
    let ql : length q ≡ k = ap length q₁ ∙ length-take k g ∙ omega arith in
    let l₁ : l ≡ q ++ take (16 - k) (replicate 16 0) = le ∙ completes q (replicate 16 0) (omega arith) ∙ ap (λ n. q ++ take (16 - n) (replicate 16 0)) ql in (
      ap (take k) l₁ ∙ take_at q (take (16 - k) (replicate 16 0)) k ql ∙ q₁,
      ap (drop k) l₁ ∙ drop_at q (take (16 - k) (replicate 16 0)) k ql ∙ take-replicate (16 - k) 16 0 (omega arith),
    )

-- the end of a sealing
pub sealed : (f : Functions) (H M : List ℕ) {tau S p b g z q T : List ℕ} {v v' : Lanes} {k : ℕ} → tau ≡ f.dig H → S ≡ length_mask f (length M) → v.taking ≡ (rows f.enc f.chain (whole M) (start f H) M).x → v.giving ≡ (rows f.enc f.chain (whole M) (start f H) M).y
    → p ≡ drop (16 * whole M) M → b ≡ take 16 (p ++ tau) → Ended f.enc f.chain S v b v' g → z ≡ closing f (f.dig H) v'.taking v'.giving → q ≡ take (16 - k) (drop k g) → T ≡ take 16 (q ++ z) → k ≡ last_length M → length g ≡ 16
    → ((rows f.enc f.chain (whole M) (start f H) M).out ++ take (last_length M) g ≡ ciphertext f H M) × (T ≡ tag f H M)
unfolding sealed_rows
sealed f H M {tau} {S} {p} {b} {g} {z} {q} {T} {v} {v'} {k} te Se xe ye pe be E ze qe Te ke gl =
    let s : State = start f H in
    let C : Closed f.enc f.chain S s M tau v' g = closed f.enc f.chain S s M tau p b v v' g xe ye pe be E in
    let Q : all_rows f.enc f.chain S s M (take (16 - last_length M) tau) ≡ sealed_rows f H M = cc in
    let x_is : v'.taking ≡ (sealed_rows f H M).x = C.x_is ∙ ap (λ (u : AllRows). u.x) Q in
    let y_is : v'.giving ≡ (sealed_rows f H M).y = C.y_is ∙ ap (λ (u : AllRows). u.y) Q in
    let z_is : z ≡ closing f (f.dig H) (sealed_rows f H M).x (sealed_rows f H M).y = cc in
    let qd : q ≡ drop (last_length M) g = qe ∙ ap (λ n. take (n - k) (drop k g)) (sym gl) ∙ take_rest g k ∙ ap (λ n. drop n g) ke in
    let qs : length q ≤ 16 = omega (arith, ap length qd, length-drop (last_length M) g) in
    let ql : 16 - length q ≡ last_length M = omega (arith, ap length qd, length-drop (last_length M) g) in (
      C.out ∙ ap (λ (u : AllRows). u.out) Q,
      Te ∙ completes q z qs ∙ ap₂ (λ u n. u ++ take n z) (qd ∙ C.rest ∙ ap (λ (u : AllRows). u.rest) Q) ql ∙ ap (λ u. (sealed_rows f H M).rest ++ take (last_length M) u) z_is,
    )

-- g ends with the front of t exactly when it is what its own first k bytes and t fill up
module _ (g t : List ℕ) (k : ℕ) (gl : length g ≡ 16) (fit : k ≤ 16) (u q : List ℕ) (qe : q ≡ take k g) (ue : u ≡ take 16 (q ++ t)) where
  ql : length q ≡ k
  ql = ap length qe ∙ length-take k g ∙ omega arith

  u_is : u ≡ take k g ++ take (16 - k) t
  u_is = ue ∙ completes q t (omega (arith, ql)) ∙ ap₂ (λ p n. p ++ take (16 - n) t) qe ql

  ends_with : g ≡ u → drop k g ≡ take (16 - k) t
  ends_with e = ap (drop k) (e ∙ u_is) ∙ drop_at (take k g) (take (16 - k) t) k (length-take k g ∙ omega arith)

  with_ends : drop k g ≡ take (16 - k) t → g ≡ u
  with_ends e = sym (take-append-drop k g) ∙ ap (λ p. take k g ++ p) e ∙ sym u_is

-- a block is given only where the tests are passed
some_tested : (f : Functions) (H C T G g : List ℕ) (r : Bool) → G ++ take (last_length C) g ≡ opened f H C T → (r ≡ true → Tests f H C T) → (r ≡ false → Tests f H C T → ⊥) → Tested f H C T G (then_some r g)
some_tested f H C T G g true o pass fail = (o, pass refl)
some_tested f H C T G g false o pass fail = fail refl

-- the end of an opening
pub tested : (f : Functions) (H C T : List ℕ) {tau S p b g z q u r w : List ℕ} {v v' : Lanes} {k j : ℕ} {padded tagged : Bool} → tau ≡ f.dig H → S ≡ length_mask f (length C)
    → v.taking ≡ (rows f.dec f.chain (whole C) (turned (start f H)) C).x → v.giving ≡ (rows f.dec f.chain (whole C) (turned (start f H)) C).y → p ≡ drop (16 * whole C) C → b ≡ take 16 (p ++ T) → Ended f.dec f.chain S v b v' g
    → z ≡ closing f (f.dig H) v'.giving v'.taking → q ≡ take k g → u ≡ take 16 (q ++ tau) → r ≡ take j T → w ≡ take 16 (r ++ z) → k ≡ last_length C → j ≡ 16 - last_length C → length g ≡ 16 → length T ≡ 16
    → (padded ≡ true → g ≡ u) → (padded ≡ false → g ≡ u → ⊥) → (tagged ≡ true → T ≡ w) → (tagged ≡ false → T ≡ w → ⊥)
    → Tested f H C T (rows f.dec f.chain (whole C) (turned (start f H)) C).out (then_some (padded && tagged) g)
unfolding opened_rows
tested f H C T {tau} {S} {p} {b} {g} {z} {q} {u} {r} {w} {v} {v'} {k} {j} {padded} {tagged} te Se xe ye pe be E ze qe ue ve we ke je gl Tl p-yes p-no t-yes t-no =
    let s : State = turned (start f H) in
    let X : Closed f.dec f.chain S s C T v' g = closed f.dec f.chain S s C T p b v v' g xe ye pe be E in
    let Q : all_rows f.dec f.chain S s C (take (16 - last_length C) T) ≡ opened_rows f H C T = cc in
    let x_is : v'.taking ≡ (opened_rows f H C T).x = X.x_is ∙ ap (λ (o : AllRows). o.x) Q in
    let y_is : v'.giving ≡ (opened_rows f H C T).y = X.y_is ∙ ap (λ (o : AllRows). o.y) Q in
    let z_is : z ≡ closing f (f.dig H) (opened_rows f H C T).y (opened_rows f H C T).x = cc in
    let r-is : drop (last_length C) g ≡ (opened_rows f H C T).rest = X.rest ∙ ap (λ (o : AllRows). o.rest) Q in
    let qe' : q ≡ take (last_length C) g = qe ∙ ap (λ n. take n g) ke in
    let ve' : r ≡ take (16 - last_length C) T = ve ∙ ap (λ n. take n T) je in
    let few : last_length C ≤ 16 = omega arith in
    let back : 16 - (16 - last_length C) ≡ last_length C = omega arith in
    let few' : 16 - last_length C ≤ 16 = omega arith in
    let both : padded && tagged ≡ true → Tests f H C T =
    λ e.
    let b = and_parts padded tagged e in
    record {
      fill = sym r-is ∙ ends_with g tau (last_length C) gl few u q qe' ue (p-yes b.0) ∙ ap (take (16 - last_length C)) te;
      check = ends_with T z (16 - last_length C) Tl few' w r ve' we (t-yes b.1) ∙ ap₂ take back z_is;
    } in
    let fails : padded && tagged ≡ false → Tests f H C T → ⊥ =
    λ e t.
    elim (and_cases padded tagged e) [
      | inl i ↦ p-no i (with_ends g tau (last_length C) gl few u q qe' ue (r-is ∙ t.fill ∙ ap (take (16 - last_length C)) (sym te)))
      | inr i ↦ t-no i (with_ends T z (16 - last_length C) Tl few' w r ve' we (t.check ∙ ap₂ take (sym back) (sym z_is)))
    ] in
    some_tested f H C T (rows f.dec f.chain (whole C) s C).out g (padded && tagged) (X.out ∙ ap (λ (o : AllRows). o.out) Q) both fails
