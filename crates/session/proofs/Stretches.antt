-- A body call: from where the rows stood, what it brings and what it writes, to where they stand.
use Rattle.std.proofs.Common.{◌≡◌, ℕ, zero, suc, ◌+◌, ◌*◌, ◌≤◌, List, [], ◌++◌, length, take, drop, sym, refl, ap, ◌∙◌, ap₂, append_assoc, append-nil, arith, length-drop, take_all, drop-drop}
use lib.Seq.{drop-append-le}
use Rattle.block.specs.Bytes.{Bytes, block}
use Rattle.poet.specs.Functions.{Functions, Lawful}
use Rattle.poet.specs.Rows.{State, takes, gives, next, rows, whole, start}
use Rattle.poet.proofs.Rows.{Kept, rows_front, rows_add, rows_length}
use Rattle.poet.proofs.Turn.{Ways, turn}
use Rattle.poet.proofs.Opening.{ways, start_kept, start_out, turned_kept}
use Rattle.session.specs.Directions.{Direction, sealing, opening, picks, turns}
use Rattle.session.specs.Runs.{Run}
use Rattle.session.specs.declared.rows.Lanes.{Lanes}
use Rattle.session.specs.Steps.{lanes, Ran}
use Rattle.session.specs.Sessions.{rows_of}

-- both ways keep blocks
pub both_ways : (f : Functions) → Lawful f → (w : Direction) → Ways (picks w f.enc f.dec) (picks w f.dec f.enc) f.chain
both_ways f L sealing = ways f L
both_ways f L opening = turn (ways f L)

pub turns_kept : (f : Functions) (L : Lawful f) (w : Direction) (h : List ℕ) → Bytes h → Kept (turns w (start f h))
turns_kept f L sealing h b = start_kept f L h b
turns_kept f L opening h b = turned_kept f L h b

pub turns_out : (f : Functions) (L : Lawful f) (w : Direction) (h : List ℕ) → (turns w (start f h)).out ≡ []
turns_out f L sealing h = start_out f L h
turns_out f L opening h = refl

-- what was handed out are whole blocks
pub out_length : (f : Functions) → Lawful f → (w : Direction) (R : Run) → Bytes R.header → Bytes R.body → R.out ≡ (rows_of w f R).out → length R.out ≡ 16 * whole R.body
out_length f L w R hb bb e =
    let W = both_ways f L w in
    let o = turns_out f L w R.header in
    ap length e
    ∙ rows_length (picks w f.enc f.dec) f.chain W.permutes.enc_block W.cb (whole R.body) (turns w (start f R.header)) R.body (turns_kept f L w R.header hb) bb (omega arith)
    ∙ (rw o (omega arith))

-- rows from a state give what they give from its x and y alone, behind what the state had given
rows_lanes : (e c : List ℕ → List ℕ) (n : ℕ) (s : State) (a : List ℕ)
    → rows e c n s a ≡ record { x = (rows e c n (lanes s.x s.y) a).x; y = (rows e c n (lanes s.x s.y) a).y; out = s.out ++ (rows e c n (lanes s.x s.y) a).out }
unfolding rows next takes gives
rows_lanes e c zero s a = ap (λ o. record { x = s.x; y = s.y; out = o }) (sym (append-nil s.out))
rows_lanes e c (suc n) s a =
    let r : State = rows e c n (lanes s.x s.y) a in
    ap (λ t. next e c t (block n a)) (rows_lanes e c n s a) ∙ ap (λ o. record { x = takes c r (block n a); y = e (takes c r (block n a)); out = o }) (append_assoc s.out r.out (gives e c r (block n a)))

-- n rows over the bytes held and brought, from where the rows of M stood
module _ (e c : List ℕ → List ℕ) (s : State) (M P u : List ℕ) (n : ℕ) (ue : u ≡ drop (16 * whole M) M ++ P) (ne : whole (M ++ P) ≡ whole M + n) where
  on : rows e c (whole (M ++ P)) s (M ++ P) ≡ rows e c n (rows e c (whole M) s M) u
  on =
      let l : 16 * whole M ≤ length M = omega arith in
      ap (λ k. rows e c k s (M ++ P)) ne ∙ rows_add e c (whole M) n s (M ++ P) ∙ ap₂ (rows e c n) (rows_front e c (whole M) s M P l) (drop-append-le (16 * whole M) M P l ∙ sym ue)

  -- where they stand, and what is left
  pub stretched : (v : Lanes) (o : List ℕ) (v' : Lanes) (o' G : List ℕ) → v.taking ≡ (rows e c (whole M) s M).x → v.giving ≡ (rows e c (whole M) s M).y → G ≡ (rows e c (whole M) s M).out → Ran e c v u o n v' o'
      → (v'.taking ≡ (rows e c (whole (M ++ P)) s (M ++ P)).x) × (v'.giving ≡ (rows e c (whole (M ++ P)) s (M ++ P)).y) × (G ++ take (16 * n) o' ≡ (rows e c (whole (M ++ P)) s (M ++ P)).out)
  stretched v o v' o' G xe ye ge R =
      let t : State = rows e c (whole M) s M in
      let q : rows e c (whole (M ++ P)) s (M ++ P) ≡ record { x = (rows e c n (lanes v.taking v.giving) u).x; y = (rows e c n (lanes v.taking v.giving) u).y; out = t.out ++ (rows e c n (lanes v.taking v.giving) u).out } =
      on ∙ rows_lanes e c n t u ∙ ap₂ (λ a b. record { x = (rows e c n (lanes a b) u).x; y = (rows e c n (lanes a b) u).y; out = t.out ++ (rows e c n (lanes a b) u).out }) (sym xe) (sym ye) in (
        R.x_is ∙ sym (ap (λ (z : State). z.x) q),
        R.y_is ∙ sym (ap (λ (z : State). z.y) q),
        ap₂ (λ a b. a ++ b) ge R.front ∙ sym (ap (λ (z : State). z.out) q),
      )

  pub left : (h : List ℕ) → h ≡ take 16 (drop (16 * n) u) → h ≡ drop (16 * whole (M ++ P)) (M ++ P)
  left h he =
      let l : 16 * whole M ≤ length M = omega arith in
      let d : drop (16 * n) u ≡ drop (16 * whole (M ++ P)) (M ++ P) =
      ap (drop (16 * n)) (ue ∙ sym (drop-append-le (16 * whole M) M P l)) ∙ drop-drop (16 * n) (16 * whole M) (M ++ P) ∙ ap (λ j. drop j (M ++ P)) (omega arith) in
      he ∙ ap (take 16) d ∙ take_all 16 (drop (16 * whole (M ++ P)) (M ++ P)) (omega (arith, length-drop (16 * whole (M ++ P)) (M ++ P)))
