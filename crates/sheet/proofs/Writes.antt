-- Write calls one after another.
use Rattle.std.proofs.Common.{◌≡◌, ℕ, ◌+◌, ◌≤◌, List, [], ◌∷◌, ◌++◌, length, take, drop, sym, refl, ap, ◌∙◌, append_assoc, append-nil, arith, length-append, length-drop, take-append-drop, length-take-le}
use Rattle.std.proofs.lemmas.List.{take_at, take_all, drop_at, drop_all, drop-drop}
use Rattle.sheet.specs.Entries.{Item, AllGood, bytes, sheet_of}
use Rattle.sheet.specs.Laws.{Writes, Written, WrittenFromStart, SheetLaw, WritingLaw}

-- a buffer after one write
module _ (old b : List ℕ) (at q : ℕ) (le : at ≤ length old) (qe : q ≡ at + length b) (ql : q ≤ length old) where
  front_long : length (take at old ++ b) ≡ q
  front_long = length-append (take at old) b ∙ ap (λ n. n + length b) (length-take-le at old le) ∙ sym qe

  regrouped : take at old ++ (b ++ drop q old) ≡ (take at old ++ b) ++ drop q old
  regrouped = sym (append_assoc (take at old) b (drop q old))

  pub mid_take : take q (take at old ++ (b ++ drop q old)) ≡ take at old ++ b
  mid_take = ap (take q) regrouped ∙ take_at (take at old ++ b) (drop q old) q front_long

  mid_drop : drop q (take at old ++ (b ++ drop q old)) ≡ drop q old
  mid_drop = ap (drop q) regrouped ∙ drop_at (take at old ++ b) (drop q old) q front_long

  pub mid_rest : (end k : ℕ) → end ≡ q + k → drop end (take at old ++ (b ++ drop q old)) ≡ drop end old
  mid_rest end k e =
      ap (λ n. drop n (take at old ++ (b ++ drop q old))) e
      ∙ sym (drop-drop k q (take at old ++ (b ++ drop q old))) ∙ ap (drop k) mid_drop ∙ drop-drop k q old
      ∙ ap (λ n. drop n old) (sym e)

  pub mid_long : length (take at old ++ (b ++ drop q old)) ≡ length old
  mid_long =
      let l = ap length regrouped ∙ length-append (take at old ++ b) (drop q old) in
      let m = length-drop q old in
      omega (arith, front_long)

  -- and what is written behind it
  pub mid_next : (s : List ℕ) (end : ℕ) → end ≡ q + length s → (take q (take at old ++ (b ++ drop q old)) ++ (s ++ drop end (take at old ++ (b ++ drop q old)))) ≡ take at old ++ ((b ++ s) ++ drop end old)
  mid_next s end e =
      ap (λ x. x ++ (s ++ drop end (take at old ++ (b ++ drop q old)))) mid_take
      ∙ ap (λ x. (take at old ++ b) ++ (s ++ x)) (mid_rest end (length s) e)
      ∙ simp append_assoc

wrote : (es : List Item) (old new : List ℕ) (at end : ℕ) → at ≤ length old → Writes es old new at end → Written es old new at end
wrote [] old new at end le w = record {
  good = tt;
  end_is = omega (arith, w.1);
  room = omega (arith, w.1);
  new_is = w.0 ∙ sym (take-append-drop at old) ∙ ap (λ n. take at old ++ drop n old) (sym w.1);
}
wrote (e ∷ es) old new at end le (m, q, w, ws) =
    let b = bytes e in
    let long : length m ≡ length old = ap length w.3 ∙ mid_long old b at q le w.1 w.2 in
    let r = wrote es m new q end (omega (arith, w.2)) ws in
    let ends : end ≡ q + length (sheet_of es) = r.end_is in
    record {
      good = (w.0, r.good);
      end_is = omega (arith, w.1, r.end_is, length-append b (sheet_of es));
      room = omega (arith, r.room);
      new_is = r.new_is ∙ ap (λ x. take q x ++ (sheet_of es ++ drop end x)) w.3 ∙ mid_next old b at q le w.1 w.2 (sheet_of es) end ends;
    }

can_write : (es : List Item) (old new : List ℕ) (at end : ℕ) → at ≤ length old → Written es old new at end → Writes es old new at end
can_write [] old new at end le w =
    let e : end ≡ at = omega (arith, w.end_is) in
    (w.new_is ∙ ap (λ n. take at old ++ drop n old) e ∙ take-append-drop at old, e)
can_write (e ∷ es) old new at end le w =
    let b = bytes e in
    let q = at + length b in
    let l = length-append b (sheet_of es) in
    let ends : end ≡ q + length (sheet_of es) = omega (arith, w.end_is) in
    let ql : q ≤ length old = omega (arith, w.room) in
    let m = take at old ++ (b ++ drop q old) in
    let long : length m ≡ length old = mid_long old b at q le refl ql in (
      m,
      q,
      (w.good.0, refl, ql, refl),
      can_write es m new q end (omega arith) (record {
        good = w.good.1;
        end_is = ends;
        room = omega (arith, w.room);
        new_is = w.new_is ∙ sym (mid_next old b at q le refl ql (sheet_of es) end ends);
      }),
    )

pub writing : WritingLaw
writing es old new at end le = (wrote es old new at end le, can_write es old new at end le)

-- from the start of a buffer as long as the sheet, or of any other
from_start : (es : List Item) (s : List ℕ) → WrittenFromStart es s → AllGood es × (s ≡ sheet_of es)
from_start es s (old, new, end, w, e) =
    let r = wrote es old new 0 end (omega arith) w in
    (r.good, e ∙ ap (take end) r.new_is ∙ take_at (sheet_of es) (drop end old) end (omega (arith, r.end_is)))

into_start : (es : List Item) (s : List ℕ) → AllGood es × (s ≡ sheet_of es) → WrittenFromStart es s
into_start es s (g, e) =
    let t = sheet_of es in
    let end = length t in
    let w : Written es t t 0 end = record {
      good = g;
      end_is = omega arith;
      room = omega arith;
      new_is = sym (append-nil t) ∙ ap (λ x. t ++ x) (sym (drop_all end t (omega arith)));
    } in
    (t, t, end, can_write es t t 0 end (omega arith) w, e ∙ sym (take_all end t (omega arith)))

pub sheets : SheetLaw
sheets es s = (from_start es s, into_start es s)
