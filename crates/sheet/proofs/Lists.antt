-- A whole list of entries, measured and written entry by entry.
use Rattle.std.proofs.Common.{◌≡◌, ℕ, suc, ◌+◌, ◌<◌, ◌≤◌, List, [], ◌∷◌, ◌++◌, map, length, get_or, take, drop, sym, refl, ap, ◌∙◌, subst, append_assoc, append-nil, take-append-drop, add-one, arith, length-append, length-drop}
use Rattle.std.proofs.Math.Seq.{take-suc, drop-cons}
use Rattle.std.proofs.lemmas.List.{map-append, take_at, take_all, drop_at, drop-drop}
use Rattle.fault.specs.declared.kinds.SheetFault.{SheetFault}
use Rattle.fault.specs.declared.kinds.Placed.{Placed}
use Rattle.sheet.specs.Entries.{Item, Good, AllGood, bytes, sheet_of, Lent, item_of}
use Rattle.sheet.specs.Calls.{NotWritten}
use Rattle.sheet.specs.Laws.{NotAll, WrittenFromStart}
use Rattle.sheet.proofs.Decoding.{all_good_push, sheet_push}
use Rattle.sheet.proofs.Writes.{sheets}

-- the entries so far are good, and end at a place within the room
pub record GoodSofar (es : List Item) (room at : ℕ) : Type 0 where
  pub good : AllGood es
  pub end : at ≡ length (sheet_of es)
  pub within : at ≤ room

-- the entries so far are written, up to a place
pub record WrittenSofar (es : List Item) (old new : List ℕ) (at : ℕ) : Type 0 where
  pub end : at ≡ length (sheet_of es)
  pub within : at ≤ length old
  pub is : new ≡ sheet_of es ++ drop at old

pushed_length : (es : List Item) (e : Item) → length (sheet_of (es ++ e ∷ [])) ≡ length (sheet_of es) + length (bytes e)
pushed_length es e =
    ap length (sym (append-nil (sheet_of (es ++ e ∷ []))) ∙ sheet_push es e [] ∙ ap (λ x. sheet_of es ++ x) (append-nil (bytes e)))
    ∙ length-append (sheet_of es) (bytes e)

-- the entry at place i of a list of lent entries
module _ (es : List Lent) (i : ℕ) (d : Lent) (lt : i < length es) where
  abbrev pub entry : Item
  entry = item_of (get_or es i d)

  abbrev pub sofar : ℕ → List Item
  sofar n = map item_of (take n es)

  sofar_more : sofar (i + 1) ≡ sofar i ++ entry ∷ []
  sofar_more = ap sofar (add-one i) ∙ ap (map item_of) (take-suc es i d lt) ∙ map-append item_of (take i es) (get_or es i d ∷ [])

  split : map item_of es ≡ sofar i ++ entry ∷ map item_of (drop (suc i) es)
  split =
      ap (map item_of) (sym (take-append-drop i es) ∙ ap (λ x. take i es ++ x) (drop-cons es i d lt))
      ∙ map-append item_of (take i es) (get_or es i d ∷ drop (suc i) es)

  pub good_more : (room at size : ℕ) → GoodSofar (sofar i) room at → Good entry → size ≡ length (bytes entry) → at + size ≤ room → GoodSofar (sofar (i + 1)) room (at + size)
  good_more room at size s g e w =
      subst (λ x. GoodSofar x room (at + size)) (sym sofar_more) (record {
        good = all_good_push (sofar i) entry s.good g;
        end = omega (arith, s.end, e, pushed_length (sofar i) entry);
        within = w;
      })

  pub not_all : (room at : ℕ) (f : Placed SheetFault) → GoodSofar (sofar i) room at → NotWritten room at entry (bytes entry) f → NotAll (map item_of es) room f
  not_all room at f s n = record {
    before = sofar i;
    entry = entry;
    after = map item_of (drop (suc i) es);
    order = split;
    good = s.good;
    fits = subst (λ x. x ≤ room) s.end s.within;
    refused = subst (λ x. NotWritten room x entry (bytes entry) f) s.end n;
  }

  -- what the whole list has, its entries have
  good_behind : (xs ys : List Item) → AllGood (xs ++ ys) → AllGood ys
  good_behind [] ys g = g
  good_behind (x ∷ xs) ys g = good_behind xs ys g.1

  pub good_at : AllGood (map item_of es) → Good entry
  good_at g = (good_behind (sofar i) _ (subst AllGood split g)).0

  sheet_append : (xs ys : List Item) → sheet_of (xs ++ ys) ≡ sheet_of xs ++ sheet_of ys
  sheet_append [] ys = refl
  sheet_append (x ∷ xs) ys = ap (λ s. bytes x ++ s) (sheet_append xs ys) ∙ sym (append_assoc (bytes x) (sheet_of xs) (sheet_of ys))

  pub room_at : (room at : ℕ) → length (sheet_of (map item_of es)) ≤ room → at ≡ length (sheet_of (sofar i)) → at + length (bytes entry) ≤ room
  room_at room at w e =
      let rest = sheet_of (map item_of (drop (suc i) es)) in
      let l = ap (λ x. length (sheet_of x)) split ∙ ap length (sheet_append (sofar i) _) ∙ length-append (sheet_of (sofar i)) (bytes entry ++ rest) in
      let m = length-append (bytes entry) rest in
      omega (arith, l, m, e)

  pub written_more : (old new next : List ℕ) (at q : ℕ) → length (sheet_of (map item_of es)) ≤ length old → WrittenSofar (sofar i) old new at → q ≡ at + length (bytes entry) → next ≡ take at new ++ (bytes entry ++ drop q new) → WrittenSofar (sofar (i + 1)) old next q
  written_more old new next at q w s e n =
      let front = sheet_of (sofar i) in
      let t : take at new ≡ front = ap (take at) s.is ∙ take_at front (drop at old) at (sym s.end) in
      let k = length (bytes entry) in
      let r : drop q new ≡ drop q old =
      ap (λ j. drop j new) (e ∙ omega arith) ∙ sym (drop-drop k at new)
      ∙ ap (drop k) (ap (drop at) s.is ∙ drop_at front (drop at old) at (sym s.end)) ∙ drop-drop k at old ∙ ap (λ j. drop j old) (omega (arith, e))
      in
      subst (λ x. WrittenSofar x old next q) (sym sofar_more) (record {
        end = omega (arith, s.end, e, pushed_length (sofar i) entry);
        within = omega (arith, e, room_at (length old) at w s.end);
        is = n ∙ ap (λ x. x ++ (bytes entry ++ drop q new)) t ∙ ap (λ x. front ++ (bytes entry ++ x)) r ∙ sym (sheet_push (sofar i) entry (drop q old));
      })

pub written_long : (es : List Item) (old new : List ℕ) (at : ℕ) → WrittenSofar es old new at → length new ≡ length old
written_long es old new at s = let l = ap length s.is ∙ length-append (sheet_of es) (drop at old) in let m = length-drop at old in omega (arith, s.end, s.within)

-- at the end of the list
pub all_written : (es : List Lent) (i : ℕ) (old new : List ℕ) (at n : ℕ) → length es ≤ i → WrittenSofar (map item_of (take i es)) old new at → AllGood (map item_of es) → n ≡ length (sheet_of (map item_of es)) → WrittenFromStart (map item_of es) (take n new)
all_written es i old new at n l s g e =
    let all = map item_of es in
    let t : map item_of (take i es) ≡ all = ap (map item_of) (take_all i es l) in
    let w = subst (λ x. WrittenSofar x old new at) t s in
    let is : new ≡ sheet_of all ++ drop n old = w.is ∙ ap (λ k. sheet_of all ++ drop k old) (w.end ∙ sym e) in
    (sheets all (take n new)).1 (g, ap (take n) is ∙ take_at (sheet_of all) (drop n old) n (sym e))
