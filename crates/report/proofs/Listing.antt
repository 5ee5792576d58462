-- The lines of a sheet, one behind the other in a text, and how many bytes they may be.
use Rattle.std.proofs.Common.{◌≡◌, ℕ, ◌+◌, ◌*◌, ◌≤◌, List, [], ◌∷◌, ◌++◌, length, take, drop, Some, None, Ok, Err, Option, Result, sym, ap, ◌∙◌, subst, ⊎_elim, append_assoc, append-nil, arith, length-append, length-take, length-drop}
use Rattle.std.specs.Result.{IsOkAnd}
use Rattle.std.proofs.lemmas.List.{take_at, drop_at, drop-drop}
use Rattle.fault.specs.declared.kinds.SheetFault.{SheetFault}
use Rattle.fault.specs.declared.kinds.Placed.{Placed}
use Rattle.sheet.specs.declared.reader.Reader.{Reader}
use Rattle.sheet.specs.Table.{row_of}
use Rattle.sheet.specs.Entries.{Item, Good, AllGood, bytes, two, text, one, counted, held, item_map, sheet_of, Lent, item_of}
use Rattle.sheet.specs.Calls.{Follows}
use Rattle.listing.specs.Lines.{line_of, Lined}
use Rattle.listing.proofs.Lengths.{line_law}
use Rattle.listing.specs.declared.lines.TheConstants.{LINE_LIMIT}
use Rattle.report.specs.declared.lines.TheConstants.{ENTRY_LEAST, LIST_LIMIT}
use Rattle.report.specs.Lists.{list_of}
use Rattle.report.specs.Report.{Judged, Listed}
use Rattle.wire.specs.Wire.{ciphertext_limit}

-- ---- a list that a sheet has room for has room in a text

total : (a b c d e f g : List ℕ) → length (a ++ (b ++ (c ++ (d ++ (e ++ (f ++ g)))))) ≡ length a + length b + length c + length d + length e + length f + length g
total a b c d e f g = simp length-append (omega arith)

entry_least : (e : Item) → Good e → ENTRY_LEAST ≤ length (bytes e)
unfolding row_of
entry_least e g =
    let k : length e.code ≡ 8 = g.code.0 in
    omega (arith, total (two (item_map e)) e.code (held text e.parent) (two e.count) (held one e.landing) (held two e.months) (held counted e.drawing))

entries_most : (es : List Item) → AllGood es → ENTRY_LEAST * length es ≤ length (sheet_of es)
entries_most [] g = omega arith
entries_most (e ∷ es) g = omega (arith, length-append (bytes e) (sheet_of es), entry_least e g.0, entries_most es g.1)

lines_most : (es : List Item) → AllGood es → length (list_of es) ≤ LINE_LIMIT * length es
lines_most [] g = omega arith
lines_most (e ∷ es) g = omega (arith, length-append (line_of e) (list_of es), (line_law e g.0).0, lines_most es g.1)

-- what putting the lines of a sheet into a text answers
abbrev pub PutsLines : (sheet old new : List ℕ) → Result ℕ (Placed SheetFault) → Type 0
PutsLines sheet old new r = (es : List Item) → AllGood es → sheet ≡ sheet_of es → length (list_of es) ≤ length old → IsOkAnd r (λ n. (n ≡ length (list_of es)) × (new ≡ list_of es ++ drop n old))

-- a judged input, whose sheet is the front of an opened buffer, and the lines of that
module _ (input opened old new : List ℕ) (n : ℕ) (judged : Judged input opened (Ok n)) (o : length opened ≤ ciphertext_limit) (t : length old ≡ LIST_LIMIT) where
  list_fits : length (list_of judged.0) ≤ length old
  list_fits =
      let l = ap length judged.4 in
      let k = length-take n opened in
      omega (arith, entries_most judged.0 judged.2, lines_most judged.0 judged.2, l, k)

  pub never_short : (f : Placed SheetFault) → PutsLines (take n opened) old new (Err f) → ⊥
  never_short f puts = puts judged.0 judged.2 judged.4 list_fits

  pub listed : (k : ℕ) → PutsLines (take n opened) old new (Ok k) → Listed input new (Ok k) × (k ≤ LIST_LIMIT) × (drop k new ≡ drop k old)
  listed k puts =
      let (long, is) = puts judged.0 judged.2 judged.4 list_fits in (
        (judged.0, judged.1, ap (take k) is ∙ take_at (list_of judged.0) (drop k old) k (sym long)),
        omega (arith, long, list_fits),
        ap (drop k) is ∙ drop_at (list_of judged.0) (drop k old) k (sym long),
      )

-- ---- line by line

-- The lines so far of a sheet with the entries es are in the front of the text, up to a place, and the entries that are left to the reader: with the lines of those, the list is whole.
pub record Sofar (old now : List ℕ) (at : ℕ) (r : Reader) (es : List Item) : Type 0 where
  pub rest : List Item
  pub done : List ℕ
  pub good : AllGood rest
  pub left : drop r.place r.sheet.now ≡ sheet_of rest
  pub whole : done ++ list_of rest ≡ list_of es
  pub end : at ≡ length done
  pub is : now ≡ done ++ drop at old

-- what a next call answers on a sheet of good entries
abbrev pub Reads : (r r' : Reader) → Result (Option Lent) (Placed SheetFault) → Type 0
Reads r r' o = (es : List Item) → AllGood es → drop r.place r.sheet.now ≡ sheet_of es → Follows r.sheet.now r'.place es o

-- an entry that a reader answers is the first of those that are left, and good
record First (r' : Reader) (s : List ℕ) (e : Lent) (rest : List Item) : Type 0 where
  pub good : Good (item_of e)
  pub others : List Item
  pub all_good : AllGood others
  pub are : rest ≡ item_of e ∷ others
  pub left : drop r'.place s ≡ sheet_of others

module _ (old now : List ℕ) (at : ℕ) (r r' : Reader) (es : List Item) (room : length (list_of es) ≤ length old) (so : Sofar old now at r es) where
  first : (e : Lent) (rest : List Item) → AllGood rest → Follows r.sheet.now r'.place rest (Ok (Some e)) → First r' r.sheet.now e rest
  first e [] g f = absurd f
  first e (d ∷ ds) g f = record { good = subst Good (sym f.0) g.0; others = ds; all_good = g.1; are = ap (λ (x : Item). x ∷ ds) (sym f.0); left = f.1 }

  long : length now + at ≡ length so.done + length old
  long =
      let l = ap length so.is ∙ length-append so.done (drop at old) in
      let m = length-drop at old in
      let w = ap length so.whole in
      let k = length-append so.done (list_of so.rest) in
      let e = so.end in
      omega (arith, l, m, w, k, e, room)

  module _ (e : Lent) (reads : Reads r r' (Ok (Some e))) where
    next : First r' r.sheet.now e so.rest
    next = first e so.rest so.good (reads so.rest so.good so.left)

    with_line : so.done ++ (line_of (item_of e) ++ list_of next.others) ≡ list_of es
    with_line = ap (λ (x : List Item). so.done ++ list_of x) (sym next.are) ∙ so.whole

    pub one_put : r'.sheet.now ≡ r.sheet.now → (q : ℕ) (new : List ℕ) → Lined now new at (item_of e) (Ok q) → Sofar old new q r' es
    one_put same q new p =
        let b = line_of (item_of e) in
        let front : take at now ≡ so.done = ap (take at) so.is ∙ take_at so.done (drop at old) at (sym so.end) in
        let behind : drop q now ≡ drop q old =
        ap (λ j. drop j now) (p.1 ∙ omega arith) ∙ sym (drop-drop (length b) at now)
        ∙ ap (drop (length b)) (ap (drop at) so.is ∙ drop_at so.done (drop at old) at (sym so.end))
        ∙ drop-drop (length b) at old ∙ ap (λ j. drop j old) (omega (arith, p.1)) in
        record {
          rest = next.others;
          done = so.done ++ b;
          good = next.all_good;
          left = ap (drop r'.place) same ∙ next.left;
          whole = append_assoc so.done b (list_of next.others) ∙ with_line;
          end = omega (arith, p.1, so.end, length-append so.done b);
          is = p.3 ∙ ap (λ x. x ++ (b ++ drop q now)) front ∙ ap (λ x. so.done ++ (b ++ x)) behind ∙ sym (append_assoc so.done b (drop q old));
        }

    pub has_room : (f : Placed SheetFault) (new : List ℕ) → Lined now new at (item_of e) (Err f) → ⊥
    has_room f new p =
        let w = ap length with_line in
        let k = length-append so.done (line_of (item_of e) ++ list_of next.others) in
        let l = length-append (line_of (item_of e)) (list_of next.others) in
        ⊎_elim (λ v. v.1 next.good) (λ v. let short = v.2 in let m = long in let d = so.end in omega (arith, w, k, l, short, m, d, room)) p.1

  last : (rest : List Item) → Follows r.sheet.now r'.place rest (Ok None) → so.done ++ list_of rest ≡ list_of es → so.done ≡ list_of es
  last [] f w = sym (append-nil so.done) ∙ w
  last (d ∷ ds) f w = absurd f

  pub all_put : Reads r r' (Ok None) → (at ≡ length (list_of es)) × (now ≡ list_of es ++ drop at old)
  all_put reads =
      let e = last so.rest (reads so.rest so.good so.left) so.whole in (
        so.end ∙ ap length e,
        so.is ∙ ap (λ (x : List ℕ). x ++ drop at old) e,
      )

  none_refused : (f : Placed SheetFault) (rest : List Item) → Follows r.sheet.now r'.place rest (Err f) → ⊥
  none_refused f [] h = absurd h
  none_refused f (d ∷ ds) h = absurd h

  pub never_refused : (f : Placed SheetFault) → Reads r r' (Err f) → ⊥
  never_refused f reads = none_refused f so.rest (reads so.rest so.good so.left)
