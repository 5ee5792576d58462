-- A reader by the entries that are left to it, and one call on it. No contract of a public function
-- cites it.
use Rattle.std.specs.Prelude.{◌≡◌, List, ◌∷◌, drop, Some, Option}
use Rattle.sheet.specs.declared.reader.Reader.{Reader}
use Rattle.sheet.specs.Entries.{Item, AllGood, sheet_of}
use Rattle.reading.specs.declared.script.Ask.{Ask}
use Rattle.reading.specs.declared.script.Reply.{Reply}
use Rattle.reading.specs.Replies.{Answered, Replies}

-- good entries are left, and these are their bytes
pub record ReaderAt (r : Reader) (es : List Item) : Type 0 where
  pub good : AllGood es
  pub left : drop r.place r.sheet.now ≡ sheet_of es

-- One call q on the reader r, which becomes r', answered a: before the replies to any calls from
-- there on, it makes the replies from here on.
abbrev pub LeadsOn : (r r' : Reader) (q : Ask) (a : Reply) → List Item → Type 0
LeadsOn r r' q a es = (es' : List Item) × ReaderAt r' es'
    × ((qs : List Ask) (rs : List (Option Reply))
    → Answered r.sheet.ref_ptr r'.place r'.last es' qs rs
    → Answered r.sheet.ref_ptr r.place r.last es (q ∷ qs) (Some a ∷ rs))

pub record Replied (r r' : Reader) (q : Ask) (a : Reply) : Type 0 where
  pub same : r'.sheet ≡ r.sheet
  pub goes : (qs : List Ask) (rs : List (Option Reply))
      → Replies r.sheet.now r.sheet.ref_ptr r'.place r'.last qs rs
      → Replies r.sheet.now r.sheet.ref_ptr r.place r.last (q ∷ qs) (Some a ∷ rs)
  pub leads : (es : List Item) → ReaderAt r es → LeadsOn r r' q a es
