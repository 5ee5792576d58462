-- What a reader answers to any list of calls, over the list of entries that is left to it.
use Rattle.std.specs.Prelude.{◌≡◌, ℕ, suc, ◌+◌, ◌-◌, List, [], ◌∷◌, length, map, take}
use Rattle.std.specs.Prelude.{Some, None, Ok, Err, Option, Result}
use Rattle.fault.specs.declared.kinds.SheetFault.{SheetFault}
use Rattle.fault.specs.declared.kinds.Placed.{Placed}
use Rattle.sheet.specs.Entries.{Item, Lent, bytes, item_of}
use Rattle.sheet.specs.Calls as sheet
use Rattle.sheet.specs.Calls.{AnsweredInPlace, InPlace, last_field, last_of}
use Rattle.reading.specs.declared.script.Ask.{Ask}
use Rattle.reading.specs.declared.script.Ask.TheVariants.{Next, Field}
use Rattle.reading.specs.declared.script.Reply.{Reply}
use Rattle.reading.specs.declared.script.Reply.TheVariants as reply
use Rattle.reading.specs.declared.script.Call.{Call}

-- The replies to calls on a reader at place p of the sheet, which stands at b in memory, that last
-- answered `last` and is left with the entries es. A next call answers the following entry, whose
-- texts are those very parts of the sheet, or the end where none is left. A field call answers that
-- field of the entry last answered, or that it is absent.
abbrev pub Answered : (b : ℕ × ℕ) (p : ℕ) (last : Option Lent) (es : List Item)
    → List Ask → List (Option Reply) → Type 0
Answered b p last es [] [] = Unit {0}
Answered b p last [] (Next ∷ qs) (r ∷ rs) =
    (r ≡ Some (reply.Next (Ok None))) × Answered b p last [] qs rs
Answered b p last (e ∷ es) (Next ∷ qs) (r ∷ rs) =
    (x : Lent) × (r ≡ Some (reply.Next (Ok (Some x)))) × (item_of x ≡ e)
    × InPlace b p (p + length (bytes e)) x
    × Answered b (p + length (bytes e)) (Some x) es qs rs
Answered b p last es (Field k ∷ qs) (r ∷ rs) =
    (r ≡ Some (reply.Field (last_field k last))) × Answered b p last es qs rs
Answered b p last es [] (r ∷ rs) = ⊥
Answered b p last es (q ∷ qs) [] = ⊥

-- The replies to calls on a reader at place p of any bytes s, which stand at b in memory, that last
-- answered `last`. A next call gives what the reader answers there, o, and leads to the place q; a
-- field call gives that field of the entry last answered, or that it is absent.
abbrev pub Replies : (s : List ℕ) (b : ℕ × ℕ) (p : ℕ) (last : Option Lent)
    → List Ask → List (Option Reply) → Type 0
Replies s b p last [] [] = Unit {0}
Replies s b p last (Next ∷ qs) (r ∷ rs) =
    (q : ℕ) × (o : Result (Option Lent) (Placed SheetFault)) × (r ≡ Some (reply.Next o))
    × sheet.Answered s p q o × AnsweredInPlace b p q o × Replies s b q (last_of last o) qs rs
Replies s b p last (Field k ∷ qs) (r ∷ rs) =
    (r ≡ Some (reply.Field (last_field k last))) × Replies s b p last qs rs
Replies s b p last [] (r ∷ rs) = ⊥
Replies s b p last (q ∷ qs) [] = ⊥

-- what calls ask, and what is in their places for replies
abbrev pub asks_of : List Call → List Ask
asks_of cs = map (λ c. c.ask) cs

abbrev pub replies_of : List Call → List (Option Reply)
replies_of cs = map (λ c. c.reply) cs

-- the entries among replies, in order, and how many of them are the end; how many calls are next
-- calls
abbrev pub entries_in : List (Option Reply) → List Item
entries_in [] = []
entries_in (Some (reply.Next (Ok (Some x))) ∷ rs) = item_of x ∷ entries_in rs
entries_in (Some (reply.Next (Ok None)) ∷ rs) = entries_in rs
entries_in (Some (reply.Next (Err f)) ∷ rs) = entries_in rs
entries_in (Some (reply.Field o) ∷ rs) = entries_in rs
entries_in (None ∷ rs) = entries_in rs

abbrev pub ends_in : List (Option Reply) → ℕ
ends_in [] = 0
ends_in (Some (reply.Next (Ok (Some x))) ∷ rs) = ends_in rs
ends_in (Some (reply.Next (Ok None)) ∷ rs) = suc (ends_in rs)
ends_in (Some (reply.Next (Err f)) ∷ rs) = ends_in rs
ends_in (Some (reply.Field o) ∷ rs) = ends_in rs
ends_in (None ∷ rs) = ends_in rs

abbrev pub nexts : List Ask → ℕ
nexts [] = 0
nexts (Next ∷ qs) = suc (nexts qs)
nexts (Field k ∷ qs) = nexts qs

-- The calls cs became cs', answered by a new reader over the sheet of es, all of them: each as
-- above; the entries answered are the first of es, as many as there were next calls, whatever field
-- calls came between; and the end is answered to the next calls that are left when all of es were.
pub record AllAnswered (b : ℕ × ℕ) (es : List Item) (cs cs' : List Call) : Type 0 where
  pub asks : asks_of cs' ≡ asks_of cs
  pub each : Answered b 0 None es (asks_of cs) (replies_of cs')
  pub entries : entries_in (replies_of cs') ≡ take (nexts (asks_of cs)) es
  pub ends : ends_in (replies_of cs') ≡ nexts (asks_of cs) - length es
