-- The list that a delivery holds, and what comes of playing calls on it.
use Rattle.std.specs.Prelude.{◌≡◌, ℕ, List, Some, IfOk, OnErr}
use Rattle.std.specs.Borrow.{MutBor}
use Rattle.poet.specs.Functions.{Functions}
use Rattle.sheet.specs.Entries.{Item}
use Rattle.delivery.specs.Told.{suite_of}
use Rattle.delivery.specs.Sheets.{SheetSeals, SheetCall}
use Rattle.wire.specs.Wire.{Parts}
use Rattle.reading.specs.declared.script.Call.{Call}
use Rattle.reading.specs.declared.script.Played.{Played}
use Rattle.reading.specs.Replies.{AllAnswered}

-- The suite of the delivery p is listed, and the list es, written and sealed under the key and the
-- header, gives ciphertext and tag.
pub record Holds (p : Parts) (es : List Item) : Type 0 where
  pub under : List ℕ → Functions
  pub listed : suite_of p.suite ≡ Some under
  pub list : SheetSeals (under p.key) p.header es p.ciphertext p.tag

-- The calls cs became cs', on the sheet that was opened into the buffer b, which held o.
pub record PlayedCall (under : List ℕ → Functions) (key H C T : List ℕ) (b : MutBor (List ℕ))
    (o : List ℕ) (cs cs' : List Call) (r : Played) : Type 0 where
  pub opened : SheetCall under key H C T o r.buffer.now r.outcome
  pub answered : IfOk r.outcome (λ n. (es : List Item) → SheetSeals (under key) H es C T
      → AllAnswered b.ref_ptr es cs cs')
  pub unanswered : OnErr r.outcome (cs' ≡ cs)
  pub lent : r.buffer.ref_ptr ≡ b.ref_ptr
