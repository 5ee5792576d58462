-- With the replies that are still to come, those so far are all.
use Rattle.std.proofs.Common.{◌≡◌, List}
use Rattle.sheet.specs.Entries.{Item, AllGood, sheet_of}
use Rattle.reading.specs.Replies.{asks_of}
use Rattle.reading.proofs.Replying.{Gone, Sofar}
use Rattle.reading.proofs.answers.answer.Given as goal

abbrev pub invariant-loop-call : goal.invariant-loop-call
invariant-loop-call l = (l.reader.sheet ≡ l.initial.reader.sheet) × (asks_of l.calls ≡ asks_of l.initial.calls) × Gone l.reader l.initial.calls l.calls l.call-index
    × ((es : List Item) → AllGood es → l.initial.reader.sheet.now ≡ sheet_of es → Sofar l.reader l.initial.calls l.calls l.call-index es)
