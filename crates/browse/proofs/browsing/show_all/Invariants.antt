-- The text for the replies so far is written.
use Rattle.std.proofs.Common.{take}
use Rattle.std.specs.Io.KnownBytes.{Appends}
use Rattle.reading.specs.Replies.{replies_of}
use Rattle.browse.specs.Shown.{replies_text}
use Rattle.browse.proofs.browsing.show_all.Given as goal

abbrev pub invariant-loop-call : goal.invariant-loop-call
invariant-loop-call g l = Appends (g.W.Write.contents l.initial.writer) (g.W.Write.contents l.writer) (replies_text (replies_of (take l.call-index l.calls)))
