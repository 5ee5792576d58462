-- The lines of the answers so far are written.
use Rattle.std.proofs.Common.{take}
use Rattle.std.specs.Fmt.{HasWritten, IsPlainFormatter}
use Rattle.replay.specs.Texts.{answers_text}
use Rattle.replay.proofs.report.AnswerLinesDisplay.fmt.Given as goal

abbrev pub invariant-loop-answer : goal.invariant-loop-answer
invariant-loop-answer g l =
    IsPlainFormatter l.initial.f → HasWritten g.W.Write.write_str_gives l.initial.f (answers_text (take l.answer-index l.answer-items)) l.f
