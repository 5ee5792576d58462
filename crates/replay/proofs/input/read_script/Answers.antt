use Rattle.std.proofs.Common.{◌≡◌, ◌<◌, ◌++◌, false, true, length, refl, sym, ap, ◌∙◌, rules}
use Rattle.std.specs.Io.BufRead.{ends_with_byte}
use Rattle.std.proofs.KnownBytes.{Consumes-trans}
use Rattle.replay.specs.Scripts.{written_in}
use Rattle.replay.proofs.Through.{bad, last_read, line_is, no_more, not_err, one_more, stopped}
use Rattle.replay.proofs.Writes.{any_err}
use Rattle.replay.proofs.input.read_script.Goals as goal

pub returns-in_err-line-clause-failed : goal.returns-in_err-line-clause-failed
returns-in_err-line-clause-failed g c =
    let so_far = c.loop-before.invariant in
    let failed = c.in_err-line.ensures.failed in
    any_err c.from_residual.result (so_far.read ++ failed.0, Consumes-trans _ _ _ _ _ so_far.consumes failed.1)

pub returns-then-is_empty-clause-read : goal.returns-then-is_empty-clause-read
returns-then-is_empty-clause-read g c =
    let none : length c.in_ok-line.line.items ≡ 0 = search rules in
    no_more _ _ _ _ _ c.loop-before.invariant _ c.in_ok-line.ensures.read none

pub returns-in_err-outcome-clause-failed : goal.returns-in_err-outcome-clause-failed
returns-in_err-outcome-clause-failed g c =
    let so_far = c.loop-before.invariant in
    any_err c.from_residual-in_err-outcome.result (so_far.read ++ c.in_ok-line.line.items, Consumes-trans _ _ _ _ _ so_far.consumes c.in_ok-line.ensures.read.consumes)

pub returns-in-Err-clause-read : goal.returns-in-Err-clause-read
returns-in-Err-clause-read g c =
    let some : 0 < length c.in_ok-line.line.items = search rules in
    let text = line_is _ _ _ c.as_slice.ensures.value c.cut_end-ended.ensures.text c.in_ok-line.ensures.read.one some in
    stopped _ _ _ _ _ c.loop-before.invariant _ c.in_ok-line.ensures.read _ text _ (bad _ _ (written_in c.take_line.new.script) c.in-Err.outcome c.in_ok-outcome.ensures c.in-Err.is) c.in-Err.outcome refl

pub returns-then-not-ended-clause-read : goal.returns-then-not-ended-clause-read
returns-then-not-ended-clause-read g c =
    let some : 0 < length c.in_ok-line.line.items = search rules in
    let text = line_is _ _ _ c.as_slice.ensures.value c.cut_end-ended.ensures.text c.in_ok-line.ensures.read.one some in
    let bare : ends_with_byte 10 c.in_ok-line.line.items ≡ false = ap (ends_with_byte 10) (sym c.as_slice.ensures.value) ∙ sym c.cut_end-ended.ensures.ended ∙ c.if-not-ended.true in
    last_read _ _ _ _ _ c.loop-before.invariant _ c.in_ok-line.ensures.read _ text _ (c.in_ok-outcome.ensures ∙ not_err _ _ c.in_default.not-Err) bare

pub loop-before-preserved : goal.loop-before-preserved
loop-before-preserved g c =
    let some : 0 < length c.in_ok-line.line.items = search rules in
    let text = line_is _ _ _ c.as_slice.ensures.value c.cut_end-ended.ensures.text c.in_ok-line.ensures.read.one some in
    let is_whole : ends_with_byte 10 c.in_ok-line.line.items ≡ true = ap (ends_with_byte 10) (sym c.as_slice.ensures.value) ∙ sym c.cut_end-ended.ensures.ended ∙ c.if-not-ended.false in
    one_more _ _ _ _ _ c.loop-before.invariant _ c.in_ok-line.ensures.read _ text _ (c.in_ok-outcome.ensures ∙ not_err _ _ c.in_default.not-Err) (written_in c.take_line.new.script) refl is_whole
