use Rattle.replay.proofs.Cuts.{bare_line, cut_line, uncut_line}
use Rattle.replay.proofs.input.cut_end.Goals as goal

pub returns-then-last-ne10-clause-text : goal.returns-then-last-ne10-clause-text
returns-then-last-ne10-clause-text c one some = bare_line c.args.line.now c.in-Some.text.now c.in-Some.last.now c.in-Some.ensures.cases.0 one c.if-last-ne10.true

pub returns-then-last-eq13-clause-text : goal.returns-then-last-eq13-clause-text
returns-then-last-eq13-clause-text c one some = cut_line c.args.line.now c.in-Some.text.now c.in-Some-split_last.before.now c.in-Some.last.now c.in-Some-split_last.last.now c.in-Some.ensures.cases.0 c.if-last-ne10.false c.in-Some-split_last.ensures.cases.0 c.if-last-eq13.true one

pub returns-else-last-eq13-clause-text : goal.returns-else-last-eq13-clause-text
returns-else-last-eq13-clause-text c one some = uncut_line c.args.line.now c.in-Some.text.now c.in-Some-split_last.before.now c.in-Some.last.now c.in-Some-split_last.last.now c.in-Some.ensures.cases.0 c.if-last-ne10.false c.in-Some-split_last.ensures.cases.0 c.if-last-eq13.false one
