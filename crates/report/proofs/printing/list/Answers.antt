use Rattle.std.proofs.Common.{rules}
use Rattle.report.proofs.Listing.{never_short, listed}
use Rattle.report.proofs.printing.list.Goals as goal

pub returns-in_err-len-2-clause-answer : goal.returns-in_err-len-2-clause-answer
returns-in_err-len-2-clause-answer c = absurd (never_short c.args.input.now c.judge.new.opened c.args.text.now c.put_lines.new.text _ c.in_ok-len.ensures (search rules) (search rules) c.in_err-len-2.field-0.0 c.in_err-len-2.ensures)

pub returns-in_err-len-2-clause-refused : goal.returns-in_err-len-2-clause-refused
returns-in_err-len-2-clause-refused c = absurd (never_short c.args.input.now c.judge.new.opened c.args.text.now c.put_lines.new.text _ c.in_ok-len.ensures (search rules) (search rules) c.in_err-len-2.field-0.0 c.in_err-len-2.ensures)

pub returns-clause-answer : goal.returns-clause-answer
returns-clause-answer c = (listed c.args.input.now c.judge.new.opened c.args.text.now c.put_lines.new.text _ c.in_ok-len.ensures (search rules) (search rules) _ c.in_ok-len-2.ensures).0

pub returns-clause-within : goal.returns-clause-within
returns-clause-within c = (listed c.args.input.now c.judge.new.opened c.args.text.now c.put_lines.new.text _ c.in_ok-len.ensures (search rules) (search rules) _ c.in_ok-len-2.ensures).1

pub returns-clause-rest : goal.returns-clause-rest
returns-clause-rest c = (listed c.args.input.now c.judge.new.opened c.args.text.now c.put_lines.new.text _ c.in_ok-len.ensures (search rules) (search rules) _ c.in_ok-len-2.ensures).2
