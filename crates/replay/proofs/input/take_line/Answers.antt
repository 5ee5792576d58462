use Rattle.std.proofs.Common.{Ok, Err}
use Rattle.replay.specs.Scripts.{written_in}
use Rattle.replay.proofs.Utf8.{no_text, text_read}
use Rattle.replay.proofs.input.take_line.Goals as goal

pub returns-in_default : goal.returns-in_default
returns-in_default c = no_text c.args.number (written_in c.args.script.now) c.args.line.now c.in_default.ensures.cases.0

pub returns-in-Ok-add : goal.returns-in-Ok-add
returns-in-Ok-add c =
    let (text, valid) = c.in-Ok.ensures.cases in
    text_read c.args.number (written_in c.args.script.now) c.args.line.now c.in-Ok.text.now (Ok (written_in c.add.new.self)) text valid c.in-Ok-add.ensures

pub returns-in-Err-Broken : goal.returns-in-Err-Broken
returns-in-Err-Broken c =
    let (text, valid) = c.in-Ok.ensures.cases in
    text_read c.args.number (written_in c.args.script.now) c.args.line.now c.in-Ok.text.now (Err c.in-Err-Broken.rule) text valid (rw c.in-Err-Broken.field-0-is at c.in-Err-Broken.ensures)
