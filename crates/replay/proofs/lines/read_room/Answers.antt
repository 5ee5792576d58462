use Rattle.std.proofs.Common.{refl}
use Rattle.replay.proofs.Numbers.{parsed, unparsed}
use Rattle.replay.proofs.lines.read_room.Goals as goal

pub returns-in-Ok : goal.returns-in-Ok
returns-in-Ok c = rw (parsed 32 c.args.text.now c.in-Ok.number c.parse.result c.parse.ensures.value.0 c.in-Ok.is) refl

pub returns-in-Err : goal.returns-in-Err
returns-in-Err c = rw (unparsed 32 c.args.text.now c.in-Err.field-0 c.parse.result c.parse.ensures.value.0 c.in-Err.is) refl
