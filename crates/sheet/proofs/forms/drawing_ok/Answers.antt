use Rattle.std.proofs.Common.{true, ◌&&◌, length, sym, ap}
use Rattle.sheet.specs.Entries.{signs}
use Rattle.sheet.proofs.Values.{long}
use Rattle.sheet.proofs.forms.drawing_ok.Goals as goal

pub returns-in-Err : goal.returns-in-Err
returns-in-Err c = sym (ap (λ t. t && signs true c.args.s.now) (long (length c.args.s.now) c.in-Err.ensures))
