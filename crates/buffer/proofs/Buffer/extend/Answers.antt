use Rattle.buffer.proofs.Filling.{extended}
use Rattle.std.proofs.Common.{rules}
use Rattle.buffer.proofs.Buffer.extend.Goals as goal

pub returns : goal.returns
returns g c = extended g.row.N c.self.inside.len c.min-n.result c.self.inside.bytes c.args.s.now c.copy_from_slice.new.self c.args.self.now c.self.view_is c.self.invariant c.self.told c.min-n.ensures (search rules)
