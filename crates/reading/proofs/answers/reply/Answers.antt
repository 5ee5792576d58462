use Rattle.std.proofs.Common.{sym, subst}
use Rattle.reading.specs.declared.script.Ask.{Ask}
use Rattle.reading.specs.declared.script.Reply.TheVariants as reply
use Rattle.reading.specs.Readers.{Replied}
use Rattle.reading.proofs.Replying.{next_replied}
use Rattle.reading.proofs.answers.reply.Goals as goal

pub returns-in-Next : goal.returns-in-Next
returns-in-Next c =
    let e = c.next.ensures in
    subst (λ (q : Ask). Replied c.args.reader.now c.next.new.self q (reply.Next c.next.result)) (sym c.in-Next.is) (next_replied c.args.reader.now c.next.new.self e.same c.next.result e.answer e.follows e.last e.lies)
