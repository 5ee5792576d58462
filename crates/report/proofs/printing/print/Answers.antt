use Rattle.std.proofs.Common.{ℕ, List, refl, inl, subst}
use Rattle.streams.specs.Streams.{Wrote}
use Rattle.report.specs.Lists.{list_of}
use Rattle.report.proofs.printing.print.Goals as goal

pub returns-in-Ok : goal.returns-in-Ok
returns-in-Ok g c =
    let (es, only, front) = c.in-Ok.ensures.answer in
    (list_of es, inl (es, only, refl), subst (λ (t : List ℕ). Wrote (g.W.Write.contents c.args.output.now) (g.W.Write.contents c.put.new.writer) t c.put.result) front c.put.ensures)
