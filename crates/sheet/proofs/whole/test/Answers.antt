use Rattle.std.proofs.Common.{◌<◌, ap, ◌∙◌}
use Rattle.std.proofs.lemmas.List.Elements.{All-from_get_or}
use Rattle.std.proofs.lemmas.Result.{err_from_is_err_and}
use Rattle.sheet.proofs.Decoding.{on, refusal}
use Rattle.sheet.proofs.FieldBytes.{Octets}
use Rattle.sheet.proofs.whole.test.Goals as goal

pub returns-in_err-next : goal.returns-in_err-next
returns-in_err-next c =
    let p = err_from_is_err_and c.from_residual.result c.from_residual.ensures.1 in
    let a = c.in_err-next.ensures.answer in
    let o : Octets c.args.sheet.now = All-from_get_or (λ b. b < 256) c.args.sheet.now 0 (λ i h. (c.type_inv.sheet i).fits) in
    rw (p.1, p.2) (refusal c.args.sheet.now _ c.loop-count.reader.place c.loop-count.count _ c.loop-count.invariant.0 o c.loop-count.invariant.1 a.0 a.1)

pub loop-count-preserved : goal.loop-count-preserved
loop-count-preserved c =
    let a = rw c.in-Some.is at c.in_ok-next.ensures.answer in
    (ap (λ s. s.now) c.in_ok-next.ensures.same ∙ c.loop-count.invariant.0, on c.args.sheet.now _ c.loop-count.reader.place _ c.loop-count.count _ c.loop-count.invariant.0 c.loop-count.invariant.1 a)
