use Rattle.std.proofs.Common.{length, refl, ap, ◌∙◌, arith}
use Rattle.poet.specs.Rows.{length_mask}
use Rattle.session.proofs.Endings.{tested}
use Rattle.session.proofs.body.Opening+S.verdict.Goals as goal

pub returns : goal.returns
returns g c =
    λ R a.
    let f = g.S.Suite.under R.key in
    let k = a.total_is in
    let n = ap length c.as_slice-held.ensures.bytes in
    rw c.then_some.ensures
    (tested f R.header R.body c.args.tag.now a.engine.tau_is (c.mask-mask.ensures R.key R.header a.engine ∙ ap (length_mask f) k) a.x_is a.y_is (c.as_slice-held.ensures.bytes ∙ a.held_is)
    c.complete-block.ensures
    (c.last_row.ensures f R.header a.engine)
    (c.closing-z.ensures f R.header a.engine)
    refl
    c.complete.ensures
    refl
    c.complete-2.ensures
    (omega arith)
    (omega arith)
    (omega (arith, c.last_row.type_inv))
    (omega arith)
    c.same-padded.ensures.yes
    c.same-padded.ensures.no
    c.same-tagged.ensures.yes
    c.same-tagged.ensures.no)
