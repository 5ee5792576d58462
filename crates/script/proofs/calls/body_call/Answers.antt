use Rattle.std.proofs.Common.{◌≡◌, ◌∙◌, List, ℕ, subst}
use Rattle.std.proofs.lemmas.List.{with_items_is}
use Rattle.std.proofs.lemmas.Result.{on_ok_weaker}
use Rattle.script.specs.Logs.{BodyKept}
use Rattle.session.proofs.ByChecks.{body_by}
use Rattle.script.proofs.Stepping.{body_played}
use Rattle.script.proofs.calls.body_call.Goals as goal

pub returns : goal.returns
returns g c =
    let b : c.deref.result.now ≡ c.body-answer.new.out = c.deref.ensures.value ∙ with_items_is c.in_ok-buffer.buffer c.body-answer.new.out (c.body-answer.auto.out ∙ c.deref_mut.ensures.len) in
    on_ok_weaker c.keep_body.result
    (λ k. body_played g.met.S.Suite.lawful c.args.stretch _ _ _ _ _ c.body-answer.new.out _ (c.deref_mut.ensures.len ∙ c.in_ok-buffer.ensures.len) (λ key a. let e = c.body-answer.ensures in body_by _ _ _ _ _ _ _ c.body-answer.result (e.refused _ a) e.unaltered (e.answer _ a) (e.rest _ a) (e.taken _ a)) (subst (λ (w : List ℕ). BodyKept c.body-answer.result c.args.stretch.bytes.now w c.args.log.now c.keep_body.new.self) b k))
    c.keep_body.ensures
