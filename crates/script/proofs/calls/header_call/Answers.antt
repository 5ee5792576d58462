use Rattle.std.proofs.lemmas.Result.{on_ok_weaker}
use Rattle.session.proofs.ByChecks.{header_by}
use Rattle.script.proofs.Stepping.{header_played}
use Rattle.script.proofs.calls.header_call.Goals as goal

pub returns : goal.returns
returns g c = on_ok_weaker c.keep_header.result (header_played c.args.stretch _ _ _ _ _ (λ key a. header_by _ _ _ _ _ c.header-answer.result (c.header-answer.ensures.refused _ a) c.header-answer.ensures.unaltered (c.header-answer.ensures.taken _ a))) c.keep_header.ensures
