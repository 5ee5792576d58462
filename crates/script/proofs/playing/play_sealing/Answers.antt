use Rattle.script.proofs.Courses.{sealing_unfinished, sealing_finished}
use Rattle.session.proofs.ByChecks.{sealed_by}
use Rattle.std.proofs.Common.{refl}
use Rattle.script.proofs.playing.play_sealing.Goals as goal

pub returns-then-not-finish : goal.returns-then-not-finish
returns-then-not-finish g c = sealing_unfinished g.met.S.Suite.lawful _ _ _ _ _ c.in_ok-body_calls.ensures _ refl c.if-not-finish.true

pub returns : goal.returns
returns g c = sealing_finished g.met.S.Suite.lawful _ _ _ _ _ c.in_ok-body_calls.ensures _ _ _ c.in_ok-keep_finish.ensures _ _ refl c.if-not-finish.false (λ R a. let e = c.finish-answer.ensures in sealed_by _ _ R _ _ c.finish-answer.result (e.refused R a) e.cleared (e.seals R a) (e.zeros R a))
