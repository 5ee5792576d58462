use Rattle.script.proofs.Courses.{opening_unfinished, opening_finished}
use Rattle.session.proofs.ByChecks.{opened_by}
use Rattle.std.proofs.Common.{refl}
use Rattle.script.proofs.playing.play_opening.Goals as goal

pub returns-in_default : goal.returns-in_default
returns-in_default g c = opening_unfinished g.met.S.Suite.lawful _ _ _ _ _ c.in_ok-body_calls.ensures _ refl c.in_default.is

pub returns : goal.returns
returns g c = opening_finished g.met.S.Suite.lawful _ _ _ _ _ c.in_ok-body_calls.ensures _ _ _ c.in_ok-keep_finish.ensures _ _ refl c.in-Some.is (λ R a. let e = c.finish-answer.ensures in opened_by _ _ R _ _ c.finish-answer.result (e.refused R a) (e.forgery R a) e.cleared (e.accepts R a) (e.message R a) (e.only R a) (e.zeros R a))
