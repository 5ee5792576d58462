use Rattle.script.proofs.Courses.{heading_course, sealing_course, opening_course}
use Rattle.script.proofs.playing.play.Goals as goal

pub returns-in-Heading : goal.returns-in-Heading
returns-in-Heading g c = rw c.in-Heading.is (heading_course _ _ _ _ _ _ c.new-log.ensures c.new-heading.ensures c.in_ok-header_calls.ensures)

pub returns-in-Seal : goal.returns-in-Seal
returns-in-Seal g c =
    rw c.in-Seal.is (sealing_course _ _ _ _ _ _ c.new-log.ensures c.new-heading.ensures c.in_ok-header_calls.ensures _ _ _ c.seal.ensures _ c.play_sealing.ensures)

pub returns-in-Open : goal.returns-in-Open
returns-in-Open g c =
    rw c.in-Open.is (opening_course _ _ _ _ _ _ c.new-log.ensures c.new-heading.ensures c.in_ok-header_calls.ensures _ _ _ c.open.ensures _ c.play_opening.ensures)
