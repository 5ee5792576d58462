use Rattle.std.proofs.Common.{rules, ◌≡◌, IsOk, map, List, ℕ, subst}
use Rattle.fault.specs.Refusals.{RefusedBy, key_faults}
use Rattle.script.specs.declared.course.Stretch.{Stretch}
use Rattle.session.specs.Calls.{key_check}
use Rattle.script.specs.Plays.{CoursePlayed}
use Rattle.replay.specs.Scripts.{written_in}
use Rattle.replay.specs.Outcomes.{course_by}
use Rattle.replay.proofs.Keyed.{taken}
use Rattle.replay.proofs.playing.under.Goals as goal

pub returns : goal.returns
returns g c =
    let under = g.S.Suite.under in
    let w = written_in c.args.script.now in
    let course = c.course-course.result in
    let headers = c.in_ok-headers.headers.items in
    let log = c.in_ok-log.log in
    let end = c.in_ok-log.end in
    let ok : IsOk c.fill.result = search rules in
    let bytes : map (λ s. s.bytes.now) headers ≡ w.headers = search rules in
    let is : course_by course ≡ w.course = search rules in
    let key : c.fill.new.self.bytes ≡ w.key = search rules in
    let refused = subst (λ (k : List ℕ). RefusedBy key_faults (key_check k) c.fill.result) c.as_slice.ensures.value c.fill.ensures.refused in
    let played = subst (λ (hs : List Stretch). CoursePlayed course under c.fill.new.self.bytes hs log end) c.as_slice-4.ensures.value c.in_ok-log.ensures in
    taken under w log end (key_check w.key) c.fill.result refused ok
    (record {
      headers = headers;
      bytes = bytes;
      course = course;
      is = is;
      played = subst (λ (k : List ℕ). CoursePlayed course under k headers log end) key played;
    })
