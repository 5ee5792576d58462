use Rattle.replay.proofs.Through.{line_is_read}
use Rattle.replay.proofs.input.next_line.Goals as goal

pub returns-clause-read : goal.returns-clause-read
returns-clause-read g c =
    let h = c.in_ok-read_until.ensures in
    line_is_read _ _ c.new-line.result.items c.read_until.new.buf.items c.new-line.ensures.items h.none_lost h.stops h.bytes h.rest
