use Rattle.std.proofs.Common.{take, ◌∙◌}
use Rattle.reading.specs.Replies.{asks_of}
use Rattle.browse.proofs.Playing.{ran}
use Rattle.browse.proofs.browsing.run.Goals as goal

pub returns : goal.returns
returns g c =
    let t = c.in_ok-text.ensures in
    ran (asks_of c.args.calls.now) _ _ _ _ (take c.in_ok-len.len c.fill.new.buffer) t.0 c.as_slice.result.now c.put.result c.in_ok-len.ensures.filled t.1 (c.as_slice.ensures.value ∙ t.2) c.put.ensures
