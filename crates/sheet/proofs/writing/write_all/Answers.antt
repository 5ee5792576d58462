use Rattle.std.proofs.Common.{length, arith}
use Rattle.sheet.proofs.Lists.{good_at, room_at, written_more, written_long, all_written}
use Rattle.sheet.proofs.writing.write_all.Goals as goal

pub put_entry-at-requires-clause-good : goal.put_entry-at-requires-clause-good
put_entry-at-requires-clause-good c = good_at c.args.entries.now c.loop-e.e-index _ (omega arith) c.in_ok-end.ensures.0

pub put_entry-at-requires-clause-room : goal.put_entry-at-requires-clause-room
put_entry-at-requires-clause-room c =
    let v = c.loop-e.invariant in
    let l = written_long _ _ _ _ v in
    room_at c.args.entries.now c.loop-e.e-index _ (omega arith) (length c.loop-e.buf) c.loop-e.at (omega (arith, c.in_ok-end.ensures.1, c.in_ok-end.ensures.2)) v.end

pub loop-e-preserved : goal.loop-e-preserved
loop-e-preserved c =
    written_more c.args.entries.now c.loop-e.e-index _ (omega arith) c.args.buf.now c.loop-e.buf _ c.loop-e.at c.put_entry-at.result
    (omega (arith, c.in_ok-end.ensures.1, c.in_ok-end.ensures.2)) c.loop-e.invariant c.put_entry-at.ensures.end c.put_entry-at.ensures.placed

pub returns-clause-sheet : goal.returns-clause-sheet
returns-clause-sheet c =
    all_written c.args.entries.now c.loop-e.e-index c.args.buf.now c.loop-e.buf c.loop-e.at c.in_ok-end.end (omega arith) c.loop-e.invariant c.in_ok-end.ensures.0 c.in_ok-end.ensures.1
