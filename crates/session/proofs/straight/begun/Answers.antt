use Rattle.std.proofs.Common.{arith}
use Rattle.session.specs.Runs.{fresh, headed}
use Rattle.session.proofs.Calling.{header_ok, body_ok}
use Rattle.session.proofs.Straights.{begun}
use Rattle.session.proofs.straight.begun.Goals as goal

pub returns-in_err-header : goal.returns-in_err-header
returns-in_err-header g c =
    let e = c.header.ensures in
    let a = (header_ok (fresh c.args.place.now.bytes) c.args.header.now _ _ c.header.result (omega arith) c.new-heading.ensures e.refused e.unaltered e.taken).0 in
    let w = c.in_err-header.was in
    absurd cc

pub returns-in_err-written : goal.returns-in_err-written
returns-in_err-written g c =
    let e = c.header.ensures in
    let h = header_ok (fresh c.args.place.now.bytes) c.args.header.now _ _ c.header.result (omega arith) c.new-heading.ensures e.refused e.unaltered e.taken in
    let R = headed (fresh c.args.place.now.bytes) c.args.header.now in
    let b = c.body.ensures in
    let a = (body_ok R c.args.body.now c.args.out.now c.body.new.out _ _ c.body.result (omega arith) (omega arith) (c.start-session.ensures R h.1) b.refused b.unaltered b.answer b.rest b.taken).answer in
    let w = c.in_err-written.was in
    absurd cc

pub returns : goal.returns
returns g c =
    let e = c.header.ensures in
    let h = header_ok (fresh c.args.place.now.bytes) c.args.header.now _ _ c.header.result (omega arith) c.new-heading.ensures e.refused e.unaltered e.taken in
    let R = headed (fresh c.args.place.now.bytes) c.args.header.now in
    let b = c.body.ensures in
    let t = body_ok R c.args.body.now c.args.out.now c.body.new.out _ _ c.body.result (omega arith) (omega arith) (c.start-session.ensures R h.1) b.refused b.unaltered b.answer b.rest b.taken in
    begun c.args.place.now.bytes c.args.header.now c.args.body.now c.args.out.now c.body.new.out _ _ (rw c.in_ok-written.was at t)
