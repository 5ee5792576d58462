use Rattle.std.proofs.Common.{Ok, arith}
use Rattle.session.specs.Sessions.{sealing_check}
use Rattle.session.specs.Straight.{run}
use Rattle.session.proofs.ByChecks.{sealed_by}
use Rattle.session.proofs.Calling.{seal_ok}
use Rattle.session.proofs.Straights.{rests, seal_run}
use Rattle.session.proofs.straight.seal_straight.Goals as goal

pub returns-in_err-len : goal.returns-in_err-len
returns-in_err-len g c =
    let R = run c.args.place.now.bytes c.args.header.now c.args.message.now c.begun.new.out in
    let e = c.finish.ensures in
    let s = c.in_ok-sealing.ensures.at in
    let a = (seal_ok _ R _ _ _ (omega arith) (sealed_by (sealing_check R) (g.S.Suite.under R.key) R c.finish.new.last c.finish.new.tag c.finish.result (e.refused R s) e.cleared (e.seals R s) (e.zeros R s))).answer in
    let w = c.in_err-len.was in
    absurd cc

pub slice_bounds-copy_from_slice-end : goal.slice_bounds-copy_from_slice-end
slice_bounds-copy_from_slice-end g c =
    let R = run c.args.place.now.bytes c.args.header.now c.args.message.now c.begun.new.out in
    let b = c.in_ok-sealing.ensures in
    let n = (c.in_ok-len.ensures.seals R b.at).0 in
    let l = rests c.args.place.now.bytes c.args.header.now c.args.message.now c.args.out.now c.begun.new.out (omega arith) (omega arith) (omega arith) in
    omega arith

pub returns : goal.returns
returns g c =
    let R = run c.args.place.now.bytes c.args.header.now c.args.message.now c.begun.new.out in
    let b = c.in_ok-sealing.ensures in
    let e = c.in_ok-len.ensures in
    let q = sealed_by (sealing_check R) (g.S.Suite.under R.key) R c.finish.new.last c.finish.new.tag (Ok c.in_ok-len.len) (e.refused R b.at) e.cleared (e.seals R b.at) (e.zeros R b.at) in
    let s = seal_ok _ R _ _ _ (omega arith) q in
    seal_run c.args.place.now.bytes c.args.header.now c.args.message.now c.args.out.now c.begun.new.out (omega arith) (omega arith) (omega arith) _ b.written_is b.rest _ _ _ (e.seals R b.at).0 (omega arith) c.copy_from_slice.ensures.after _ _ _ s
