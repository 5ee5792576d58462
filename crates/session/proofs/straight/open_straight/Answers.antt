use Rattle.std.proofs.Common.{Ok, Err, arith}
use Rattle.std.proofs.lemmas.Result.{err_from_is_err_and}
use Rattle.session.specs.Sessions.{opening_check}
use Rattle.session.specs.Straight.{run}
use Rattle.session.proofs.ByChecks.{opened_by}
use Rattle.session.proofs.Calling.{open_ok}
use Rattle.session.proofs.Straights.{rests, open_run, refused_run}
use Rattle.session.proofs.straight.open_straight.Goals as goal

pub returns-in_err-len : goal.returns-in_err-len
returns-in_err-len g c =
    let R = run c.args.place.now.bytes c.args.header.now c.args.ciphertext.now c.begun.new.out in
    let b = c.in_ok-opening.ensures in
    let e = c.in_err-len.ensures in
    let q =
    opened_by (opening_check R c.args.tag.now) (g.S.Suite.under R.key) R c.args.tag.now c.finish.new.last (Err c.in_err-len.field-0.0) (e.refused R b.at) (e.forgery R b.at) e.cleared (e.accepts R b.at) (e.message R b.at) (e.only R b.at) (e.zeros R b.at) in
    let y = open_ok _ R c.args.tag.now _ _ (omega arith) (omega arith) q in
    let p = err_from_is_err_and c.from_residual-in_err-len.result c.from_residual-in_err-len.ensures.1 in
    rw (p.1, p.2) (refused_run _ c.args.place.now.bytes c.args.header.now c.args.ciphertext.now c.args.out.now c.begun.new.out _ _ _ b.rest y)

pub slice_bounds-copy_from_slice-end : goal.slice_bounds-copy_from_slice-end
slice_bounds-copy_from_slice-end g c =
    let R = run c.args.place.now.bytes c.args.header.now c.args.ciphertext.now c.begun.new.out in
    let b = c.in_ok-opening.ensures in
    let n = (c.in_ok-len.ensures.message R b.at).0 in
    let l = rests c.args.place.now.bytes c.args.header.now c.args.ciphertext.now c.args.out.now c.begun.new.out (omega arith) (omega arith) (omega arith) in
    omega arith

pub returns : goal.returns
returns g c =
    let R = run c.args.place.now.bytes c.args.header.now c.args.ciphertext.now c.begun.new.out in
    let b = c.in_ok-opening.ensures in
    let e = c.in_ok-len.ensures in
    let q =
    opened_by (opening_check R c.args.tag.now) (g.S.Suite.under R.key) R c.args.tag.now c.finish.new.last (Ok c.in_ok-len.len) (e.refused R b.at) (e.forgery R b.at) e.cleared (e.accepts R b.at) (e.message R b.at) (e.only R b.at) (e.zeros R b.at) in
    let s = open_ok _ R c.args.tag.now _ _ (omega arith) (omega arith) q in
    open_run c.args.place.now.bytes c.args.header.now c.args.ciphertext.now c.args.out.now c.begun.new.out (omega arith) (omega arith) (omega arith) _ b.written_is b.rest _ _ _ s.0 (omega arith) c.copy_from_slice.ensures.after _ _ _ s
