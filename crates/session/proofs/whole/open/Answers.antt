use Rattle.std.proofs.Common.{Ok, Err, arith, rules}
use Rattle.std.proofs.lemmas.Result.{err_from_is_err_and}
use Rattle.block.proofs.Xors.{bytes_from}
use Rattle.session.proofs.Judging.{open_refused, open_zeros, zeros_rest, body_refuses, tag_refuses, room, run_given}
use Rattle.session.proofs.whole.open.Goals as goal

pub returns-in_err-checked-clause-accepts : goal.returns-in_err-checked-clause-accepts
returns-in_err-checked-clause-accepts g c =
    let key = c.args.key.now in
    let p = err_from_is_err_and c.from_residual-in_err-checked.result c.from_residual-in_err-checked.ensures.1 in
    rw p.1
    (open_refused g.S.Suite.under key c.args.header.now c.args.ciphertext.now c.args.out.now c.args.tag.now _ (λ k. g.met.S.Suite.lawful key (record { long = k; bytes = bytes_from key (λ i l. search rules) }))
    (body_refuses g.S.Suite.under key c.args.header.now c.args.ciphertext.now c.args.out.now c.in_ok-fill.ensures.refused _ c.in_err-checked.field-0.0 c.in_err-checked.ensures))

pub returns-in_err-tag-clause-accepts : goal.returns-in_err-tag-clause-accepts
returns-in_err-tag-clause-accepts g c =
    let key = c.args.key.now in
    let p = err_from_is_err_and c.from_residual-in_err-tag.result c.from_residual-in_err-tag.ensures.1 in
    rw p.1
    (open_refused g.S.Suite.under key c.args.header.now c.args.ciphertext.now c.args.out.now c.args.tag.now _ (λ k. g.met.S.Suite.lawful key (record { long = k; bytes = bytes_from key (λ i l. search rules) }))
    (tag_refuses g.S.Suite.under key c.args.header.now c.args.ciphertext.now c.args.out.now c.in_ok-fill.ensures.refused c.in_ok-checked.ensures c.args.tag.now c.in_err-tag.field-0.0 c.in_err-tag.ensures.refused))

pub returns-in-Err-clause-accepts : goal.returns-in-Err-clause-accepts
returns-in-Err-clause-accepts g c =
    let s = run_given g.S.Suite.under c.args.key.now _ c.args.header.now c.args.ciphertext.now c.args.tag.now _ c.args.out.now c.open_straight.new.out (Err c.in-Err.fault) c.in_ok-fill.ensures.filled c.in_ok-tag.ensures.same c.in-Err.ensures in
    λ k l. ((λ i. absurd cc), (λ p. absurd (s.none p.0 p.1)))

pub returns-in-Err-clause-forgery : goal.returns-in-Err-clause-forgery
returns-in-Err-clause-forgery g c =
    let r = room g.S.Suite.under c.args.key.now c.args.header.now c.args.ciphertext.now c.args.out.now c.in_ok-fill.ensures.refused c.in_ok-checked.ensures in
    let s = run_given g.S.Suite.under c.args.key.now _ c.args.header.now c.args.ciphertext.now c.args.tag.now _ c.args.out.now c.open_straight.new.out (Err c.in-Err.fault) c.in_ok-fill.ensures.filled c.in_ok-tag.ensures.same c.in-Err.ensures in
    λ n. (s.fault, open_zeros g.S.Suite.under c.args.key.now c.args.header.now c.args.ciphertext.now c.args.out.now _ c.open_straight.new.out c.fill-in-Err.new.self c.in-Err.fault (omega arith) r s (c.fill-in-Err.ensures.after (λ y e. e)))

pub returns-in-Err-clause-rest : goal.returns-in-Err-clause-rest
returns-in-Err-clause-rest g c =
    let r = room g.S.Suite.under c.args.key.now c.args.header.now c.args.ciphertext.now c.args.out.now c.in_ok-fill.ensures.refused c.in_ok-checked.ensures in
    let s = run_given g.S.Suite.under c.args.key.now _ c.args.header.now c.args.ciphertext.now c.args.tag.now _ c.args.out.now c.open_straight.new.out (Err c.in-Err.fault) c.in_ok-fill.ensures.filled c.in_ok-tag.ensures.same c.in-Err.ensures in
    zeros_rest g.S.Suite.under c.args.key.now c.args.header.now c.args.ciphertext.now c.args.out.now _
    (open_zeros g.S.Suite.under c.args.key.now c.args.header.now c.args.ciphertext.now c.args.out.now _ c.open_straight.new.out c.fill-in-Err.new.self c.in-Err.fault (omega arith) r s (c.fill-in-Err.ensures.after (λ y e. e)))

pub returns-clause-only : goal.returns-clause-only
returns-clause-only g c =
    let s = run_given g.S.Suite.under c.args.key.now _ c.args.header.now c.args.ciphertext.now c.args.tag.now _ c.args.out.now c.open_straight.new.out (Ok c.in_default.field-0) c.in_ok-fill.ensures.filled c.in_ok-tag.ensures.same c.in_default.ensures in
    s.only
