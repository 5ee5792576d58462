use Rattle.std.proofs.Common.{◌-◌, Ok, Err, arith}
use Rattle.session.specs.Calls.{OpenCall}
use Rattle.delivery.proofs.Opening.{accepted, broken, handed_on}
use Rattle.delivery.proofs.sheets.open_sheet_as.Goals as goal

pub returns-in_err-len : goal.returns-in_err-len
returns-in_err-len g c =
    let e = c.in_err-len.ensures in
    let s : OpenCall g.S.Suite.under c.args.key.now c.args.header.now c.args.ciphertext.now c.args.tag.now c.args.out.now c.open.new.out (Err c.in_err-len.field-0.0) =
    record { refused = e.refused; accepts = e.accepts; message = e.message; only = e.only; forgery = e.forgery; rest = e.rest; room = e.room } in
    let h = handed_on g.S.Suite.under _ _ _ _ _ _ c.in_err-len.field-0.0 c.from_residual.result c.from_residual.ensures.1 s in
    record { refused = h.refused; accepts = h.accepts; entries = h.entries; broken = h.broken; rest = h.rest }

pub returns-in-Ok : goal.returns-in-Ok
returns-in-Ok g c =
    let e = c.in_ok-len.ensures in
    let s : OpenCall g.S.Suite.under c.args.key.now c.args.header.now c.args.ciphertext.now c.args.tag.now c.args.out.now c.open.new.out (Ok c.in_ok-len.len) =
    record { refused = e.refused; accepts = e.accepts; message = e.message; only = e.only; forgery = e.forgery; rest = e.rest; room = e.room } in
    let h = accepted g.S.Suite.under _ _ _ _ _ _ _ s _ (c.in_ok-len.len - 0) (omega arith) c.in-Ok.ensures in
    record { refused = h.refused; accepts = h.accepts; entries = h.entries; broken = h.broken; rest = h.rest }

pub returns-in-Err : goal.returns-in-Err
returns-in-Err g c =
    let e = c.in_ok-len.ensures in
    let s : OpenCall g.S.Suite.under c.args.key.now c.args.header.now c.args.ciphertext.now c.args.tag.now c.args.out.now c.open.new.out (Ok c.in_ok-len.len) =
    record { refused = e.refused; accepts = e.accepts; message = e.message; only = e.only; forgery = e.forgery; rest = e.rest; room = e.room } in
    let h = broken g.S.Suite.under _ _ _ _ _ _ _ s _ c.in-Err.fault (c.in_ok-len.len - 0) (omega arith) c.open.auto.out c.in-Err.ensures (c.fill.ensures.after (λ y e. e)) in
    record { refused = h.refused; accepts = h.accepts; entries = h.entries; broken = h.broken; rest = h.rest }
