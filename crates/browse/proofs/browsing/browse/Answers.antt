use Rattle.std.proofs.Common.{rules, ◌≤◌, length}
use Rattle.delivery.specs.Told.{suite_of}
use Rattle.delivery.proofs.Opening.{told}
use Rattle.wire.specs.Wire.{ciphertext_limit, parts_of}
use Rattle.reading.specs.Replies.{asks_of, replies_of}
use Rattle.browse.specs.Shown.{refusal_text, replies_text}
use Rattle.browse.proofs.Playing.{no_sheet, played}
use Rattle.browse.proofs.browsing.browse.Goals as goal

pub returns-in-Ok : goal.returns-in-Ok
returns-in-Ok g c input parsed =
    let d = c.args.delivery in
    let p = parts_of d in
    let e = c.play.ensures in
    let s = told (suite_of p.suite) p.suite p.key p.header p.ciphertext p.tag c.args.opened.now c.play.result.buffer.now c.play.result.outcome e.unlisted e.listed in
    let cs' = c.play.new.calls in
    let text = played input d parsed _ _ c.play.result.outcome s c.in-Ok.field-0 c.in-Ok.is _ c.args.calls.now cs' e.answered in
    (replies_text (replies_of cs'), text, c.show_all.ensures)

pub returns-in-Err : goal.returns-in-Err
returns-in-Err g c input parsed =
    let d = c.args.delivery in
    let p = parts_of d in
    let e = c.play.ensures in
    let s = told (suite_of p.suite) p.suite p.key p.header p.ciphertext p.tag c.args.opened.now c.play.result.buffer.now c.play.result.outcome e.unlisted e.listed in
    let room : ciphertext_limit ≤ length c.args.opened.now = search rules in
    let f = c.into.result in
    let text = no_sheet input d parsed _ _ c.play.result.outcome s room (asks_of c.args.calls.now) c.in-Err.fault c.in-Err.is f c.into.ensures in
    (refusal_text f, text, c.refuse.ensures)
