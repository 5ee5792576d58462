use Rattle.wire.specs.Wire.{parts_of}
use Rattle.delivery.specs.Told.{suite_of}
use Rattle.delivery.proofs.Opening.{told}
use Rattle.report.proofs.Delivering.{accepted, refused}
use Rattle.report.proofs.printing.judge.Goals as goal

pub returns-in_err-_count : goal.returns-in_err-_count
returns-in_err-_count c =
    let d = c.in_ok-delivery.delivery in
    let p = parts_of d in
    let e = c.in_err-_count.ensures in
    let o = c.args.opened.now in
    let o' = c.open_sheet.new.out in
    refused c.args.input.now d c.in_ok-delivery.ensures o o' c.requires c.in_err-_count.field-0.0 c.from_residual-in_err-_count.result c.from_residual-in_err-_count.ensures.1
    (told (suite_of p.suite) p.suite p.key p.header p.ciphertext p.tag o o' _ e.unlisted e.listed)

pub returns : goal.returns
returns c =
    let d = c.in_ok-delivery.delivery in
    let p = parts_of d in
    let e = c.in_ok-_count.ensures in
    let o = c.args.opened.now in
    let o' = c.open_sheet.new.out in
    accepted c.args.input.now d c.in_ok-delivery.ensures o o' c.requires c.in_ok-_count._count c.open_sheet.auto.out
    (told (suite_of p.suite) p.suite p.key p.header p.ciphertext p.tag o o' _ e.unlisted e.listed)
