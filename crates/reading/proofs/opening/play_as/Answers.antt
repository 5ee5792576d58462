use Rattle.std.proofs.Common.{◌≡◌, take, length, ap, sym, ◌∙◌, rules}
use Rattle.sheet.specs.Entries.{sheet_of}
use Rattle.delivery.proofs.Opening.{sheet_good}
use Rattle.reading.proofs.opening.play_as.Goals as goal

pub returns-in-Ok-clause-answered : goal.returns-in-Ok-clause-answered
returns-in-Ok-clause-answered g c es s =
    let (e, opened, n) = c.in-Ok.ensures.entries in
    let front : take (length c.args.ciphertext.now) c.open_sheet_as.new.out ≡ sheet_of es = opened.front ∙ ap sheet_of (sym (opened.only es s)) in
    c.answer.ensures.answered es (sheet_good _ _ es _ _ s) (search (rules, front))
