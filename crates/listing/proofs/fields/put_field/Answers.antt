use Rattle.std.proofs.Common.{◌≡◌, ◌++◌, take, rules}
use Rattle.sheet.proofs.Values.{twice}
use Rattle.listing.specs.Lines.{shown}
use Rattle.listing.proofs.fields.put_field.Goals as goal
use Rattle.listing.proofs.fields.put_field.Goals.{in-Some, in-None}

pub returns : goal.returns
returns g c =
    let p : c.match-field.line ≡ take 70 (c.args.line.now ++ shown g.T.Shown.text c.args.field) =
    elim c.match-field.branch [ in-Some w ↦ search rules | in-None w ↦ search rules ]
    in
    twice 70 _ _ _ _ _ p c.push-2.ensures
