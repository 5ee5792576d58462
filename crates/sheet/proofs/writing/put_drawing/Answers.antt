use Rattle.std.proofs.Common.{◌∷◌, [], length, refl, ap, arith, rules}
use Rattle.sheet.specs.Entries.{counted}
use Rattle.sheet.proofs.Values.{Filled, lent, filled_some, filled_none, twice, drawing_short}
use Rattle.sheet.proofs.writing.put_drawing.Goals as goal

pub overflow_cast-drawing : goal.overflow_cast-drawing
overflow_cast-drawing c = let d = drawing_short _ _ c.in-Some.is c.requires in record { fits = omega arith }

pub returns-in-Some : goal.returns-in-Some
returns-in-Some c all h =
    let s = c.in-Some.drawing.now in
    let before : Filled 56 c.args.out.now all = record { is = h } in
    let put = twice 56 c.args.out.now (length s ∷ []) s _ _ (search rules) c.extend.ensures in
    (filled_some counted (lent c.args.drawing) s _ before (ap lent c.in-Some.is) put).is

pub returns-in_default : goal.returns-in_default
returns-in_default c all h =
    let before : Filled 56 c.args.out.now all = record { is = h } in
    (filled_none counted (lent c.args.drawing) _ before (ap lent c.in_default.is) refl).is
