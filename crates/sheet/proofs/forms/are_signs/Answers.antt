use Rattle.std.proofs.Common.{◌≡◌, ℕ, ◌+◌, ◌<◌, Bool, true, false, ◌&&◌, List, length, get_or, drop, sym, ap, ◌∙◌, arith}
use Rattle.std.proofs.lemmas.List.{at_drop_more, at_drop_all}
use Rattle.sheet.specs.Entries.{sign, signs}
use Rattle.sheet.proofs.forms.are_signs.Goals as goal

step : (s : Bool) (xs : List ℕ) (i : ℕ) (b : Bool) → i < length xs → b ≡ sign s (get_or xs i 0) → signs s (drop i xs) ≡ (b && signs s (drop (i + 1) xs))
step s xs i b h e = at_drop_more (signs s) xs i 0 h ∙ ap (λ t. t && signs s (drop (i + 1) xs)) (sym e)

pub returns-then-not-is_sign : goal.returns-then-not-is_sign
returns-then-not-is_sign c = sym (step c.args.slash c.args.part.now c.loop-b.b-index false c.loop-b-test.true c.if-not-is_sign.ensures) ∙ c.loop-b.invariant

pub loop-b-preserved : goal.loop-b-preserved
loop-b-preserved c = sym (step c.args.slash c.args.part.now c.loop-b.b-index true c.loop-b-test.true c.if-not-is_sign.ensures) ∙ c.loop-b.invariant

pub returns : goal.returns
returns c = sym (at_drop_all (signs c.args.slash) c.args.part.now c.loop-b.b-index (omega arith)) ∙ c.loop-b.invariant
