use Rattle.std.proofs.Common.{◌≡◌, ◌≤◌, ◌++◌, ◌∙◌, length, sym, ap, rules, arith}
use Rattle.forms.proofs.Fillings.{further, padded_short, padded_one, padded_injective}
use Rattle.forms.specs.Filling.{padded}
use Rattle.digests.proofs.filling.AlwaysPaddedFilling.last.Goals as goal

pub returns-then-held-lt16-clause-blocks : goal.returns-then-held-lt16-clause-blocks
returns-then-held-lt16-clause-blocks c = ap padded (sym c.as_slice-held.ensures.bytes)
    ∙ padded_short c.as_slice-held.result.now (search rules) ∙ sym c.complete-block.ensures

pub returns-else-held-lt16-clause-blocks : goal.returns-else-held-lt16-clause-blocks
returns-else-held-lt16-clause-blocks c =
    let m : length c.as_slice-held.result.now ≤ 16 = c.as_slice-held.ensures.within in
    let l : length c.as_slice-held.result.now ≡ 16 = search (rules, arith) in
    ap padded (sym c.as_slice-held.ensures.bytes)
    ∙ padded_one c.as_slice-held.result.now l ∙ ap (λ z. z ++ further) (sym c.complete-block.ensures)

pub returns-then-held-lt16-clause-injective : goal.returns-then-held-lt16-clause-injective
returns-then-held-lt16-clause-injective c = padded_injective

pub returns-else-held-lt16-clause-injective : goal.returns-else-held-lt16-clause-injective
returns-else-held-lt16-clause-injective c = padded_injective
