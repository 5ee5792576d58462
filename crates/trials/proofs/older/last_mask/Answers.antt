use Rattle.std.proofs.Common.{◌≡◌, ◌<◌, ◌∙◌, sym, ap, length, rules, arith}
use Rattle.block.specs.Bytes.{◌⊕◌}
use Rattle.forms.specs.Double.{double}
use Rattle.trial_forms.proofs.Olders.{last_whole, last_filled}
use Rattle.trials.proofs.older.last_mask.Goals as goal

pub returns-then-held-eq16 : goal.returns-then-held-eq16
returns-then-held-eq16 c =
    let m = c.args.mask in
    let l : length c.args.held.now ≡ 16 = search rules in
    c.xor.ensures ∙ ap (λ t. m ⊕ t) c.double-twice.ensures ∙ sym (last_whole c.args.held.now m l)

pub returns-else-held-eq16 : goal.returns-else-held-eq16
returns-else-held-eq16 c =
    let m = c.args.mask in
    let l : length c.args.held.now < 16 = search (rules, arith) in
    c.xor-else-held-eq16.ensures ∙ ap (λ t. m ⊕ t) (c.double.ensures ∙ ap double c.double-twice.ensures) ∙ sym (last_filled c.args.held.now m l)
