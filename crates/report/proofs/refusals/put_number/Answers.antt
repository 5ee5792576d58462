use Rattle.std.proofs.Common.{◌≡◌, ℕ, ◌+◌, ◌/◌, ◌%◌, List, [], ◌∷◌, ◌++◌, take, decimal, sym, ap, ◌∙◌, arith}
use Rattle.std.proofs.lemmas.Fmt.{decimal_digit, decimal_step}
use Rattle.report.proofs.refusals.put_number.Goals as goal

pub returns-then-number-lt10 : goal.returns-then-number-lt10
returns-then-number-lt10 c =
    let n = c.args.number in
    c.extend.ensures ∙ ap (λ (x : List ℕ). take 11 (c.args.line.now ++ x)) (sym (decimal_digit n (omega arith)))

pub returns-else-number-lt10 : goal.returns-else-number-lt10
returns-else-number-lt10 c =
    let n = c.args.number in
    let two : decimal n ≡ (48 + n / 10) ∷ (48 + n % 10) ∷ [] =
    decimal_step n (omega arith) (omega arith) ∙ ap (λ (x : List ℕ). x ++ ((48 + n % 10) ∷ [])) (decimal_digit (n / 10) (omega arith)) in
    c.extend-else-number-lt10.ensures ∙ ap (λ (x : List ℕ). take 11 (c.args.line.now ++ x)) (sym two)
