use Rattle.std.proofs.Common.{◌≡◌, ℕ, List, [], ◌∷◌, ◌++◌, ◌+◌, ◌%◌, take, sym, ap, ◌∙◌, arith}
use Rattle.std.proofs.lemmas.Fmt.{decimal_digit, decimal_step}
use Rattle.sheet.proofs.Values.{twice}
use Rattle.listing.proofs.fields.+put_decimal.Goals as goal
use Rattle.listing.proofs.fields.+put_decimal.Goals.{then-n-ge10, else-n-ge10}

pub returns : goal.returns
returns t c =
    let n = c.args.n in
    let line = c.args.line.now in
    elim c.if-n-ge10.branch [
      | then-n-ge10 w ↦
          let step = decimal_step n w.if-n-ge10.true (omega arith) in
          twice 70 _ _ _ _ _ (w.line-is ∙ w.put_decimal.ensures) c.push.ensures ∙ ap (λ (x : List ℕ). take 70 (line ++ x)) (sym step)
      | else-n-ge10 w ↦
          let digit = decimal_digit n (omega arith) in
          let same : 48 + n % 10 ≡ 48 + n = omega arith in
          c.push.ensures ∙ ap (λ (x : List ℕ). take 70 (x ++ ((48 + n % 10) ∷ []))) w.line-is ∙ ap (λ (d : ℕ). take 70 (line ++ (d ∷ []))) same ∙ ap (λ (x : List ℕ). take 70 (line ++ x)) (sym digit)
    ]
