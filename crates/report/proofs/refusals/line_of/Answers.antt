use Rattle.std.proofs.Common.{ℕ, ◌<◌, ◌≤◌, List, [], ◌∷◌, ◌++◌, take, length, decimal, codes, ap, ◌∙◌, arith, take_all, append_assoc, length-append}
use Rattle.std.proofs.lemmas.Fmt.{length-decimal-le}
use Rattle.fault.specs.Numbers.{console_number}
use Rattle.report.proofs.Numbering.{refusal_number}
use Rattle.sheet.proofs.Values.{twice}
use Rattle.report.proofs.refusals.line_of.Goals as goal

pub returns : goal.returns
returns c =
    let f = c.args.refused.fault in
    let d = decimal (console_number f) in
    let word = codes "refused " in
    let small : console_number f < 100 = let b = refusal_number f in omega arith in
    let digits : length d ≤ 2 = length-decimal-le 2 (console_number f) (omega arith) (omega arith) (omega arith) in
    let number = c.put_number.ensures ∙ ap (λ (n : ℕ). take 11 (c.extend.new.self ++ decimal n)) c.number.ensures in
    let all = twice 11 _ _ _ _ _ (twice 11 _ word d _ _ c.extend.ensures number) c.extend-2.ensures in
    let long : length ((word ++ d) ++ 10 ∷ []) ≤ 11 = omega (arith, length-append (word ++ d) (10 ∷ []), length-append word d) in
    all ∙ ap (λ (x : List ℕ). take 11 (x ++ ((word ++ d) ++ 10 ∷ []))) c.new-line.ensures ∙ take_all 11 ((word ++ d) ++ 10 ∷ []) long ∙ append_assoc word d (10 ∷ [])
