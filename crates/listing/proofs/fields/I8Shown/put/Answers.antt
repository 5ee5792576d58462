use Rattle.std.proofs.Common.{◌≡◌, ℕ, true, false, List, ◌∷◌, ◌++◌, take, ℤ, pos, negsuc, nat_abs, decimal, refl, ap, ◌∙◌, arith, w8}
use lib.Signed.{lt_z}
use Rattle.std.specs.Fmt.{signed_decimal}
use Rattle.std.proofs.lemmas.Int.{to_z-of_z}
use Rattle.std.proofs.lemmas.Bool.Decides.{nat_tests}
use Rattle.sheet.proofs.Values.{twice}
use Rattle.listing.proofs.fields.I8Shown.put.Goals as goal
use Rattle.listing.proofs.fields.I8Shown.put.Goals.{then-self-lt0, else-self-lt0}

below : (z : ℤ) → lt_z z (pos 0) ≡ true → 45 ∷ decimal (nat_abs z) ≡ signed_decimal z
below (pos n) h = grind (arith, nat_tests)
below (negsuc n) h = refl

above : (z : ℤ) → lt_z z (pos 0) ≡ false → decimal (nat_abs z) ≡ signed_decimal z
above (pos n) h = refl
above (negsuc n) h = grind (arith, nat_tests)

pub returns : goal.returns
returns c =
    let line = c.args.line.now in
    let same = ap signed_decimal (to_z-of_z w8 c.args.self c.ranges.self) in
    let abs = c.from.ensures ∙ c.unsigned_abs.ensures.value in
    elim c.if-self-lt0.branch [
      | then-self-lt0 w ↦
          twice 70 _ _ _ _ _ (w.line-is ∙ w.push.ensures) c.put_decimal.ensures
          ∙ ap (λ (x : List ℕ). take 70 (line ++ x)) (ap (λ n. 45 ∷ decimal n) abs ∙ below _ w.if-self-lt0.true ∙ same)
      | else-self-lt0 w ↦
          c.put_decimal.ensures ∙ ap (λ (x : List ℕ). take 70 (x ++ decimal c.from.result)) w.line-is
          ∙ ap (λ (x : List ℕ). take 70 (line ++ x)) (ap decimal abs ∙ above _ w.if-self-lt0.false ∙ same)
    ]
