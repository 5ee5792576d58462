use Rattle.std.proofs.Common.{ℕ, List, [], ◌∷◌, ◌++◌, codes, decimal, sym, ap, ◌∙◌, append_assoc}
use Rattle.replay.specs.Texts.{outcome_text, rule_text}
use Rattle.replay.proofs.Writes.{as_text, failed_text, nothing_written}
use Rattle.replay.proofs.report.Outcome.write.Goals as goal

pub returns-in_err-text-in-Broken : goal.returns-in_err-text-in-Broken
returns-in_err-text-in-Broken g c = failed_text _ _ _ c.from_residual.result c.from_residual.ensures.0 (nothing_written _ _)

pub returns-in_err-text-in-Refused : goal.returns-in_err-text-in-Refused
returns-in_err-text-in-Refused g c = failed_text _ _ _ c.from_residual-in_err-text-in-Refused.result c.from_residual-in_err-text-in-Refused.ensures.0 (nothing_written _ _)

pub returns-in-NoText : goal.returns-in-NoText
returns-in-NoText g c = as_text _ _ _ _ c.write_text.result (ap outcome_text (sym c.in-NoText.is)) c.write_text.ensures

pub returns-in_ok-text-in-Broken : goal.returns-in_ok-text-in-Broken
returns-in_ok-text-in-Broken g c =
    let text = c.as_str.ensures.value ∙ c.in_ok-text-in-Broken.ensures.ok in
    let grouped = ap (λ (l : List ℕ). codes "line " ++ l) (sym (append_assoc (decimal c.in-Broken.line) (codes ": " ++ rule_text c.in-Broken.rule) (10 ∷ []))) in
    as_text _ _ _ _ c.write_text-in-Broken.result (text ∙ grouped ∙ ap outcome_text (sym c.in-Broken.is)) c.write_text-in-Broken.ensures

pub returns-in_ok-text-in-Refused : goal.returns-in_ok-text-in-Refused
returns-in_ok-text-in-Refused g c =
    as_text _ _ _ _ c.write_text-in-Refused.result (c.as_str-in-Refused.ensures.value ∙ c.in_ok-text-in-Refused.ensures.ok ∙ ap outcome_text (sym c.in-Refused.is)) c.write_text-in-Refused.ensures
