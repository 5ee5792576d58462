use Rattle.std.proofs.Common.{[], ◌∷◌, ◌++◌, ◌∙◌, take, ap}
use Rattle.trial_forms.specs.Older.{older}
use Rattle.trials.proofs.Pushing.{added}
use Rattle.trials.proofs.older.Older.push.Goals as goal

pub returns-in-Some : goal.returns-in-Some
returns-in-Some g c =
    λ r.
    let s = c.args.self.now in
    let k = c.in-Some.ensures in
    let h = c.push-in-Some.ensures ∙ ap (λ n. take 16 (n ++ c.args.b ∷ [])) c.new-self.ensures in
    ap (λ h. older (g.P.Permutation.enc s.permutation) c.xor-self.result c.double-self.result (h ++ r)) h
    ∙ added _ _ _ _ _ _ _ _ _ c.args.b r k.1 k.0 c.xor.ensures c.encrypt.ensures c.xor-self.ensures c.double-self.ensures
