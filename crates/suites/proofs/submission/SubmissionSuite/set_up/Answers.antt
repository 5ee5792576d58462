use Rattle.std.proofs.Common.{ap, ◌∙◌}
use Rattle.forms.specs.Filling.{padded}
use Rattle.forms.specs.Submitted.{zeros}
use Rattle.suites.proofs.Setting.{masked_new}
use Rattle.suites.proofs.submission.SubmissionSuite.set_up.Goals as goal

pub returns-clause-enc : goal.returns-clause-enc
returns-clause-enc g c = g.met.B.BlockCipher.encrypts _ _ c.under-permutation.ensures ∙ ap g.B.KeyedHash.keyed c.new-keys.ensures.cipher

pub returns-clause-dec : goal.returns-clause-dec
returns-clause-dec g c = g.met.B.BlockCipher.decrypts _ _ c.under-permutation.ensures ∙ ap g.B.BlockCipher.inverse c.new-keys.ensures.cipher

pub returns-clause-chain : goal.returns-clause-chain
returns-clause-chain g c = g.met.H.KeyedHash.hashes _ _ c.under.ensures ∙ ap g.H.KeyedHash.keyed c.new-keys.ensures.chain

pub returns-clause-dig : goal.returns-clause-dig
returns-clause-dig g c =
    let d = c.new-digest.result in
    let s = c.new-digest.ensures in
    let p = c.new.ensures in
    let enc = ap (λ z. g.B.Permutation.enc z.permutation) s.digest ∙ ap g.B.Permutation.enc p.parts.0 ∙ returns-clause-enc g c in
    let sum = ap (λ z. z.sum) s.digest ∙ p.none in
    let mask = ap (λ z. z.mask) s.digest ∙ p.parts.1 ∙ c.new-keys.ensures.mask in
    masked_new _ _ _ d.digest.sum zeros d.digest.mask _ d.held zeros padded enc sum mask s.none_held c.absorb.ensures
