use Rattle.poet.specs.Rows.{length_mask}
use Rattle.session.proofs.engine.Engine.mask.Goals as goal

pub returns : goal.returns
unfolding length_mask
returns g c = λ key H a. let e = a.enc_is in let n = c.encode.ensures key in cc
