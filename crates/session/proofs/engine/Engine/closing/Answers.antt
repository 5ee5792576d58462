use Rattle.poet.specs.Rows.{closing}
use Rattle.session.proofs.engine.Engine.closing.Goals as goal

pub returns : goal.returns
unfolding closing
returns g c = λ f H a. cc
