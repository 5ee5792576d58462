use Rattle.poet.specs.Rows.{takes, gives}
use Rattle.session.proofs.engine.Engine.row.Goals as goal

pub returns-clause-stepped : goal.returns-clause-stepped
unfolding takes gives
returns-clause-stepped g c = λ f H a e. record { x_is = cc; y_is = cc; gives_is = cc }

pub returns-clause-hashed : goal.returns-clause-hashed
returns-clause-hashed g c = λ f H a. cc
