use Rattle.poet.specs.Rows.{last}
use Rattle.session.proofs.engine.Engine.last_row.Goals as goal

pub returns : goal.returns
unfolding last
returns g c = λ f H a. record { x_is = cc; y_is = cc; gives_is = cc }
