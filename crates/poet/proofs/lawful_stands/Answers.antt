use Rattle.poet.proofs.Example.{lawful_some}
use Rattle.poet.proofs.lawful_stands.Goals as goal

pub returns : goal.returns
returns c = lawful_some
