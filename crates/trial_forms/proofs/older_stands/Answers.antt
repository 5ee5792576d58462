use Rattle.trial_forms.proofs.Olders.{older_lawful}
use Rattle.trial_forms.proofs.older_stands.Goals as goal

pub returns : goal.returns
returns c = older_lawful
