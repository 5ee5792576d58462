use Rattle.trial_forms.proofs.Flips.{flipped_lawful}
use Rattle.trial_forms.proofs.flipped_stands.Goals as goal

pub returns : goal.returns
returns c = flipped_lawful
