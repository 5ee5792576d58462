use Rattle.speck.proofs.Laws.{expands, held, permutes, inverts, published}
use Rattle.speck.proofs.speck_stands.Goals as goal

pub returns : goal.returns
returns c = record { schedules = permutes; expands = expands; holds = held; keys = inverts; published = published }
