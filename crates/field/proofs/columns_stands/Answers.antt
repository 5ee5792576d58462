use Rattle.field.proofs.Columns.{unmixes, remixes}
use Rattle.field.proofs.columns_stands.Goals as goal

pub returns : goal.returns
returns c = record { unmixes = unmixes; remixes = remixes }
