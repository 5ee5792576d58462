use Rattle.sheet.proofs.Writes.{writing, sheets}
use Rattle.sheet.proofs.writing.writing_stands.Goals as goal

pub returns : goal.returns
returns c = record { writes = writing; sheets = sheets }
