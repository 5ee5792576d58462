use Rattle.sheet.proofs.Decoding.{entry, reading, unique, holds, broken}
use Rattle.sheet.proofs.Breaking.{refusals, first}
use Rattle.sheet.proofs.whole.reading_stands.Goals as goal

pub returns : goal.returns
returns c = record { entry = entry; reads = reading; refuses = refusals; first = first; unique = unique; holds = holds; broken = broken }
