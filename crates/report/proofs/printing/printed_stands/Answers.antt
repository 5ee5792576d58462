use Rattle.report.proofs.Choosing.{printed}
use Rattle.report.proofs.printing.printed_stands.Goals as goal

pub returns : goal.returns
returns c = printed
