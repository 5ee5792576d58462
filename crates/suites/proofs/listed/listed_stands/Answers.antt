use Rattle.suites.proofs.Lawful.{listed_lawful, listed_numbers}
use Rattle.suites.proofs.listed.listed_stands.Goals as goal

pub returns-clause-number : goal.returns-clause-number
returns-clause-number c = listed_numbers

pub returns-clause-lawful : goal.returns-clause-lawful
returns-clause-lawful c = listed_lawful
