use Rattle.std.proofs.Common.{refl, rules}
use borrow.Author.Tests.{tests}
use Rattle.std.proofs.lemmas.Iterator.{YieldsList-from_range}
use Rattle.std.proofs.lemmas.Iterator.Search.{all_from_yields_List}
use Rattle.sheet.specs.Table.{all_below, complete_at}
use Rattle.sheet.proofs.map.all_required.Goals as goal

pub returns : goal.returns
unfolding all_below
returns c = all_from_yields_List (complete_at c.args.map) _ _ _ c.all.ensures.ran (YieldsList-from_range 0 16 16 refl refl) (λ x b q k. search (rules, tests))
