use Rattle.std.proofs.Common.{refl, ◌∙◌}
use Rattle.sheet.specs.Entries.{item_of}
use Rattle.sheet.proofs.Values.{wrote_as}
use Rattle.listing.proofs.Lengths.{line_law}
use Rattle.listing.proofs.lines.line.Goals as goal

pub returns-then-not-is_good-clause-law : goal.returns-then-not-is_good-clause-law
returns-then-not-is_good-clause-law c = line_law

pub compose-text-requires : goal.compose-text-requires
compose-text-requires c = c.if-not-is_good.ensures.0 refl

pub returns-clause-text : goal.returns-clause-text
returns-clause-text c = wrote_as (item_of c.args.e) _ _ _ _ _ _ (c.if-not-is_good.ensures.0 refl) (c.as_slice.ensures.bytes ∙ c.compose-text.ensures) c.put.ensures

pub returns-clause-law : goal.returns-clause-law
returns-clause-law c = line_law
