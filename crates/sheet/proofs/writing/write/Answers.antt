use Rattle.std.proofs.Common.{refl, ◌∙◌}
use Rattle.sheet.specs.Entries.{item_of}
use Rattle.sheet.proofs.Values.{wrote_as}
use Rattle.sheet.proofs.writing.write.Goals as goal

pub encode-out-requires : goal.encode-out-requires
encode-out-requires c = c.if-not-is_good.ensures.0 refl

pub returns : goal.returns
returns c = wrote_as (item_of c.args.e) _ _ _ _ _ _ (c.if-not-is_good.ensures.0 refl) (c.as_slice.ensures.bytes ∙ c.encode-out.ensures) c.put.ensures
