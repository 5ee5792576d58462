use Rattle.std.proofs.Common.{is_some, ap, ◌∙◌}
use lib.Count.{ones}
use Rattle.sheet.specs.Entries.{item_map, item_of}
use Rattle.sheet.proofs.Count.{counts}
use Rattle.sheet.proofs.Ones.{ones_16}
use Rattle.sheet.proofs.FieldBytes.{map_flags}
use Rattle.sheet.proofs.writing.fields.Goals as goal

pub returns : goal.returns
returns c =
    let e = item_of c.args.e in
    let small = (map_flags (is_some e.parent) (is_some e.landing) (is_some e.months) (is_some e.drawing)).small in
    record {
      bits = ap ones c.map_of.ensures ∙ ones_16 (item_map e) small;
      fields = ap ones c.map_of.ensures ∙ counts (is_some e.parent) (is_some e.landing) (is_some e.months) (is_some e.drawing);
    }
