use Rattle.std.proofs.Common.{◌++◌, [], refl}
use Rattle.std.proofs.KnownBytes.{Appends-nil}
use Rattle.hex.specs.Hex.{encode_lower}
use Rattle.replay.proofs.Writes.{failed_text, front_behind, wrote_behind}
use Rattle.replay.proofs.report.write_titled.Goals as goal

pub returns-in_err-write_text : goal.returns-in_err-write_text
returns-in_err-write_text g c =
    failed_text _ _ _ c.from_residual.result c.from_residual.ensures.0
    (front_behind _ _ _ [] c.args.title.now (encode_lower c.args.bytes.now) (c.args.title.now ++ encode_lower c.args.bytes.now) refl (Appends-nil _) c.in_err-write_text.ensures)

pub returns : goal.returns
returns g c = wrote_behind _ _ _ c.args.title.now (encode_lower c.args.bytes.now) (c.args.title.now ++ encode_lower c.args.bytes.now) c.write_digits.result refl c.in_ok-write_text.ensures c.write_digits.ensures
