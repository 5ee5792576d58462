use Rattle.std.proofs.Common.{◌≡◌, ◌++◌, length, ◌∙◌, subst, append_assoc, rules}
use Rattle.std.specs.Io.KnownBytes.{Appends}
use Rattle.std.proofs.KnownBytes.{Appends-trans}
use Rattle.hex.specs.Hex.{encode_lower}
use Rattle.replay.proofs.Writes.{digits_parted, digits_done, failed_text, front_behind}
use Rattle.replay.proofs.report.write_digits.Goals as goal

pub returns-in_err-write_piece : goal.returns-in_err-write_piece
returns-in_err-write_piece g c =
    let (done, split, written) = c.loop-rest.invariant in
    let e = digits_parted done c.loop-rest.rest.now c.split_at.result.0.now c.split_at.result.1.now c.args.bytes.now c.split_at.ensures.by_index.0 split in
    failed_text _ _ _ c.from_residual.result c.from_residual.ensures.0 (front_behind _ _ _ done (encode_lower c.split_at.result.0.now) (encode_lower c.split_at.result.1.now) (encode_lower c.args.bytes.now) e written c.in_err-write_piece.ensures)

pub loop-rest-preserved : goal.loop-rest-preserved
loop-rest-preserved g c =
    let (done, split, written) = c.loop-rest.invariant in
    let e = digits_parted done c.loop-rest.rest.now c.split_at.result.0.now c.split_at.result.1.now c.args.bytes.now c.split_at.ensures.by_index.0 split in (
      done ++ encode_lower c.split_at.result.0.now,
      append_assoc done (encode_lower c.split_at.result.0.now) (encode_lower c.split_at.result.1.now) ∙ e,
      Appends-trans _ _ _ _ _ written c.in_ok-write_piece.ensures,
    )

pub returns : goal.returns
returns g c =
    let (done, split, written) = c.loop-rest.invariant in
    let none : length c.loop-rest.rest.now ≡ 0 = search rules in
    subst (Appends _ _) (digits_done done c.loop-rest.rest.now c.args.bytes.now none split) written
