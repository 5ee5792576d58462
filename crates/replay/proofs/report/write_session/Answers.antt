use Rattle.std.proofs.Common.{[], ◌∷◌, ◌++◌, vec_items, ◌∙◌, append_assoc}
use Rattle.std.proofs.KnownBytes.{Appends-nil, Appends-trans}
use Rattle.replay.specs.Texts.{answers_text, end_text, line}
use Rattle.replay.proofs.Writes.{body_part, failed_text, front_behind, header_part, nothing_written, out_part, parts, wrote_behind}
use Rattle.replay.proofs.report.write_session.Goals as goal

pub returns-in_err-head : goal.returns-in_err-head
returns-in_err-head g c = failed_text _ _ _ c.from_residual.result c.from_residual.ensures.0 (nothing_written _ _)

pub returns-in_err-tail : goal.returns-in_err-tail
returns-in_err-tail g c = failed_text _ _ _ c.from_residual-in_err-tail.result c.from_residual-in_err-tail.ensures.0 (nothing_written _ _)

pub returns-in_err-write_titled : goal.returns-in_err-write_titled
returns-in_err-write_titled g c =
    let answers = answers_text (vec_items c.args.log.now.answers) in
    let header = vec_items c.args.log.now.header in
    let body = vec_items c.args.log.now.body in
    let out = vec_items c.args.log.now.out in
    let end = line (end_text c.args.end.now) [] in
    let wrote = rw (c.as_str.ensures.value, c.in_ok-head.ensures.ok, c.as_slice.ensures.value, c.as_slice-2.ensures.value) at c.in_err-write_titled.ensures in
    failed_text _ _ _ c.from_residual-in_err-write_titled.result c.from_residual-in_err-write_titled.ensures.0
    (front_behind _ _ _ [] (header_part answers header) (body_part body ++ (out_part out ++ (10 ∷ end))) _ (parts answers header body out end) (Appends-nil _) wrote)

pub returns-in_err-write_titled-2 : goal.returns-in_err-write_titled-2
returns-in_err-write_titled-2 g c =
    let answers = answers_text (vec_items c.args.log.now.answers) in
    let header = vec_items c.args.log.now.header in
    let body = vec_items c.args.log.now.body in
    let out = vec_items c.args.log.now.out in
    let end = line (end_text c.args.end.now) [] in
    let first = rw (c.as_str.ensures.value, c.in_ok-head.ensures.ok, c.as_slice.ensures.value, c.as_slice-2.ensures.value) at c.in_ok-write_titled.ensures in
    let wrote = rw c.as_slice-3.ensures.value at c.in_err-write_titled-2.ensures in
    failed_text _ _ _ c.from_residual-in_err-write_titled-2.result c.from_residual-in_err-write_titled-2.ensures.0
    (front_behind _ _ _ (header_part answers header) (body_part body) (out_part out ++ (10 ∷ end)) _ (parts answers header body out end) first wrote)

pub returns-in_err-write_titled-3 : goal.returns-in_err-write_titled-3
returns-in_err-write_titled-3 g c =
    let answers = answers_text (vec_items c.args.log.now.answers) in
    let header = vec_items c.args.log.now.header in
    let body = vec_items c.args.log.now.body in
    let out = vec_items c.args.log.now.out in
    let end = line (end_text c.args.end.now) [] in
    let first = rw (c.as_str.ensures.value, c.in_ok-head.ensures.ok, c.as_slice.ensures.value, c.as_slice-2.ensures.value) at c.in_ok-write_titled.ensures in
    let second = rw c.as_slice-3.ensures.value at c.in_ok-write_titled-2.ensures in
    let wrote = rw c.as_slice-4.ensures.value at c.in_err-write_titled-3.ensures in
    failed_text _ _ _ c.from_residual-in_err-write_titled-3.result c.from_residual-in_err-write_titled-3.ensures.0
    (front_behind _ _ _ (header_part answers header ++ body_part body) (out_part out) (10 ∷ end) _
    (append_assoc (header_part answers header) (body_part body) (out_part out ++ (10 ∷ end)) ∙ parts answers header body out end)
    (Appends-trans _ _ _ (header_part answers header) (body_part body) first second) wrote)

pub returns : goal.returns
returns g c =
    let answers = answers_text (vec_items c.args.log.now.answers) in
    let header = vec_items c.args.log.now.header in
    let body = vec_items c.args.log.now.body in
    let out = vec_items c.args.log.now.out in
    let end = line (end_text c.args.end.now) [] in
    let first = rw (c.as_str.ensures.value, c.in_ok-head.ensures.ok, c.as_slice.ensures.value, c.as_slice-2.ensures.value) at c.in_ok-write_titled.ensures in
    let second = rw c.as_slice-3.ensures.value at c.in_ok-write_titled-2.ensures in
    let third = rw c.as_slice-4.ensures.value at c.in_ok-write_titled-3.ensures in
    let last = rw (c.as_str-2.ensures.value, c.in_ok-tail.ensures.ok) at c.write_text.ensures in
    wrote_behind _ _ _ ((header_part answers header ++ body_part body) ++ out_part out) (10 ∷ end) _ c.write_text.result
    (append_assoc (header_part answers header ++ body_part body) (out_part out) (10 ∷ end) ∙ append_assoc (header_part answers header) (body_part body) (out_part out ++ (10 ∷ end)) ∙ parts answers header body out end)
    (Appends-trans _ _ _ (header_part answers header ++ body_part body) (out_part out) (Appends-trans _ _ _ (header_part answers header) (body_part body) first second) third) last
