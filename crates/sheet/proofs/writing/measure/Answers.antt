use Rattle.std.proofs.Common.{length, inl, inr, refl, ap, ◌∙◌, arith}
use Rattle.sheet.proofs.Breaking.{false_true}
use Rattle.sheet.proofs.Lists.{good_more, not_all}
use Rattle.sheet.proofs.writing.measure.Goals as goal

pub returns-then-not-is_good : goal.returns-then-not-is_good
returns-then-not-is_good c =
    not_all c.args.entries.now c.loop-e.e-index _ (omega arith) c.args.room c.loop-e.at _ c.loop-e.invariant
    (inl (record { is = refl; number = refl; layer = refl }, λ g. absurd (false_true (c.if-not-is_good.ensures.1 g))))

pub returns-then-room-at : goal.returns-then-room-at
returns-then-room-at c =
    let e = ap length (c.as_slice-size.ensures.bytes ∙ c.encode-out.ensures) in
    not_all c.args.entries.now c.loop-e.e-index _ (omega arith) c.args.room c.loop-e.at _ c.loop-e.invariant
    (inr (record { is = refl; number = refl; layer = refl }, c.if-not-is_good.ensures.0 refl, omega (arith, e, c.if-room-at.true)))

pub loop-e-preserved : goal.loop-e-preserved
loop-e-preserved c =
    good_more c.args.entries.now c.loop-e.e-index _ (omega arith) c.args.room c.loop-e.at _ c.loop-e.invariant (c.if-not-is_good.ensures.0 refl)
    (ap length (c.as_slice-size.ensures.bytes ∙ c.encode-out.ensures)) (omega (arith, c.if-room-at.false, c.loop-e.invariant.within))
