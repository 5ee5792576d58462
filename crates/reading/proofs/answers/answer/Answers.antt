use Rattle.std.proofs.Common.{◌≡◌, ℕ, List, None, Bor, refl, ap, subst, ◌∙◌, arith}
use Rattle.sheet.specs.Entries.{sheet_of}
use Rattle.reading.specs.Replies.{Answered, Replies, asks_of, replies_of}
use Rattle.std.proofs.Math.Seq.{map-set_same}
use Rattle.reading.specs.declared.script.Call.{Call}
use Rattle.reading.proofs.Replying.{one_gone, one_more, all_gone, no_more, all_answered}
use Rattle.reading.proofs.answers.answer.Goals as goal

pub loop-call-preserved : goal.loop-call-preserved
loop-call-preserved c =
    let l = c.loop-call in
    let (same, asks, gone, sofar) = l.invariant in (
      c.reply.ensures.same ∙ same,
      map-set_same (λ (x : Call). x.ask) l.calls l.call-index _ _ refl ∙ asks,
      one_gone c.args.calls.now l.calls l.call-index _ c.reply.result (omega arith) asks refl l.reader c.reply.new.reader c.reply.ensures gone,
      λ es g e. one_more c.args.calls.now l.calls l.call-index _ c.reply.result (omega arith) asks refl l.reader c.reply.new.reader es c.reply.ensures (sofar es g e),
    )

pub returns-clause-replies : goal.returns-clause-replies
returns-clause-replies c =
    let l = c.loop-call in
    let (same, asks, gone, sofar) = l.invariant in
    subst (λ (x : Bor (List ℕ)). Replies x.now x.ref_ptr 0 None (asks_of c.args.calls.now) (replies_of l.calls)) (same ∙ c.new-reader.ensures.0) (all_gone c.args.calls.now l.calls l.call-index (omega arith) asks l.reader gone)

pub returns-clause-answered : goal.returns-clause-answered
returns-clause-answered c es g e =
    let l = c.loop-call in
    let (same, asks, gone, sofar) = l.invariant in
    let sheet : l.reader.sheet ≡ c.args.sheet = same ∙ c.new-reader.ensures.0 in
    let first : c.new-reader.result.sheet.now ≡ sheet_of es = ap (λ (x : Bor (List ℕ)). x.now) c.new-reader.ensures.0 ∙ e in
    let each = no_more c.args.calls.now l.calls l.call-index (omega arith) asks l.reader es (sofar es g first) in
    all_answered c.args.sheet.ref_ptr es c.args.calls.now l.calls asks (subst (λ (x : Bor (List ℕ)). Answered x.ref_ptr 0 None es (asks_of c.args.calls.now) (replies_of l.calls)) sheet each)
