use Rattle.std.proofs.Common.{◌∙◌, sym, ap}
use Rattle.aes.specs.Grouping.{unrounds}
use Rattle.aes.proofs.Rounds.{unrounds_none, left, fewer, back}
use Rattle.aes.proofs.Schedule.undo_rounds.Goals as goal

pub loop-key-preserved : goal.loop-key-preserved
loop-key-preserved c =
    let ks = c.args.self.now.keys in
    let xs = c.loop-key.key-iterator.iter.rest.now in
    let ys = c.next.new.self.iter.rest.now in
    let e = c.in-Some.ensures.steps in
    let l = c.loop-key.invariant.left in
    record {
      left = left ks xs ys c.in-Some.key.now e l;
      few = fewer ks xs ys c.in-Some.key.now e l c.args.n c.loop-key.invariant.few;
      same = back ks xs ys c.in-Some.key.now e l c.loop-key.s c.add_round_key.result c.undo_round-s.result c.add_round_key.ensures c.undo_round-s.ensures ∙ c.loop-key.invariant.same;
    }

pub returns : goal.returns
returns c =
    let ks = c.args.self.now.keys in
    sym (ap (λ i. unrounds ks i c.loop-key.s) c.in-None.ensures.steps.0 ∙ unrounds_none ks c.loop-key.s) ∙ c.loop-key.invariant.same
