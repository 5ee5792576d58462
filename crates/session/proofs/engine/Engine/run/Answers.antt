use Rattle.std.proofs.Common.{ℕ, ◌+◌, ◌-◌, ◌*◌, ◌≤◌, List, ◌++◌, length, refl, ap, ap₂, ◌∙◌, arith, length-append}
use Rattle.std.proofs.lemmas.List.{take_rest}
use Rattle.session.proofs.Runs.{ran_none, ran_zero, ran_more, more_fits, block_next}
use Rattle.session.proofs.engine.Engine.run.Goals as goal

pub returns-then-n-eq0-clause-ran : goal.returns-then-n-eq0-clause-ran
returns-then-n-eq0-clause-ran g c = λ f H e. ran_zero _ _ _ _ _ _ c.if-n-eq0.true

pub next_block-block-requires : goal.next_block-block-requires
next_block-block-requires g c =
    let a : List ℕ = c.args.held.now ++ c.args.input.now in
    let w : 16 * (c.loop-i.i + 1) ≤ length a = omega (arith, length-append c.args.held.now c.args.input.now) in
    more_fits a c.loop-i.held c.loop-i.input.now c.loop-i.i c.loop-i.invariant.left w

pub loop-i-init : goal.loop-i-init
loop-i-init g c = record { ran = λ f H a. ran_none _ _ _ _ _; hashed = λ f H a. cc; left = refl }

pub slice_bounds-input-count : goal.slice_bounds-input-count
slice_bounds-input-count g c =
    let a : List ℕ = c.args.held.now ++ c.args.input.now in
    let w : 16 * (c.loop-i.i + 1) ≤ length a = omega (arith, length-append c.args.held.now c.args.input.now) in
    omega (arith, ap length c.as_slice.ensures.bytes, more_fits a c.loop-i.held c.loop-i.input.now c.loop-i.i c.loop-i.invariant.left w)

pub slice_bounds-input-start : goal.slice_bounds-input-start
slice_bounds-input-start g c =
    let a : List ℕ = c.args.held.now ++ c.args.input.now in
    let w : 16 * (c.loop-i.i + 1) ≤ length a = omega (arith, length-append c.args.held.now c.args.input.now) in
    omega (arith, ap length c.as_slice.ensures.bytes, more_fits a c.loop-i.held c.loop-i.input.now c.loop-i.i c.loop-i.invariant.left w)

pub loop-i-preserved : goal.loop-i-preserved
loop-i-preserved g c =
    let a : List ℕ = c.args.held.now ++ c.args.input.now in
    let w : 16 * (c.loop-i.i + 1) ≤ length a = omega (arith, length-append c.args.held.now c.args.input.now) in
    let b = block_next a c.loop-i.held c.loop-i.input.now c.loop-i.i (16 - length c.as_slice.result.now) c.loop-i.invariant.left (omega (arith, ap length c.as_slice.ensures.bytes)) in
    record {
      ran =
          λ f H e.
          ran_more _ _ _ _ _ _ _ _ (c.loop-i.invariant.ran f H e) c.next_block-block.result _ _ c.copy_from_slice.new.self _ (c.row.ensures.stepped f H e (c.loop-i.invariant.hashed f H e)) (c.next_block-block.ensures.block ∙ b.0) c.copy_from_slice.ensures.after (omega arith)
          (ap length c.copy_from_slice.ensures.after ∙ (omega arith))
          (omega arith)
          (omega arith);
      hashed = λ f H e. c.row.ensures.hashed f H e;
      left = ap₂ ◌++◌ c.next_block-block.ensures.none_held (take_rest c.loop-i.input.now (16 - length c.as_slice.result.now)) ∙ b.1;
    }
