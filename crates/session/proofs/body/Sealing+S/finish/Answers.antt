use Rattle.std.proofs.Common.{◌≡◌, ℕ, false, eqb, length, replicate, Ok, Err, refl, ap, ◌∙◌, arith, ne_eqb}
use Rattle.fault.specs.declared.kinds.SessionFault.TheVariants.{Empty}
use Rattle.poet.specs.Rows.{last_length, length_mask}
use Rattle.session.specs.Runs.{Run}
use Rattle.session.specs.Sessions.{SessionAt, sealing_check}
use Rattle.session.proofs.ByChecks.{SealedBy, seal_end}
use Rattle.session.proofs.Endings.{sealed}
use Rattle.session.proofs.Finishing.{limits, seal_finished}
use Rattle.session.proofs.Nothing.{seal_end_passes}
use Rattle.session.proofs.body.Sealing+S.finish.Goals as goal

pub returns-then-self-eq0 : goal.returns-then-self-eq0
returns-then-self-eq0 g c =
    let q =
    λ (R : Run) (a : SessionAt R c.args.self).
    let f = g.S.Suite.under R.key in
    let k = a.total_is in
    let z : length R.body ≡ 0 = omega arith in
    let s : SealedBy (sealing_check R) f R (replicate 16 0) (replicate 16 0) (Err (record { fault = Empty; place = 0 })) = rw z (record { is = refl; number = refl; layer = refl }, refl, refl) in
    seal_end f (g.met.S.Suite.lawful R.key a.taken.key_block) R a.taken (sealing_check R) (replicate 16 0) (replicate 16 0) _ a.out_is (seal_end_passes f R) s in
    record {
      few = tt;
      refused = λ R a. (q R a).refused;
      cleared = (refl, refl);
      seals = λ R a. (q R a).seals;
      zeros = λ R a. (q R a).zeros;
      accepts = λ R a. (q R a).accepts;
      blocks = λ R a. (q R a).blocks;
      two_runs = λ R a. (q R a).two_runs;
    }

pub returns : goal.returns
returns g c =
    let len : ℕ = length c.as_slice-held.result.now in
    let q =
    λ (R : Run) (a : SessionAt R c.args.self).
    let f = g.S.Suite.under R.key in
    let k = a.total_is in
    let L = g.met.S.Suite.lawful R.key a.taken.key_block in
    let e : eqb (length R.body) 0 ≡ false = ne_eqb (length R.body) 0 (λ z. omega arith) in
    let n = ap length c.as_slice-held.ensures.bytes in
    let le : len ≡ last_length R.body = omega arith in
    let p =
    sealed f R.header R.body a.engine.tau_is (c.mask-mask.ensures R.key R.header a.engine ∙ ap (length_mask f) k) a.x_is a.y_is (c.as_slice-held.ensures.bytes ∙ a.held_is) c.complete-block.ensures (c.last_row.ensures f R.header a.engine) (c.closing-z.ensures f R.header a.engine) refl
    c.complete-2.ensures
    le
    (omega (arith, c.last_row.type_inv)) in
    let s : SealedBy (sealing_check R) f R c.complete.result c.complete-2.result (Ok len) =
    rw e (seal_finished f L R a.taken (limits R a.taken (omega arith) (omega arith)) len le c.last_row.result.1 _ c.complete.result _ (omega (arith, c.last_row.type_inv)) refl refl c.complete.ensures c.complete-2.result a.out_is p) in
    seal_end f L R a.taken (sealing_check R) c.complete.result c.complete-2.result _ a.out_is (seal_end_passes f R) s in
    record {
      few = omega arith;
      refused = λ R a. (q R a).refused;
      cleared = tt;
      seals = λ R a. (q R a).seals;
      zeros = λ R a. (q R a).zeros;
      accepts = λ R a. (q R a).accepts;
      blocks = λ R a. (q R a).blocks;
      two_runs = λ R a. (q R a).two_runs;
    }
