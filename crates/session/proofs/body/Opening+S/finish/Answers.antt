use Rattle.std.proofs.Common.{◌≡◌, ℕ, length, replicate, Ok, Err, refl, ap, arith, rules}
use Rattle.std.proofs.lemmas.Result.{err_from_is_err_and}
use Rattle.fault.specs.declared.kinds.SessionFault.TheVariants.{Empty}
use Rattle.block.proofs.Xors.{bytes_from}
use Rattle.session.proofs.ByChecks.{open_clauses}
use Rattle.session.proofs.Finishing.{opening_accepts, opening_refuses, none_empty, tag_refused}
use Rattle.session.proofs.body.Opening+S.finish.Goals as goal

pub returns-then-self-eq0 : goal.returns-then-self-eq0
returns-then-self-eq0 g c =
    let L = g.met.S.Suite.lawful in
    open_clauses L c.args.self c.args.tag.now (replicate 16 0) (Err (record { fault = Empty; place = 0 })) tt refl (λ R a. a.out_is) λ R a.
    let k = a.total_is in
    let z : length R.body ≡ 0 = omega arith in
    rw z (record { is = refl; number = refl; layer = refl }, refl, none_empty (g.S.Suite.under R.key) (L R.key a.taken.key_block) R c.args.tag.now z)

pub returns-in_err-tag : goal.returns-in_err-tag
returns-in_err-tag g c =
    let L = g.met.S.Suite.lawful in
    let p = err_from_is_err_and c.from_residual.result c.from_residual.ensures.1 in
    rw (p.1, p.2)
    (open_clauses L c.args.self c.args.tag.now (replicate 16 0) (Err c.in_err-tag.field-0.0) tt refl (λ R a. a.out_is) λ R a.
    let k = a.total_is in
    tag_refused (g.S.Suite.under R.key) R c.args.tag.now c.args.self.total c.in_err-tag.field-0.0 (L R.key a.taken.key_block) (omega arith) k c.in_err-tag.ensures.refused)

pub returns-in_default : goal.returns-in_default
returns-in_default g c =
    let L = g.met.S.Suite.lawful in
    open_clauses L c.args.self c.args.tag.now (replicate 16 0) _ tt refl (λ R a. a.out_is) λ R a.
    let k = a.total_is in
    opening_refuses (g.S.Suite.under R.key) (L R.key a.taken.key_block) R a.taken c.args.self.total k (omega arith) (omega arith) c.args.tag.now _ (bytes_from c.args.tag.now (λ i j. search rules)) c.in_ok-tag.ensures.refused c.in_ok-tag.ensures.same a.out_is
    (rw c.in_default.is at (c.verdict.ensures R a))

pub returns : goal.returns
returns g c =
    let L = g.met.S.Suite.lawful in
    let len : ℕ = length c.as_slice-len.result.now in
    open_clauses L c.args.self c.args.tag.now c.complete.result (Ok len) (omega arith) tt (λ R a. a.out_is) λ R a.
    let k = a.total_is in
    let n = ap length c.as_slice-len.ensures.bytes in
    opening_accepts (g.S.Suite.under R.key) (L R.key a.taken.key_block) R a.taken c.args.self.total k (omega arith) (omega arith) c.args.tag.now _ (bytes_from c.args.tag.now (λ i j. search rules)) c.in_ok-tag.ensures.refused c.in_ok-tag.ensures.same a.out_is
    len
    c.in-Some.given
    _
    _
    _
    (rw c.in-Some.is at (c.verdict.ensures R a))
    (omega arith)
    (omega arith)
    refl
    refl
    c.complete.ensures
