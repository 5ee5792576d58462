use Rattle.std.proofs.Common.{List, ℕ, ap, ◌∙◌, sym, arith, eqb-true}
use borrow.Author.Tests.{eqb-false}
use Rattle.session.proofs.Bytewise.{differences, same_bytes, no_differences}
use Rattle.session.proofs.blocks.same.Goals as goal

pub returns : goal.returns
returns c =
    let d = c.differences.ensures in
    record {
      yes = λ e. (same_bytes 0 c.args.a.now c.args.b.now (omega arith) (sym d ∙ eqb-true c.differences.result 0 e)).1;
      no = λ e s. eqb-false c.differences.result 0 e (d ∙ ap (λ (z : List ℕ). differences 0 c.args.a.now z) (sym s) ∙ no_differences c.args.a.now);
    }
