use Rattle.std.proofs.Common.{rules, ℕ, List, ◌++◌, ap, ◌∙◌}
use Rattle.reading.specs.Replies.{asks_of}
use Rattle.browse.specs.Shown.{refusal_text}
use Rattle.browse.proofs.Playing.{no_delivery}
use Rattle.browse.proofs.browsing.text_for.Goals as goal
use Rattle.browse.proofs.browsing.text_for.Goals.{in-Ok+in_ok-browse-in-Ok, in-Err+in_ok-refuse-in-Err}

pub returns-in_err-browse-in-Ok : goal.returns-in_err-browse-in-Ok
returns-in_err-browse-in-Ok c = let t = c.browse.ensures c.args.input.now c.in-Ok.ensures in (t.0, t.1, search rules)

pub returns-in_err-refuse-in-Err : goal.returns-in_err-refuse-in-Err
returns-in_err-refuse-in-Err c =
    let f = c.in-Err.fault in (refusal_text f, no_delivery c.args.input.now (asks_of c.args.calls.now) f c.in-Err.ensures, search rules)

pub returns : goal.returns
returns c =
    elim c.match-parse.branch [
      | in-Ok+in_ok-browse-in-Ok w ↦
          let t = w.in_ok-browse-in-Ok.ensures c.args.input.now w.in-Ok.ensures in
          (t.0, t.1, rw w.text-is (t.2 ∙ ap (λ (x : List ℕ). x ++ t.0) c.new-text.ensures.items))
      | in-Err+in_ok-refuse-in-Err w ↦
          let f = w.in-Err.fault in (
            refusal_text f,
            no_delivery c.args.input.now (asks_of c.args.calls.now) f w.in-Err.ensures,
            rw w.text-is (w.in_ok-refuse-in-Err.ensures ∙ ap (λ (x : List ℕ). x ++ refusal_text f) c.new-text.ensures.items),
          )
    ]
