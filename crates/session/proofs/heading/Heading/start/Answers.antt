use Rattle.std.proofs.Common.{◌≡◌, ap, ◌∙◌, append-nil}
use Rattle.session.proofs.Starts.{started}
use Rattle.session.proofs.heading.Heading.start.Goals as goal

pub returns : goal.returns
returns g c =
    λ R a.
    let f = g.S.Suite.under R.key in
    let t : c.finish-tau.result ≡ f.dig R.header = c.finish-tau.ensures ∙ a.rule_is _ ∙ ap f.dig (append-nil R.header) in
    let s = started f g.W.Way.way R a.no_body a.no_out t c.xor.ensures (c.encode.ensures R.key) c.lanes-lanes.ensures.taking c.lanes-lanes.ensures.giving in
    record {
      taken = a.taken;
      engine = record { enc_is = a.enc_is; dec_is = a.dec_is; chain_is = a.chain_is; tau_is = t };
      x_is = s.0;
      y_is = s.1;
      out_is = s.2;
      held_is = c.new.ensures ∙ s.3;
      total_is = s.4;
    }
