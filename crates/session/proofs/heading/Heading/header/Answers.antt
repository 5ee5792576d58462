use Rattle.std.proofs.Common.{◌≡◌, ◌+◌, false, ltb, length, sym, ap, ◌∙◌, append_assoc, arith, length-append, rules, le-ltb}
use Rattle.block.proofs.Xors.{bytes_append, bytes_from}
use Rattle.poet.specs.Seal.{header_most}
use Rattle.session.proofs.heading.Heading.header.Goals as goal

pub returns-clause-refused : goal.returns-clause-refused
returns-clause-refused g c =
    λ R a.
    let k = a.count_is in
    let e : ltb header_most (length R.header + length c.args.p.now) ≡ false = le-ltb header_most (length R.header + length c.args.p.now) (omega arith) in
    rw e

pub returns-clause-taken : goal.returns-clause-taken
returns-clause-taken g c =
    λ R a.
    let p = c.args.p.now in
    let n = length-append R.header p in
    let k = a.count_is in
    record {
      taken = record {
        key_block = a.taken.key_block;
        header_bytes = bytes_append R.header p a.taken.header_bytes (bytes_from p (λ i l. search rules));
        header_most = omega arith;
        body_bytes = a.taken.body_bytes;
      };
      no_body = a.no_body;
      no_out = a.no_out;
      enc_is = a.enc_is;
      dec_is = a.dec_is;
      chain_is = a.chain_is;
      rule_is = λ r. c.absorb.ensures r ∙ a.rule_is _ ∙ ap (g.S.Suite.under R.key).dig (sym (append_assoc R.header p r));
      count_is = omega arith;
    }
