use Rattle.std.proofs.Common.{refl, ap, arith, rules}
use Rattle.block.proofs.Xors.{bytes_nil, bytes_from}
use Rattle.session.proofs.heading.Heading.under.Goals as goal

pub returns : goal.returns
returns g c = record {
  taken = record {
    key_block = record { long = omega arith; bytes = bytes_from c.args.key (λ k l. search rules) };
    header_bytes = bytes_nil;
    header_most = omega arith;
    body_bytes = bytes_nil;
  };
  no_body = refl;
  no_out = refl;
  enc_is = c.set_up-permutation.ensures.enc;
  dec_is = c.set_up-permutation.ensures.dec;
  chain_is = c.set_up-permutation.ensures.chain;
  rule_is = λ r. ap (λ f. f r) c.set_up-permutation.ensures.dig;
  count_is = refl;
}
