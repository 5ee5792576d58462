-- The laws of a seal, of opening and of a seal's lengths.
use Rattle.std.proofs.Common.{refl, sym, ◌∙◌}
use Rattle.poet.specs.Rows.{ciphertext, opened, tag}
use Rattle.poet.specs.Laws.{OnlyLaw, OpeningLaw, SealLaw, TagLaw}
use Rattle.poet.proofs.Opening.{accepted, sealed_accepts, opened_is, cipher_length}
use Rattle.poet.proofs.Computing.{computing_law}

pub opening_law : OpeningLaw
opening_law f L h c t = record {
  accepts = (
    (λ a. (opened f h c t, (computing_law f L h (opened f h c t) c t).0 (accepted f L h c t a))),
    (λ p. sealed_accepts f L h p.0 c t ((computing_law f L h p.0 c t).1 p.1)),
  );
  computes = λ a. (computing_law f L h (opened f h c t) c t).0 (accepted f L h c t a);
  only = λ m s. sym (opened_is f L h m c t ((computing_law f L h m c t).1 s));
}

pub only_law : OnlyLaw
only_law f L h m m' c t s s' = let o = opening_law f L h c t in o.only m' s' ∙ sym (o.only m s)

pub seal_law : SealLaw
seal_law f L h m l = record {
  C = ciphertext f h m;
  T = tag f h m;
  seals = (computing_law f L h m (ciphertext f h m) (tag f h m)).0 (record { limits = l; cipher_is = refl; tag_is = refl });
  only = λ c t s. let k = (computing_law f L h m c t).1 s in (k.cipher_is, k.tag_is);
}

pub tag_law : TagLaw
tag_law f L h m c t s = let k = (computing_law f L h m c t).1 s in record { ciphertext = cipher_length f L h m c t k; tag = (sealed_accepts f L h m c t k).tag_block }
