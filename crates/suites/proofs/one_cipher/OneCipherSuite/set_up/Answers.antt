use Rattle.std.proofs.Common.{ap, ◌∙◌}
use Rattle.suites.proofs.Setting.{enciphered, chained_new}
use Rattle.suites.proofs.one_cipher.OneCipherSuite.set_up.Goals as goal

pub returns-clause-enc : goal.returns-clause-enc
returns-clause-enc g c =
    let B = g.met.B.BlockCipher in
    let d = B.encrypts c.under-delivered.result c.args.key c.under-delivered.ensures in
    B.encrypts c.under-permutation.result c.encrypt.result c.under-permutation.ensures
    ∙ ap g.B.KeyedHash.keyed (enciphered g.B.KeyedHash.keyed _ c.args.key _ _ _ d c.big_endian.ensures c.encrypt.ensures)

pub returns-clause-dec : goal.returns-clause-dec
returns-clause-dec g c =
    let B = g.met.B.BlockCipher in
    let d = B.encrypts c.under-delivered.result c.args.key c.under-delivered.ensures in
    B.decrypts c.under-permutation.result c.encrypt.result c.under-permutation.ensures
    ∙ ap g.B.BlockCipher.inverse (enciphered g.B.KeyedHash.keyed _ c.args.key _ _ _ d c.big_endian.ensures c.encrypt.ensures)

pub returns-clause-chain : goal.returns-clause-chain
returns-clause-chain g c =
    let d = g.met.B.BlockCipher.encrypts c.under-delivered.result c.args.key c.under-delivered.ensures in
    g.met.B.KeyedHash.hashes c.under-hash.result c.encrypt-2.result c.under-hash.ensures
    ∙ ap g.B.KeyedHash.keyed (enciphered g.B.KeyedHash.keyed _ c.args.key _ _ _ d c.big_endian-2.ensures c.encrypt-2.ensures)

pub returns-clause-dig : goal.returns-clause-dig
returns-clause-dig g c =
    let s = c.new.ensures in
    let p = c.new-chained.ensures in
    let enc = ap (λ z. g.B.Permutation.enc z.permutation) s.digest ∙ ap g.B.Permutation.enc p.parts.0 ∙ returns-clause-enc g c in
    let chain = ap (λ z. g.B.ChainingHash.chain z.hash) s.digest ∙ ap g.B.ChainingHash.chain p.parts.1 ∙ returns-clause-chain g c in
    let x = ap (λ z. z.x) s.digest ∙ p.rows.0 ∙ c.big_endian-3.ensures in
    let y = ap (λ z. z.y) s.digest ∙ p.rows.1 ∙ c.big_endian-3.ensures in
    chained_new _ _ _ _ _ _ _ _ g.G.Filling.fill enc chain x y s.none_held
