use Rattle.suites.proofs.Setting.{enciphered}
use Rattle.suites.proofs.submission.Keys.new.Goals as goal

pub returns-clause-cipher : goal.returns-clause-cipher
returns-clause-cipher g c =
    enciphered g.B.KeyedHash.keyed _ c.args.delivered _ _ _ (g.met.B.BlockCipher.encrypts _ _ c.under-delivered.ensures) c.big_endian.ensures c.encrypt.ensures

pub returns-clause-mask : goal.returns-clause-mask
returns-clause-mask g c =
    enciphered g.B.KeyedHash.keyed _ c.args.delivered _ _ _ (g.met.B.BlockCipher.encrypts _ _ c.under-delivered.ensures) c.big_endian-2.ensures c.encrypt-2.ensures

pub returns-clause-chain : goal.returns-clause-chain
returns-clause-chain g c =
    enciphered g.B.KeyedHash.keyed _ c.args.delivered _ _ _ (g.met.B.BlockCipher.encrypts _ _ c.under-delivered.ensures) c.big_endian-3.ensures c.encrypt-3.ensures
