-- Suites with a chained header digest, and those made of one block cipher.
use Rattle.std.specs.Prelude.{ℕ, List}
use Rattle.poet.specs.Functions.{Functions}
use Rattle.forms.specs.Numbers.{big_endian}
use Rattle.forms.specs.Chained.{chained}

-- E, D and F are given; numbers are big-endian, and the digest is chained over E and F from N(1).
abbrev pub chained_by : (enc dec chain fill : List ℕ → List ℕ) → Functions
chained_by enc dec chain fill = record {
  enc = enc;
  dec = dec;
  chain = chain;
  num = big_endian;
  dig = λ H. chained enc chain (big_endian 1) (big_endian 1) (fill H);
}

-- a function from block to block, under each key
abbrev pub Cipher : Type 0
Cipher = List ℕ → List ℕ → List ℕ

-- a key made from the delivered one: a number, enciphered under that
abbrev pub key_of : Cipher → (delivered : List ℕ) → ℕ → List ℕ
key_of cipher delivered n = cipher delivered (big_endian n)

-- One block cipher: E and D are the cipher and its inverse under the key made with 1, and F is the
-- cipher under the key made with 2.
abbrev pub keyed_by : (cipher inverse : Cipher) (fill : List ℕ → List ℕ) → List ℕ → Functions
keyed_by cipher inverse fill L =
    let K = key_of cipher L 1 in
    let F = key_of cipher L 2 in
    chained_by (cipher K) (inverse K) (cipher F) fill
