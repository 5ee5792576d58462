-- A suite that no list has: E and D add a block of 5A, F returns its block, numbers are big-endian,
-- and every header has the same digest, zeros.
use Rattle.std.specs.Prelude.{ℕ, List, replicate}
use Rattle.block.specs.Bytes.{◌⊕◌}
use Rattle.poet.specs.Functions.{Functions}
use Rattle.forms.specs.Numbers.{big_endian}

abbrev pub pattern : List ℕ
pattern = replicate 16 0x5A

abbrev pub flipped : List ℕ → Functions
flipped key = record {
  enc = λ b. b ⊕ pattern;
  dec = λ b. b ⊕ pattern;
  chain = λ b. b;
  num = big_endian;
  dig = λ H. replicate 16 0;
}
