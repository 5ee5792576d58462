-- The form of the POET v2.0 submission's suites.
use Rattle.std.specs.Prelude.{ℕ, List, ◌++◌, replicate}
use Rattle.poet.specs.Functions.{Functions}
use Rattle.forms.specs.Numbers.{coded}
use Rattle.forms.specs.Filling.{padded}
use Rattle.forms.specs.Masked.{masked}
use Rattle.forms.specs.Keyed.{Cipher, key_of}

-- sixteen zeros
abbrev pub zeros : List ℕ
zeros = replicate 16 0

-- The keys K, L and K_F are made with 0, 1 and 2. E and D are the cipher and its inverse under K, F
-- is the hash under K_F, numbers are coded, and the digest is masked by L, with `front` before the
-- header, which is always padded.
abbrev pub submitted_by : (cipher inverse hash : Cipher) (front : List ℕ) → List ℕ → Functions
submitted_by cipher inverse hash front SK = record {
  enc = cipher (key_of cipher SK 0);
  dec = inverse (key_of cipher SK 0);
  chain = hash (key_of cipher SK 2);
  num = coded;
  dig = λ H. masked (cipher (key_of cipher SK 0)) zeros (key_of cipher SK 1) (padded (front ++ H));
}
