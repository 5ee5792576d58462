-- The older form of the masked header digest, by which the published vectors of the submission were
-- made.
use Rattle.std.specs.Prelude.{ℕ, ◌-◌, ◌/◌, ◌%◌, ◌&&◌, List, length, ◌==◌, nat_lt, if◌then◌else◌}
use Rattle.block.specs.Bytes.{block, ◌⊕◌}
use Rattle.poet.specs.Functions.{Functions}
use Rattle.forms.specs.Numbers.{coded}
use Rattle.forms.specs.Double.{double}
use Rattle.forms.specs.Filling.{filled}
use Rattle.forms.specs.Keyed.{Cipher, key_of}
use Rattle.forms.specs.Masked.{mask, summed}
use Rattle.forms.specs.Submitted.{zeros}

-- the mask of the last block: 3 times M for one that was whole, and 5 times M for one that was
-- filled
unfoldable pub last_mask : List ℕ → List ℕ → List ℕ
last_mask H M =
    if nat_lt 0 (length H) && length H % 16 == 0 then M ⊕ double M else M ⊕ double (double M)

-- All blocks but the last are masked, enciphered and added to S; the last one is masked and added.
unfoldable pub older : (e : List ℕ → List ℕ) (S L H : List ℕ) → List ℕ
older e S L H =
    let n = length (filled H) / 16 - 1 in
    e (summed e S L (filled H) n ⊕ (block n (filled H) ⊕ last_mask H (mask L n)))

-- a suite in the submission's form but for that digest, and with nothing before the header
abbrev pub older_suite : (cipher inverse hash : Cipher) → List ℕ → Functions
older_suite cipher inverse hash SK = record {
  enc = cipher (key_of cipher SK 0);
  dec = inverse (key_of cipher SK 0);
  chain = hash (key_of cipher SK 2);
  num = coded;
  dig = older (cipher (key_of cipher SK 0)) zeros (key_of cipher SK 1);
}
