-- The forms are lawful.
use Rattle.std.specs.Prelude.{ℕ, List, ◌++◌, refl}
use Rattle.std.proofs.Common.{lit<}
use Rattle.block.specs.Bytes.{Block}
use Rattle.block.specs.Permutes.{Permutes}
use Rattle.poet.specs.Functions.{Lawful}
use Rattle.block.proofs.Xors.{bytes_append, bytes_replicate}
use Rattle.forms.specs.Numbers.{big_endian}
use Rattle.forms.specs.Filling.{padded}
use Rattle.forms.specs.Keyed.{chained_by, key_of}
use Rattle.forms.specs.Submitted.{zeros}
use Rattle.forms.specs.Laws.{Inverts, KeepsBytes, KeyedLaw, SubmittedLaw}
use Rattle.forms.proofs.Chains.{chained_block}
use Rattle.forms.proofs.Endian.{big_endian_block, coded_block}
use Rattle.forms.proofs.Fillings.{padded_bytes}
use Rattle.forms.proofs.Sums.{masked_block}

pub chained_lawful : (e d c : List ℕ → List ℕ) → Permutes e d → ((b : List ℕ) → Block b → Block (c b)) → (fill : List ℕ → List ℕ) → KeepsBytes fill → Lawful (chained_by e d c fill)
chained_lawful e d c p cb fill fb = record {
  permutes = p;
  chain_block = cb;
  num_block = λ n _. big_endian_block n;
  dig_block = λ h b. chained_block e c p.enc_block cb (big_endian 1) (big_endian 1) (big_endian_block 1) (big_endian_block 1) (fill h) (fb h b);
}

-- a key made from the delivered one
pub key_block : (cipher inverse : List ℕ → List ℕ → List ℕ) → Inverts cipher inverse → (key : List ℕ) → Block key → (n : ℕ) → Block (key_of cipher key n)
key_block cipher inverse undone key b n = (undone key b).enc_block (big_endian n) (big_endian_block n)

pub keyed_lawful : KeyedLaw
keyed_lawful cipher inverse undone fill fb L b =
    let made = key_block cipher inverse undone L b in
    chained_lawful _ _ _ (undone (key_of cipher L 1) (made 1)) (undone (key_of cipher L 2) (made 2)).enc_block fill fb

pub zeros_block : Block zeros
zeros_block = record { long = refl; bytes = bytes_replicate 16 0 (lit< tt) }

pub submitted_lawful : SubmittedLaw
submitted_lawful cipher inverse undone hash hb front fb SK b =
    let made = key_block cipher inverse undone SK b in
    let k = undone (key_of cipher SK 0) (made 0) in
    record {
      permutes = k;
      chain_block = λ x p. hb (key_of cipher SK 2) x (made 2) p;
      num_block = λ n _. coded_block n;
      dig_block = λ h p. masked_block (cipher (key_of cipher SK 0)) k.enc_block zeros (key_of cipher SK 1) zeros_block (made 1) (padded (front ++ h)) (padded_bytes (front ++ h) (bytes_append front h fb p));
    }
