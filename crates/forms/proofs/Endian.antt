-- Numbers are blocks.
use Rattle.std.specs.Prelude.{ℕ, true, false, Bool, cond, List, take, drop, replicate, nat_lt, refl}
use Rattle.std.proofs.Common.{arith, lit<}
use Rattle.block.specs.Bytes.{Bytes, Block}
use Rattle.block.proofs.Xors.{bytes_append, bytes_replicate}
use Rattle.forms.specs.Numbers.{big_endian, little_endian, coded}

low_bytes : (n : ℕ) → Bytes (drop 8 (big_endian n))
unfolding Bytes
low_bytes n = (omega arith, (omega arith, (omega arith, (omega arith, (omega arith, (omega arith, (omega arith, (omega arith, tt))))))))

pub big_endian_block : (n : ℕ) → Block (big_endian n)
big_endian_block n = record { long = refl; bytes = bytes_append (replicate 8 0) (drop 8 (big_endian n)) (bytes_replicate 8 0 (lit< tt)) (low_bytes n) }

little_bytes : (n : ℕ) → Bytes (take 8 (little_endian n))
unfolding Bytes
little_bytes n = (omega arith, (omega arith, (omega arith, (omega arith, (omega arith, (omega arith, (omega arith, (omega arith, tt))))))))

little_endian_block : (n : ℕ) → Block (little_endian n)
little_endian_block n = record { long = refl; bytes = bytes_append (take 8 (little_endian n)) (replicate 8 0) (little_bytes n) (bytes_replicate 8 0 (lit< tt)) }

pub either_block : (t : Bool) (a b : List ℕ) → Block a → Block b → Block (cond t a b)
either_block true a b p q = p
either_block false a b p q = q

pub coded_block : (n : ℕ) → Block (coded n)
coded_block n = either_block (nat_lt n 8) (big_endian n) (little_endian n) (big_endian_block n) (little_endian_block n)
