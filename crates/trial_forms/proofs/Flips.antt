-- The suite with no cipher is lawful.
use Rattle.std.specs.Prelude.{ℕ, List, refl}
use Rattle.std.proofs.Common.{lit<}
use Rattle.block.specs.Bytes.{Block, ◌⊕◌}
use Rattle.block.specs.Permutes.{Permutes}
use Rattle.poet.specs.Functions.{Lawful}
use Rattle.block.proofs.Xors.{block_xor, bytes_replicate, xor_twice}
use Rattle.forms.proofs.Endian.{big_endian_block}
use Rattle.forms.proofs.Forming.{zeros_block}
use Rattle.trial_forms.specs.Flipped.{pattern, flipped}

pattern_block : Block pattern
pattern_block = record { long = refl; bytes = bytes_replicate 16 0x5A (lit< tt) }

flip_block : (b : List ℕ) → Block b → Block (b ⊕ pattern)
flip_block b p = block_xor b pattern p pattern_block

pub flips : Permutes (λ b. b ⊕ pattern) (λ b. b ⊕ pattern)
flips = record { dec_enc = λ b p. xor_twice b pattern; enc_dec = λ b p. xor_twice b pattern; enc_block = flip_block; dec_block = flip_block }

pub flipped_lawful : (key : List ℕ) → Block key → Lawful (flipped key)
flipped_lawful key k = record { permutes = flips; chain_block = λ b p. p; num_block = λ n l. big_endian_block n; dig_block = λ h p. zeros_block }
