-- Functions that are lawful: blocks masked by one fixed block.
use Rattle.std.proofs.Common.{ℕ, List, replicate, refl, lit<}
use Rattle.block.specs.Bytes.{Block, ◌⊕◌}
use Rattle.poet.specs.Functions.{Functions, Lawful}
use Rattle.poet.specs.Laws.{LawfulSome}
use Rattle.block.proofs.Xors.{bytes_replicate, xor_twice, block_xor}

abbrev mask : List ℕ
mask = replicate 16 0x5a

mask_block : Block mask
mask_block = record { long = refl; bytes = bytes_replicate 16 0x5a (lit< tt) }

abbrev masked : Functions
masked = record { enc = λ b. b ⊕ mask; dec = λ b. b ⊕ mask; chain = λ b. b; num = λ n. mask; dig = λ h. mask }

masked_lawful : Lawful masked
masked_lawful = record {
  permutes = record {
    dec_enc = λ b p. xor_twice b mask;
    enc_dec = λ b p. xor_twice b mask;
    enc_block = λ b p. block_xor b mask p mask_block;
    dec_block = λ b p. block_xor b mask p mask_block;
  };
  chain_block = λ b p. p;
  num_block = λ n l. mask_block;
  dig_block = λ h b. mask_block;
}

pub lawful_some : LawfulSome
lawful_some = (masked, masked_lawful)
