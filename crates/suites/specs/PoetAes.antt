-- The suites of the POET v2.0 submission without intermediate tags: zeros stand before the header.
use Rattle.std.specs.Prelude.{ℕ, List}
use Rattle.poet.specs.Functions.{Functions}
use Rattle.aes.specs.Expansion.{aes, inv_aes, aes4}
use Rattle.forms.specs.Submitted.{submitted_by, zeros}

-- POET-AES10-AES4: the chaining hash is AES-128 with four rounds, all of them whole
abbrev pub poet_aes_four : List ℕ → Functions
poet_aes_four = submitted_by aes inv_aes aes4 zeros

-- POET-AES10-AES10: the chaining hash is AES-128
abbrev pub poet_aes_ten : List ℕ → Functions
poet_aes_ten = submitted_by aes inv_aes aes zeros
