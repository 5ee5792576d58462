-- The seal of POET v2.0, as the scheme states it: an equation for each row, and no program.
use Rattle.std.specs.Prelude.{◌≡◌, ℕ, suc, ◌+◌, ◌-◌, ◌*◌, ◌<◌, ◌≤◌, List, ◌++◌, length, take, drop}
use Rattle.block.specs.Bytes.{Bytes, block, ◌⊕◌}
use Rattle.poet.specs.Functions.{Functions}

-- the most bytes that a header has, and a message
abbrev pub header_most : ℕ
header_most = 65536

abbrev pub body_most : ℕ
body_most = 1048576

-- A header has 0 to 65,536 bytes, and a message 1 to 1,048,576. Nothing else is sealed.
pub record Limits (H M : List ℕ) : Type 0 where
  pub header_bytes : Bytes H
  pub header_most : length H ≤ header_most
  pub bytes : Bytes M
  pub some : 1 ≤ length M
  pub most : length M ≤ body_most

-- The first n rows, which tie the first n blocks of a message M and of a ciphertext C to one
-- another under the header H. Sealing goes through them from M to C, and opening from C to M.
pub record Rows (f : Functions) (H : List ℕ) (n : ℕ) (M C : List ℕ)
    (X Y : ℕ → List ℕ) : Type 0 where
  pub X_first : X 0 ≡ f.dig H
  pub Y_first : Y 0 ≡ f.dig H ⊕ f.num 1
  pub X_row : (i : ℕ) → i < n → X (suc i) ≡ f.chain (X i) ⊕ block i M
  pub Y_row : (i : ℕ) → i < n → Y (suc i) ≡ f.enc (X (suc i))
  pub C_row : (i : ℕ) → i < n → block i C ≡ f.chain (Y i) ⊕ Y (suc i)

-- Some X and Y tie them so.
pub record Tied (f : Functions) (H : List ℕ) (n : ℕ) (M C : List ℕ) : Type 0 where
  pub X : ℕ → List ℕ
  pub Y : ℕ → List ℕ
  pub rows : Rows f H n M C X Y

-- Under the header H the message M is sealed to the ciphertext C and the tag T.
pub record Seals (f : Functions) (H M C T : List ℕ) : Type 0 where
  pub limits : Limits H M
  -- M is n whole blocks and a last one of r bytes, 1 to 16
  pub n : ℕ
  pub r : ℕ
  pub cut : length M ≡ 16 * n + r
  pub r_some : 1 ≤ r
  pub r_most : r ≤ 16
  -- the rows before the last
  pub X : ℕ → List ℕ
  pub Y : ℕ → List ℕ
  pub rows : Rows f H n M C X Y
  -- S, from the length in bits, goes in before E and comes in again behind it
  pub S : List ℕ
  pub S_is : S ≡ f.enc (f.num (8 * length M))
  -- the last block is filled up with the first bytes of τ = dig H
  pub X_last : X (suc n) ≡ f.chain (X n) ⊕ (drop (16 * n) M ++ take (16 - r) (f.dig H)) ⊕ S
  pub Y_last : Y (suc n) ≡ f.enc (X (suc n))
  pub C_whole : List ℕ
  pub C_whole_is : C_whole ≡ f.chain (Y n) ⊕ Y (suc n) ⊕ S
  pub C_last : drop (16 * n) C ≡ take r C_whole
  -- the tag: α, the rest of that block, and then β, the first r bytes of Z
  pub Z : List ℕ
  pub Z_is : Z ≡ f.chain (Y (suc n)) ⊕ f.enc (f.chain (X (suc n)) ⊕ f.dig H) ⊕ f.dig H
  pub tag : T ≡ drop r C_whole ++ take r Z
