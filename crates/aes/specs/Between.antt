-- Where a state in the tower stands between the rounds, on the way forth and back. No contract of a
-- public function cites it.
use Rattle.std.specs.Prelude.{◌≡◌, ℕ, List, map}
use Rattle.block.specs.Bytes.{Block}
use Rattle.aes.specs.State.{add_round_key, inv_shift_rows, inv_sub_bytes}
use Rattle.aes.specs.Cipher.{key_at, rounds}
use Rattle.aes.specs.Grouping.{unrounds}
use Rattle.aes.specs.Tower.{in_tower, unaffine_in_tower}

-- s is the block x in the tower after n rounds of Cipher
abbrev pub AfterRounds : (ks : List (List ℕ)) (n : ℕ) (x s : List ℕ) → Type 0
AfterRounds ks n x s = s ≡ map in_tower (rounds ks n (add_round_key (key_at ks 0) x))

-- s is a state in the tower that InvSubBytes is due for; that step and the rounds n to 1 undone
-- lead from it to r
pub record LeadsTo (ks : List (List ℕ)) (n : ℕ) (s r : List ℕ) : Type 0 where
  pub state : List ℕ
  pub block : Block state
  pub inside : s ≡ map unaffine_in_tower state
  pub leads : unrounds ks n (inv_sub_bytes state) ≡ r

-- the block y with the last round undone but for InvSubBytes
abbrev pub last_undone : List (List ℕ) → List ℕ → List ℕ
last_undone ks y = inv_shift_rows (add_round_key (key_at ks 10) y)

-- s is y in the tower, on the way back through InvCipher, with the rounds n to 1 left to undo
abbrev pub BeforeRounds : (ks : List (List ℕ)) (n : ℕ) (y s : List ℕ) → Type 0
BeforeRounds ks n y s = LeadsTo ks n s (unrounds ks 9 (inv_sub_bytes (last_undone ks y)))
