-- What a session promises of every run, finished or not, accepted or not.
use Rattle.std.specs.Prelude.{◌≡◌, ℕ, ◌*◌, ◌<◌, ◌≤◌, ◌↔◌, List, length, take}
use Rattle.block.specs.Bytes.{Bytes}
use Rattle.poet.specs.Functions.{Functions}
use Rattle.poet.specs.Seal.{Tied}
use Rattle.session.specs.Directions.{Direction, sealing, opening}
use Rattle.session.specs.Runs.{Run}

-- the first k blocks taken and the first k handed out are tied by the rows: message and ciphertext,
-- or ciphertext and message
abbrev pub TiedBy : Direction → (f : Functions) (H : List ℕ) (k : ℕ) (body out : List ℕ) → Type 0
TiedBy sealing f H k body out = Tied f H k body out
TiedBy opening f H k body out = Tied f H k out body

-- Whoever took more than k blocks handed out the k blocks that the rows give for them.
pub record Blocks (w : Direction) (f : Functions) (R : Run) : Type 0 where
  pub header_bytes : Bytes R.header
  pub body_bytes : Bytes R.body
  pub out_bytes : Bytes R.out
  pub out_most : length R.out ≤ length R.body
  pub handed : (k : ℕ) → 16 * k < length R.body → 16 * k ≤ length R.out
  pub tied : (k : ℕ) → 16 * k < length R.body → TiedBy w f R.header k R.body R.out

-- Two runs under one key and header handed out the same first k blocks exactly when they took the
-- same first k blocks.
abbrev pub AgreesWith : Direction → Functions → Run → Type 0
AgreesWith w f R = (R' : Run) → Blocks w f R' → R'.header ≡ R.header → (k : ℕ)
    → 16 * k < length R.body → 16 * k < length R'.body
    → (take (16 * k) R.out ≡ take (16 * k) R'.out) ↔ (take (16 * k) R.body ≡ take (16 * k) R'.body)
