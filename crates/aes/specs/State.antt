-- The state of FIPS 197, four columns of four bytes one after another, and the steps on it with
-- their inverses.
use Rattle.std.specs.Prelude.{ℕ, ◌+◌, ◌-◌, ◌*◌, ◌%◌, List, [], ◌∷◌, bit_xor, slice_index}
use Rattle.field.specs.Substitution.{sub, unsub}
use Rattle.field.specs.Columns.{mixed, unmixed}

-- byte r of column c
abbrev pub byte_at : List ℕ → ℕ → ℕ → ℕ
byte_at s r c = slice_index s (r + 4 * c)

-- the state whose byte r of column c is f r c
abbrev pub state : (ℕ → ℕ → ℕ) → List ℕ
state f =
    f 0 0 ∷ f 1 0 ∷ f 2 0 ∷ f 3 0 ∷
    f 0 1 ∷ f 1 1 ∷ f 2 1 ∷ f 3 1 ∷
    f 0 2 ∷ f 1 2 ∷ f 2 2 ∷ f 3 2 ∷
    f 0 3 ∷ f 1 3 ∷ f 2 3 ∷ f 3 3 ∷ []

unfoldable pub sub_bytes : List ℕ → List ℕ
sub_bytes s = state (λ r c. sub (byte_at s r c))

-- row r moves by r places
unfoldable pub shift_rows : List ℕ → List ℕ
shift_rows s = state (λ r c. byte_at s r ((c + r) % 4))

unfoldable pub mix_columns : List ℕ → List ℕ
mix_columns s =
    state (λ r c. mixed r (byte_at s 0 c) (byte_at s 1 c) (byte_at s 2 c) (byte_at s 3 c))

-- the round key k, laid out as the state is
unfoldable pub add_round_key : List ℕ → List ℕ → List ℕ
add_round_key k s = state (λ r c. bit_xor (byte_at s r c) (byte_at k r c))

unfoldable pub inv_sub_bytes : List ℕ → List ℕ
inv_sub_bytes s = state (λ r c. unsub (byte_at s r c))

unfoldable pub inv_shift_rows : List ℕ → List ℕ
inv_shift_rows s = state (λ r c. byte_at s r ((c + 4 - r) % 4))

unfoldable pub inv_mix_columns : List ℕ → List ℕ
inv_mix_columns s =
    state (λ r c. unmixed r (byte_at s 0 c) (byte_at s 1 c) (byte_at s 2 c) (byte_at s 3 c))
