-- Each step takes blocks to blocks, and each inverse step undoes its step, both ways round.
use Rattle.std.proofs.Common.{◌≡◌, ℕ, zero, suc, ◌+◌, ◌-◌, ◌%◌, ◌<◌, List, sym, ◌∙◌, arith}
use lib.Bits.{bit_xor, xor_lt}
use Rattle.field.specs.Substitution.{sub, unsub}
use Rattle.field.specs.Columns.{mixed, unmixed}
use Rattle.field.specs.Laws.{Undoes, after}
use Rattle.field.proofs.Linear.{xor_twice}
use Rattle.field.proofs.Columns.{dot_lt, unmixes, remixes}
use Rattle.field.proofs.Substitution.{sub_lt, unsub_lt, substitutes}
use Rattle.block.specs.Bytes.{Block}
use Rattle.aes.specs.State.{byte_at, sub_bytes, inv_sub_bytes, shift_rows, inv_shift_rows, mix_columns, inv_mix_columns, add_round_key}
use Rattle.aes.proofs.Blocks.{as_state, state_of, state_block, byte_lt}

pub sub_block : (x : List ℕ) → Block (sub_bytes x)
unfolding sub_bytes
sub_block x = state_block (λ r c. sub (byte_at x r c)) (λ r c _ _. sub_lt (byte_at x r c))

pub unsub_block : (x : List ℕ) → Block (inv_sub_bytes x)
unfolding inv_sub_bytes
unsub_block x = state_block (λ r c. unsub (byte_at x r c)) (λ r c _ _. unsub_lt (byte_at x r c))

pub unsub_sub_bytes : (x : List ℕ) → Block x → inv_sub_bytes (sub_bytes x) ≡ x
unfolding inv_sub_bytes sub_bytes
unsub_sub_bytes x b =
    state_of (λ r c. unsub (sub (byte_at x r c))) (byte_at x) (λ r c _ _. (substitutes (byte_at x r c) (byte_lt x b r c)).unsub_sub)
    ∙ sym (as_state x b.long)

pub sub_unsub_bytes : (x : List ℕ) → Block x → sub_bytes (inv_sub_bytes x) ≡ x
unfolding inv_sub_bytes sub_bytes
sub_unsub_bytes x b =
    state_of (λ r c. sub (unsub (byte_at x r c))) (byte_at x) (λ r c _ _. (substitutes (byte_at x r c) (byte_lt x b r c)).sub_unsub)
    ∙ sym (as_state x b.long)

pub shift_block : (x : List ℕ) → Block x → Block (shift_rows x)
unfolding shift_rows
shift_block x b = state_block (λ r c. byte_at x r ((c + r) % 4)) (λ r c _ _. byte_lt x b r ((c + r) % 4))

pub unshift_block : (x : List ℕ) → Block x → Block (inv_shift_rows x)
unfolding inv_shift_rows
unshift_block x b = state_block (λ r c. byte_at x r ((c + 4 - r) % 4)) (λ r c _ _. byte_lt x b r ((c + 4 - r) % 4))

pub unshift_shift : (x : List ℕ) → Block x → inv_shift_rows (shift_rows x) ≡ x
unfolding inv_shift_rows shift_rows
unshift_shift x b = sym (as_state x b.long)

pub shift_unshift : (x : List ℕ) → Block x → shift_rows (inv_shift_rows x) ≡ x
unfolding inv_shift_rows shift_rows
shift_unshift x b = sym (as_state x b.long)

pub add_block : (k x : List ℕ) → Block k → Block x → Block (add_round_key k x)
unfolding add_round_key
add_block k x bk b =
    state_block (λ r c. bit_xor (byte_at x r c) (byte_at k r c)) (λ r c _ _. xor_lt 8 (byte_at x r c) (byte_at k r c) (byte_lt x b r c) (byte_lt k bk r c))

pub add_add : (k x : List ℕ) → Block x → add_round_key k (add_round_key k x) ≡ x
unfolding add_round_key
add_add k x b =
    state_of (λ r c. bit_xor (bit_xor (byte_at x r c) (byte_at k r c)) (byte_at k r c)) (byte_at x) (λ r c _ _. xor_twice (byte_at x r c) (byte_at k r c))
    ∙ sym (as_state x b.long)

-- byte r that f makes of column c
abbrev column : (f : ℕ → ℕ → ℕ → ℕ → ℕ → ℕ) → List ℕ → ℕ → ℕ → ℕ
column f x r c = f r (byte_at x 0 c) (byte_at x 1 c) (byte_at x 2 c) (byte_at x 3 c)

module _ (x : List ℕ) (b : Block x) where
  mix_lt : (r c : ℕ) → column mixed x r c < 256
  mix_lt zero c = dot_lt 2 3 1 1 _ _ _ _ (byte_lt x b 0 c) (byte_lt x b 1 c) (byte_lt x b 2 c) (byte_lt x b 3 c)
  mix_lt (suc zero) c = dot_lt 1 2 3 1 _ _ _ _ (byte_lt x b 0 c) (byte_lt x b 1 c) (byte_lt x b 2 c) (byte_lt x b 3 c)
  mix_lt (suc (suc zero)) c = dot_lt 1 1 2 3 _ _ _ _ (byte_lt x b 0 c) (byte_lt x b 1 c) (byte_lt x b 2 c) (byte_lt x b 3 c)
  mix_lt (suc (suc (suc r))) c = dot_lt 3 1 1 2 _ _ _ _ (byte_lt x b 0 c) (byte_lt x b 1 c) (byte_lt x b 2 c) (byte_lt x b 3 c)

  pub mix_block : Block (mix_columns x)
  unfolding mix_columns
  mix_block = state_block (column mixed x) (λ r c _ _. mix_lt r c)

  unmix_lt : (r c : ℕ) → column unmixed x r c < 256
  unmix_lt zero c = dot_lt 14 11 13 9 _ _ _ _ (byte_lt x b 0 c) (byte_lt x b 1 c) (byte_lt x b 2 c) (byte_lt x b 3 c)
  unmix_lt (suc zero) c = dot_lt 9 14 11 13 _ _ _ _ (byte_lt x b 0 c) (byte_lt x b 1 c) (byte_lt x b 2 c) (byte_lt x b 3 c)
  unmix_lt (suc (suc zero)) c = dot_lt 13 9 14 11 _ _ _ _ (byte_lt x b 0 c) (byte_lt x b 1 c) (byte_lt x b 2 c) (byte_lt x b 3 c)
  unmix_lt (suc (suc (suc r))) c = dot_lt 11 13 9 14 _ _ _ _ (byte_lt x b 0 c) (byte_lt x b 1 c) (byte_lt x b 2 c) (byte_lt x b 3 c)

  pub unmix_block : Block (inv_mix_columns x)
  unfolding inv_mix_columns
  unmix_block = state_block (column unmixed x) (λ r c _ _. unmix_lt r c)

  -- what holds of the four bytes of a column holds at each row
  at_row : (f g : ℕ → ℕ → ℕ → ℕ → ℕ → ℕ) (c : ℕ) → Undoes f g (byte_at x 0 c) (byte_at x 1 c) (byte_at x 2 c) (byte_at x 3 c)
      → (r : ℕ) → r < 4 → after f g r (byte_at x 0 c) (byte_at x 1 c) (byte_at x 2 c) (byte_at x 3 c) ≡ byte_at x r c
  at_row f g c u zero h = u.first
  at_row f g c u (suc zero) h = u.second
  at_row f g c u (suc (suc zero)) h = u.third
  at_row f g c u (suc (suc (suc zero))) h = u.fourth
  at_row f g c u (suc (suc (suc (suc r)))) h = absurd (omega arith)

  pub unmix_mix : inv_mix_columns (mix_columns x) ≡ x
  unfolding inv_mix_columns mix_columns
  unmix_mix =
      state_of (column (after unmixed mixed) x) (byte_at x)
      (λ r c h _. at_row unmixed mixed c (unmixes _ _ _ _ (byte_lt x b 0 c) (byte_lt x b 1 c) (byte_lt x b 2 c) (byte_lt x b 3 c)) r h)
      ∙ sym (as_state x b.long)

  pub mix_unmix : mix_columns (inv_mix_columns x) ≡ x
  unfolding inv_mix_columns mix_columns
  mix_unmix =
      state_of (column (after mixed unmixed) x) (byte_at x)
      (λ r c h _. at_row mixed unmixed c (remixes _ _ _ _ (byte_lt x b 0 c) (byte_lt x b 1 c) (byte_lt x b 2 c) (byte_lt x b 3 c)) r h)
      ∙ sym (as_state x b.long)
