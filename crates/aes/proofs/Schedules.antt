-- Every key expands to a schedule, and the code's array of round keys comes to be that schedule.
use Rattle.std.proofs.Common.{◌≡◌, ℕ, zero, suc, ◌+◌, ◌<◌, List, [], ◌∷◌, length, set, replicate, sym, refl, ◌∙◌, subst, ap₂, suc-le-suc, add-one, arith, lit<, length-set, get_or-set_other, get_or-set_same, below_more}
use native.Mathlib.Decide.{ℕ_discrete}
use lib.Bits.{xor_lt}
use Rattle.std.proofs.lemmas.List.{get_or-replicate}
use Rattle.field.specs.Field.{xtime}
use Rattle.field.proofs.Linear.{xtime_lt}
use Rattle.field.proofs.Substitution.{sub_lt}
use Rattle.block.specs.Bytes.{Block}
use Rattle.aes.specs.declared.Schedule.{Schedule}
use Rattle.aes.specs.Cipher.{IsSchedule, key_at}
use Rattle.aes.specs.Expansion.{power, listed, schedule}
use Rattle.aes.specs.Grouping.{with_rcon, next_byte, next_key}
use Rattle.aes.proofs.Blocks.{state_block, byte_lt, block_from}
use Rattle.aes.proofs.Words.{expanded_at, key_first, key_next}

-- round constants are bytes
power_lt : (n : ℕ) → power n < 256
unfolding power
power_lt zero = lit< tt
power_lt (suc n) = xtime_lt (power n) (power_lt n)

pub power_none : power 0 ≡ 1
unfolding power
power_none = refl

pub power_more : (n : ℕ) → power (n + 1) ≡ xtime (power n)
unfolding power
power_more n = rw add-one

with_rcon_lt : (r rc t : ℕ) → rc < 256 → t < 256 → with_rcon r rc t < 256
with_rcon_lt zero rc t p q = xor_lt 8 t rc q p
with_rcon_lt (suc r) rc t p q = q

next_byte_lt : (rc : ℕ) (k : List ℕ) → rc < 256 → Block k → (r c : ℕ) → next_byte rc k r c < 256
next_byte_lt rc k p b r zero = xor_lt 8 _ _ (byte_lt k b r 0) (with_rcon_lt r rc _ p (sub_lt _))
next_byte_lt rc k p b r (suc c) = xor_lt 8 _ _ (byte_lt k b r (suc c)) (next_byte_lt rc k p b r c)

next_block : (rc : ℕ) (k : List ℕ) → rc < 256 → Block k → Block (next_key rc k)
unfolding next_key
next_block rc k p b = state_block (next_byte rc k) (λ r c _ _. next_byte_lt rc k p b r c)

key_block : (key : List ℕ) → Block key → (j : ℕ) → j < 11 → Block (expanded_at key j)
key_block key b zero h = subst Block (sym (key_first key b.long)) b
key_block key b (suc j) h = subst Block (sym (key_next key j (omega arith))) (next_block (power j) (expanded_at key j) (power_lt j) (key_block key b j (omega arith)))

listed_at : (n i : ℕ) (f : ℕ → List ℕ) → i < n → key_at (listed n f) i ≡ f i
listed_at zero i f h = absurd (omega arith)
listed_at (suc n) zero f h = refl
listed_at (suc n) (suc i) f h = listed_at n i (λ k. f (suc k)) (omega arith)

pub expands : (key : List ℕ) → Block key → IsSchedule (schedule key)
unfolding schedule expanded_at
expands key b = record { count = refl; each = λ i h. subst Block (sym (listed_at 11 i (expanded_at key) h)) (key_block key b i h) }

-- so is what a value of `Schedule` holds
pub held : (s : Schedule) → IsSchedule s.keys
held s = record { count = s.count; each = λ i h. block_from (key_at s.keys i) (s.sizes i h) (s.bytes i h) }

-- the array as it begins, and with one key written
pub same_keys : (key : List ℕ) → Block key → IsSchedule (replicate 11 key)
same_keys key b = record { count = refl; each = λ i h. subst Block (sym (get_or-replicate 11 i key [] h)) b }

pub set_key : (ks : List (List ℕ)) (i : ℕ) (k : List ℕ) → IsSchedule ks → i < 11 → Block k → IsSchedule (set ks i k)
set_key ks i k s h b = record {
  count = length-set ks i k ∙ s.count;
  each =
      λ j hj. elim (ℕ_discrete j i) [
        | yes e ↦ subst (λ (m : ℕ). Block (key_at (set ks i k) m)) (sym e) (subst Block (sym (get_or-set_same ks i k [] (subst (λ (n : ℕ). i < n) (sym s.count) h))) b)
        | no n ↦ subst Block (sym (get_or-set_other ks i j k [] n)) (s.each j hj)
      ];
}

-- the keys 0 to i are in place
abbrev pub Placed : List ℕ → List (List ℕ) → ℕ → Type 0
Placed key ks i = (j : ℕ) → j < i + 1 → key_at ks j ≡ expanded_at key j

pub placed_none : (key : List ℕ) → length key ≡ 16 → Placed key (replicate 11 key) 0
placed_none key e zero h = sym (key_first key e)
placed_none key e (suc j) h = absurd (omega arith)

pub placed_more : (key : List ℕ) (ks : List (List ℕ)) (i : ℕ) (k : List ℕ) → length ks ≡ 11 → i < 10 → Placed key ks i → k ≡ expanded_at key (i + 1)
    → Placed key (set ks (i + 1) k) (i + 1)
placed_more key ks i k n h p e =
    below_more (λ j. key_at (set ks (i + 1) k) j ≡ expanded_at key j) (i + 1)
    (λ j l. get_or-set_other ks (i + 1) j k [] (λ q. omega arith) ∙ p j l)
    (get_or-set_same ks (i + 1) k [] (omega arith) ∙ e)

pub next_is : (key : List ℕ) (i rc : ℕ) (k n : List ℕ) → i < 10 → k ≡ expanded_at key i → rc ≡ power i → n ≡ next_key rc k → n ≡ expanded_at key (i + 1)
next_is key i rc k n h p q e = rw add-one (let f = key_next key i h in cc)

relisted : (ks : List (List ℕ)) (n : ℕ) (f : ℕ → List ℕ) → length ks ≡ n → ((i : ℕ) → i < n → key_at ks i ≡ f i) → ks ≡ listed n f
relisted [] zero f e h = refl
relisted [] (suc n) f e h = absurd (omega arith)
relisted (k ∷ ks) zero f e h = absurd (omega arith)
relisted (k ∷ ks) (suc n) f e h =
    ap₂ (λ (a : List ℕ) (l : List (List ℕ)). a ∷ l) (h 0 (omega arith)) (relisted ks n (λ i. f (suc i)) (omega arith) (λ i l. h (suc i) (suc-le-suc l)))

pub is_schedule : (key : List ℕ) (ks : List (List ℕ)) → length ks ≡ 11 → ((i : ℕ) → i < 11 → key_at ks i ≡ expanded_at key i) → ks ≡ schedule key
unfolding schedule expanded_at
is_schedule key ks n h = relisted ks 11 (expanded_at key) n h
