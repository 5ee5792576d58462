-- One round or one round key more, as the loops go.
use Rattle.std.proofs.Common.{◌≡◌, ℕ, ◌+◌, ◌<◌, List, [], ◌∷◌, ◌++◌, length, get_or, map, take, drop, set, sym, refl, ap, ap₂, ◌∙◌, arith, add-one, length-set}
use Rattle.std.specs.List.{range_with_len}
use Rattle.std.proofs.lemmas.List.{drop_more, drop_all, take_all, take_more_set}
use Rattle.std.proofs.lemmas.List.FromFn.{map-range_with_len_more}
use Rattle.speck.specs.declared.words.Words.{Words}
use Rattle.speck.specs.Cipher.{words, round, unround, rounds, unrounds, key_at, schedule}

pub rounds_more : (ks : List ℕ) (i k : ℕ) (w : Words) → i < length ks → k ≡ get_or ks i 0
    → rounds (drop (i + 1) ks) (round k w) ≡ rounds (drop i ks) w
unfolding rounds
rounds_more ks i k w l e = rw (drop_more ks i 0 l, e)

pub rounds_all : (ks : List ℕ) (i : ℕ) (w : Words) → length ks ≡ i → rounds (drop i ks) w ≡ w
unfolding rounds
rounds_all ks i w e = rw (drop_all i ks (omega arith))

pub unrounds_none : (ks : List ℕ) (w : Words) → length ks ≡ 0 → unrounds ks w ≡ w
unfolding unrounds
unrounds_none [] w e = refl
unrounds_none (k ∷ ks) w e = absurd (omega arith)

pub unrounds_push : (ks : List ℕ) (k : ℕ) (w : Words) → unrounds (ks ++ k ∷ []) w ≡ unrounds ks (unround k w)
unfolding unrounds
unrounds_push [] k w = refl
unrounds_push (j ∷ ks) k w = ap (unround j) (unrounds_push ks k w)

-- what the loops over the round keys rest on
pub ruleset forward = (rounds_more, rounds_all)

pub ruleset backward = (unrounds_push, unrounds_none)

-- The first i round keys stand in the array ks, and w has l and k in round i.
pub record MadeTo (key ks : List ℕ) (i : ℕ) (w : Words) : Type 0 where
  pub count : length ks ≡ 32
  pub made : take i ks ≡ map (λ i. (key_at key i).k) (range_with_len 0 i)
  pub l : w.x ≡ (key_at key i).l
  pub k : w.y ≡ (key_at key i).k

pub made_none : (key ks : List ℕ) (w : Words) → length ks ≡ 32 → w ≡ words key → MadeTo key ks 0 w
unfolding key_at
made_none key ks w n e = record { count = n; made = refl; l = ap (λ w. w.x) e; k = ap (λ w. w.y) e }

pub made_more : (key ks : List ℕ) (i : ℕ) (w v : Words) → i < 32 → v ≡ round i w → MadeTo key ks i w → MadeTo key (set ks i w.y) (i + 1) v
unfolding key_at round
made_more key ks i w v h e m = record {
  count = length-set ks i w.y ∙ m.count;
  made =
      take_more_set ks i w.y (omega (arith, m.count)) ∙ ap₂ (λ a b. a ++ b ∷ []) m.made m.k
      ∙ sym (map-range_with_len_more (λ i. (key_at key i).k) 0 i i (omega arith));
  l = ap (λ v. v.x) e ∙ rw (m.l, m.k, add-one);
  k = ap (λ v. v.y) e ∙ rw (m.l, m.k, add-one);
}

pub made_all : (key ks : List ℕ) (i : ℕ) (w : Words) → i ≡ 32 → MadeTo key ks i w → ks ≡ schedule key
unfolding schedule
made_all key ks i w e m = sym (take_all 32 ks (omega (arith, m.count))) ∙ rw e at m.made
