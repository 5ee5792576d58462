-- Both rules of filling: whole blocks come of them, and they go on block by block; and the one that
-- always pads is injective.
use Rattle.std.specs.Prelude.{◌≡◌, ℕ, zero, suc, ◌-◌, ◌%◌, ◌<◌, ◌≤◌, Bool, true, false, cond, ◌&&◌, ltb, List, [], ◌∷◌, ◌++◌, length, take, replicate, ◌==◌, nat_lt, refl}
use Rattle.std.proofs.Math.Path.{ap}
use Rattle.std.proofs.Common.{sym, ◌∙◌, append_assoc, inl, inr, arith, lit<, length-append}
use Rattle.std.proofs.lemmas.Bool.{lt-ltb, eqb-true, eqb-false, ltb-true, ltb-false, and_parts, and_cases, cases_Bool, cond-true, cond-false}
use Rattle.std.proofs.lemmas.List.{take_at, take-replicate, length-replicate}
use Rattle.block.specs.Bytes.{Bytes}
use Rattle.block.proofs.Completing.{completes}
use Rattle.block.proofs.Xors.{bytes_append, bytes_replicate}
use Rattle.forms.specs.Filling.{padded, filled}
use Rattle.forms.specs.Laws.{Injective}

-- a block of 80 and zeros
abbrev pub further : List ℕ
further = 0x80 ∷ replicate 15 0

abbrev padding : List ℕ → List ℕ
padding H = 0x80 ∷ replicate (15 - length H % 16) 0

-- padded: a whole block in front ..
pub padded_front : (p q : List ℕ) → length p ≡ 16 → padded (p ++ q) ≡ p ++ padded q
unfolding padded
padded_front p q l =
    let n = length-append p q in
    let m : length (p ++ q) % 16 ≡ length q % 16 = omega arith in
    rw m (append_assoc p q (padding q))

-- .. lengths ..
pub padded_whole : (H : List ℕ) → (16 ≤ length (padded H)) × (length (padded H) % 16 ≡ 0)
unfolding padded
padded_whole H =
    let n = length-append H (padding H) in
    let m = length-replicate {A = ℕ} (15 - length H % 16) 0 in
    (omega arith, omega arith)

pub padded_bytes : (H : List ℕ) → Bytes H → Bytes (padded H)
unfolding padded Bytes
padded_bytes H b = bytes_append H (padding H) b (lit< tt, bytes_replicate (15 - length H % 16) 0 (lit< tt))

-- .. and less than a block, or one
pub padded_short : (H : List ℕ) → length H < 16 → padded H ≡ take 16 (H ++ further)
unfolding padded
padded_short H l =
    let m : length H % 16 ≡ length H = omega arith in
    let k : 16 - length H ≡ suc (15 - length H) = omega arith in
    ap (λ n. H ++ 0x80 ∷ replicate (15 - n) 0) m
    ∙ sym (completes H further (omega arith) ∙ ap (λ n. H ++ take n further) k ∙ ap (λ z. H ++ 0x80 ∷ z) (take-replicate (15 - length H) 15 0 (omega arith)))

pub padded_one : (H : List ℕ) → length H ≡ 16 → padded H ≡ take 16 (H ++ further) ++ further
unfolding padded
padded_one H l = rw (take_at H further 16 l) (rw l)

-- no 80 stands among zeros ..
no_mark : (k : ℕ) (A B : List ℕ) → replicate k 0 ≡ A ++ 0x80 ∷ B → ⊥
no_mark zero [] B e = absurd cc
no_mark zero (x ∷ A) B e = absurd cc
no_mark (suc k) [] B e = let z : ◌≡◌ {A = ℕ} 0 0x80 = cc in omega arith
no_mark (suc k) (x ∷ A) B e = no_mark k A B cc

-- .. so the last one shows where a header ends
marked : (H H' : List ℕ) (k k' : ℕ) → H ++ 0x80 ∷ replicate k 0 ≡ H' ++ 0x80 ∷ replicate k' 0 → H ≡ H'
marked [] [] k k' e = refl
marked [] (y ∷ H') k k' e = let z : replicate k 0 ≡ H' ++ 0x80 ∷ replicate k' 0 = cc in absurd (no_mark k H' (replicate k' 0) z)
marked (x ∷ H) [] k k' e = let z : replicate k' 0 ≡ H ++ 0x80 ∷ replicate k 0 = cc in absurd (no_mark k' H (replicate k 0) z)
marked (x ∷ H) (y ∷ H') k k' e =
    let z : H ++ 0x80 ∷ replicate k 0 ≡ H' ++ 0x80 ∷ replicate k' 0 = cc in
    let i = marked H H' k k' z in
    cc

pub padded_injective : Injective padded
unfolding padded
padded_injective H H' e = marked H H' (15 - length H % 16) (15 - length H' % 16) e

-- whether a header stays as it is
abbrev pub stays : List ℕ → Bool
stays H = nat_lt 0 (length H) && length H % 16 == 0

filled_stays : (H : List ℕ) → stays H ≡ true → filled H ≡ H
unfolding filled
filled_stays H e = cond-true (stays H) H (padded H) e

filled_padded : (H : List ℕ) → stays H ≡ false → filled H ≡ padded H
unfolding filled
filled_padded H e = cond-false (stays H) H (padded H) e

cond_front : (t : Bool) (p q w : List ℕ) → cond t (p ++ q) (p ++ w) ≡ p ++ cond t q w
cond_front true p q w = refl
cond_front false p q w = refl

pub filled_front : (p q : List ℕ) → length p ≡ 16 → 1 ≤ length q → filled (p ++ q) ≡ p ++ filled q
unfolding filled
filled_front p q l s =
    let n = length-append p q in
    let m : length (p ++ q) % 16 ≡ length q % 16 = omega arith in
    let a : ltb 0 (length (p ++ q)) ≡ true = lt-ltb 0 (length (p ++ q)) (omega arith) in
    let b : ltb 0 (length q) ≡ true = lt-ltb 0 (length q) (omega arith) in
    rw (m, a, b, padded_front p q l) (cond_front (length q % 16 == 0) p q (padded q))

pub filled_whole : (H : List ℕ) → (16 ≤ length (filled H)) × (length (filled H) % 16 ≡ 0)
filled_whole H =
    elim (cases_Bool (stays H)) [
      | inl e ↦ (
          let f = and_parts (nat_lt 0 (length H)) (length H % 16 == 0) e in
          let a = ltb-true 0 (length H) f.0 in
          let b = eqb-true (length H % 16) 0 f.1 in
          rw (filled_stays H e) (omega arith, b)
          )
      | inr e ↦ rw (filled_padded H e) (padded_whole H)
    ]

pub filled_bytes : (H : List ℕ) → Bytes H → Bytes (filled H)
filled_bytes H b =
    elim (cases_Bool (stays H)) [
      | inl e ↦ rw (filled_stays H e) b
      | inr e ↦ rw (filled_padded H e) (padded_bytes H b)
    ]

pub short : (H : List ℕ) → length H ≤ 16 → stays H ≡ false → length H < 16
short H l e =
    elim (and_cases (nat_lt 0 (length H)) (length H % 16 == 0) e) [
      | inl a ↦ (let z = ltb-false 0 (length H) a in omega arith)
      | inr a ↦ (let z = eqb-false (length H % 16) 0 a in omega arith)
    ]

pub filled_end : (H : List ℕ) → length H ≤ 16 → filled H ≡ take 16 (H ++ further)
filled_end H l =
    elim (cases_Bool (stays H)) [
      | inl e ↦ (
          let f = and_parts (nat_lt 0 (length H)) (length H % 16 == 0) e in
          let a = ltb-true 0 (length H) f.0 in
          let b = eqb-true (length H % 16) 0 f.1 in
          filled_stays H e ∙ sym (take_at H further 16 (omega arith))
          )
      | inr e ↦ filled_padded H e ∙ padded_short H (short H l e)
    ]
