-- Vectors of sixteen bytes as lists: that places computed from bytes are places in a table, what a permute by them gives, and that lanes fit.
use Rattle.std.proofs.Common.{◌≡◌, ℕ, zero, suc, ◌+◌, ◌-◌, ◌*◌, ◌/◌, ◌<◌, Bool, true, false, cond, ◌&&◌, ◌||◌, T, ltb, leb, List, [], ◌∷◌, map, length, get_or, refl, sym, ap, ◌∙◌, subst, inl, inr, arith, w8, Fits, eq-zero-or-pos}
use Rattle.std.proofs.lemmas.List.{get_or-map, length-map, ext_get_or}
use Rattle.std.proofs.lemmas.Simd.{swz_l, SwzOk, SwzOk-from_Each1, length-swz_l, get_or-swz_l}
use lib.Ieee.Fits.{and_l, and_r}
use lib.Lanes.{Each1}
use Rattle.aes.specs.Tower.{is_index, Indexes, look_up}

-- what the check knows of a u8x16
abbrev pub IsBlock : List ℕ → Type 0
IsBlock v = (length v ≡ 16) × Each1 (Fits w8) v

-- a test of every number below n, which antt computes
abbrev pub all_below : (ℕ → Bool) → ℕ → Bool
all_below p zero = true
all_below p (suc n) = p n && all_below p n

pub every_below : (p : ℕ → Bool) (n : ℕ) → T (all_below p n) → (i : ℕ) → i < n → T (p i)
every_below p zero h i l = absurd (omega arith)
every_below p (suc n) h i l =
    elim (eq-zero-or-pos (n - i)) [
      | inl z ↦ let e : n ≡ i = omega arith in subst (λ x. T (p x)) e (and_l _ _ h)
      | inr g ↦ every_below p n (and_r (p n) _ h) i (omega arith)
    ]

-- places that are computed from bytes
pub indexes : (g : ℕ → ℕ) → T (all_below (λ x. is_index (g x)) 256) → (v : List ℕ) → Each1 (Fits w8) v → Indexes (map g v)
indexes g h [] f = tt
indexes g h (x ∷ v) f = (every_below (λ x. is_index (g x)) 256 h x f.0.fits, indexes g h v f.1)

index_ok : (a : ℕ) → T (is_index a) → T (leb 128 a || ltb a 16)
index_ok a t = go (ltb a 16) (leb 128 a) t
  where
    go : (p q : Bool) → T (p || q) → T (q || p)
    go true true t = tt
    go true false t = tt
    go false true t = tt
    go false false t = absurd t

each_ok : (js : List ℕ) → Indexes js → Each1 (λ j. T (leb 128 j || ltb j 16)) js
each_ok [] h = tt
each_ok (j ∷ js) h = (index_ok j h.0, each_ok js h.1)

pub swizzle_ok : (js : List ℕ) → length js ≡ 16 → Indexes js → SwzOk w8 16 16 0 js
swizzle_ok js long h = SwzOk-from_Each1 w8 16 1 16 0 js refl (omega (arith, long)) (each_ok js h)

pub looked_up : (t js : List ℕ) → length js ≡ 16 → swz_l w8 16 t 0 js ≡ map (look_up t) js
looked_up t js long =
    ext_get_or 0 _ _ (length-swz_l w8 16 t 0 js ∙ sym (length-map js (look_up t))) (λ i h.
    let lt : i < length js = omega (arith, length-swz_l w8 16 t 0 js) in
    let block : 16 * ((0 + i) / 16) + get_or js i 0 ≡ get_or js i 0 = omega (arith, long) in
    get_or-swz_l w8 16 t 0 js i lt
    ∙ ap (λ k. cond (leb 128 (get_or js i 0)) 0 (get_or t k 0)) block
    ∙ sym (get_or-map (look_up t) js i 0 0 lt))

pub lane_fits : (v : List ℕ) (i : ℕ) → Each1 (Fits w8) v → get_or v i 0 < 256
lane_fits [] i h = omega arith
lane_fits (x ∷ xs) zero h = h.0.fits
lane_fits (x ∷ xs) (suc i) h = lane_fits xs i h.1
