-- Inversion in the tower, on vectors: each step of `inverse_places` is the step of `specs/Tower.antt` on every byte, and looks up at places in a
-- table.
use Rattle.std.proofs.Common.{◌≡◌, ℕ, ◌/◌, ◌^◌, T, List, map, replicate, bit_and, bit_xor, sym, ap, ◌∙◌, subst}
use Rattle.std.proofs.lemmas.Simd.{zip2_splat, zip2_of_maps, map-map}
use lib.Lanes.{zip2}
use Rattle.aes.specs.declared.tables.HalfTables.{HalfTables}
use Rattle.aes.specs.declared.tables.InverseTables.{InverseTables}
use Rattle.aes.specs.declared.tables.TheConstants.{HALF, INVERSES, LOWER_HALF, SEVEN_OVER}
use Rattle.aes.specs.Tower.{is_index, Indexes, look_up, low, high, halves_sum, sum_i, sum_j, place_i, place_j, by_halves, by_inverse}
use Rattle.aes.proofs.Lanes.{IsBlock, all_below, indexes}

-- a shift of a lane down
abbrev pub shifted_down : ℕ → ℕ → ℕ
shifted_down a b = a / 2 ^ b

-- what was looked up at places that were computed from bytes
look_up_of : (t : List ℕ) (g : ℕ → ℕ) (v js r : List ℕ) → js ≡ map g v → r ≡ map (look_up t) js → r ≡ map (λ x. look_up t (g x)) v
look_up_of t g v js r je e = e ∙ ap (map (look_up t)) je ∙ map-map (look_up t) g v

indexes_of : (g : ℕ → ℕ) → T (all_below (λ x. is_index (g x)) 256) → (v : List ℕ) → IsBlock v → (js : List ℕ) → js ≡ map g v → Indexes js
indexes_of g h v f js e = subst Indexes (sym e) (indexes g h v f.1)

module _ (y : List ℕ) (h : IsBlock y) where
  abbrev pub lows : List ℕ
  lows = zip2 bit_and y (replicate 16 LOWER_HALF)

  abbrev pub highs : List ℕ
  highs = zip2 shifted_down y (replicate 16 HALF)

  pub lows_are : lows ≡ map low y
  lows_are = zip2_splat bit_and y 16 LOWER_HALF h.0

  pub highs_are : highs ≡ map high y
  highs_are = zip2_splat shifted_down y 16 HALF h.0

  pub halves_sums_are : zip2 bit_xor lows highs ≡ map halves_sum y
  halves_sums_are = zip2_of_maps bit_xor low high y lows_are highs_are

  pub low_ok : Indexes lows
  low_ok = indexes_of low tt y h lows lows_are

  pub high_ok : Indexes highs
  high_ok = indexes_of high tt y h highs highs_are

  pub halves_sum_ok : Indexes (zip2 bit_xor lows highs)
  halves_sum_ok = indexes_of halves_sum tt y h _ halves_sums_are

  pub map_by_halves : (tables : HalfTables) (a b : List ℕ) → a ≡ map (look_up tables.low) lows → b ≡ map (look_up tables.high) highs → zip2 bit_xor a b ≡ map (by_halves tables) y
  unfolding by_halves
  map_by_halves tables a b ae be =
      zip2_of_maps bit_xor (λ x. look_up tables.low (low x)) (λ x. look_up tables.high (high x)) y
      (look_up_of tables.low low y lows a lows_are ae) (look_up_of tables.high high y highs b highs_are be)

  module _ (o r s : List ℕ) (oe : o ≡ map (look_up SEVEN_OVER) lows) (re : r ≡ map (look_up INVERSES) highs) (se : s ≡ map (look_up INVERSES) (zip2 bit_xor lows highs)) where
    over_is : o ≡ map (λ x. look_up SEVEN_OVER (low x)) y
    over_is = look_up_of SEVEN_OVER low y lows o lows_are oe

    pub sum_i_is : zip2 bit_xor r o ≡ map sum_i y
    sum_i_is = zip2_of_maps bit_xor (λ x. look_up INVERSES (high x)) (λ x. look_up SEVEN_OVER (low x)) y (look_up_of INVERSES high y highs r highs_are re) over_is

    pub sum_j_is : zip2 bit_xor s o ≡ map sum_j y
    sum_j_is = zip2_of_maps bit_xor (λ x. look_up INVERSES (halves_sum x)) (λ x. look_up SEVEN_OVER (low x)) y (look_up_of INVERSES halves_sum y _ s halves_sums_are se) over_is

    pub sum_i_ok : Indexes (zip2 bit_xor r o)
    sum_i_ok = indexes_of sum_i tt y h _ sum_i_is

    pub sum_j_ok : Indexes (zip2 bit_xor s o)
    sum_j_ok = indexes_of sum_j tt y h _ sum_j_is

    pub place_i_is : (a : List ℕ) → a ≡ map (look_up INVERSES) (zip2 bit_xor r o) → zip2 bit_xor a (zip2 bit_xor lows highs) ≡ map place_i y
    unfolding place_i
    place_i_is a e = zip2_of_maps bit_xor (λ x. look_up INVERSES (sum_i x)) halves_sum y (look_up_of INVERSES sum_i y _ a sum_i_is e) halves_sums_are

    pub place_j_is : (a : List ℕ) → a ≡ map (look_up INVERSES) (zip2 bit_xor s o) → zip2 bit_xor a highs ≡ map place_j y
    unfolding place_j
    place_j_is a e = zip2_of_maps bit_xor (λ x. look_up INVERSES (sum_j x)) high y (look_up_of INVERSES sum_j y _ a sum_j_is e) highs_are

  module _ (p q : List ℕ) (pe : p ≡ map place_i y) (qe : q ≡ map place_j y) where
    pub place_i_ok : Indexes p
    unfolding place_i
    place_i_ok = indexes_of place_i tt y h p pe

    pub place_j_ok : Indexes q
    unfolding place_j
    place_j_ok = indexes_of place_j tt y h q qe

    pub map_by_inverse : (tables : InverseTables) (a b : List ℕ) → a ≡ map (look_up tables.by_i) p → b ≡ map (look_up tables.by_j) q → zip2 bit_xor a b ≡ map (by_inverse tables) y
    unfolding by_inverse
    map_by_inverse tables a b ae be =
        zip2_of_maps bit_xor (λ x. look_up tables.by_i (place_i x)) (λ x. look_up tables.by_j (place_j x)) y
        (look_up_of tables.by_i place_i y p a pe ae) (look_up_of tables.by_j place_j y q b qe be)
