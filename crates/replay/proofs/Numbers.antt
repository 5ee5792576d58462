-- What `parse` reads, as a number below a limit.
use Rattle.std.proofs.Common.{rules, ◌≡◌, ℕ, ◌+◌, ◌-◌, ◌*◌, ◌<◌, ◌^◌, ◌&&◌, nat_lt, Bool, true, false, cond, List, [], ◌∷◌, length, Some, None, Ok, Err, Result, refl, sym, ap, ◌∙◌, arith, ◌≤◌, ◌==◌, decimal, slice_index}
use Rattle.std.specs.Str.{all_ascii_digits}
use Rattle.std.specs.Str.Parse.{IsNumeral, ParsesUnsigned, digits_value, without_leading_plus}
use Rattle.std.proofs.lemmas.Bool.{and_parts}
use Rattle.std.proofs.lemmas.Fmt.{decimal_is_IsNumeral}
use Rattle.std.proofs.lemmas.Bool.Decides.{nat_tests}
use Rattle.std.proofs.lemmas.Str.Parse.{IsNumeralModel, numerals_by_fold, digit_at}
use Rattle.replay.specs.Lines.{are_digits, number_below}

abbrev read_on : ℕ → List ℕ → ℕ
read_on n [] = n
read_on n (c ∷ cs) = read_on (10 * n + (c - 48)) cs

own : IsNumeralModel (λ ds. all_ascii_digits ds ≡ true) (read_on 0)
own = numerals_by_fold _ (search rules) read_on (search rules)

below : (a b : ℕ) → nat_lt a b ≡ true → a < b
below a b h = grind (arith, nat_tests)

is_below : (a b : ℕ) → a < b → nat_lt a b ≡ true
is_below a b h = grind (arith, nat_tests)

numeral : (ds : List ℕ) → are_digits ds ≡ true → IsNumeral 10 ds
numeral ds h =
    let parts = and_parts (nat_lt 0 (length ds)) (all_ascii_digits ds) h in
    (below 0 (length ds) parts.0, own.to ds parts.1)

both : (a b : Bool) → a ≡ true → b ≡ true → (a && b) ≡ true
both a b p q = rw (p, q) refl

digits : (ds : List ℕ) → IsNumeral 10 ds → are_digits ds ≡ true
digits ds n = both (nat_lt 0 (length ds)) (all_ascii_digits ds) (is_below 0 (length ds) n.0) (own.from ds n.1)

module _ (limit : ℕ) (ds : List ℕ) where
  abbrev number : ℕ
  number = digits_value 10 ds

  abbrev test : Bool
  test = are_digits ds && nat_lt number limit

  none_by : (b : Bool) → test ≡ b → (IsNumeral 10 ds × (number < limit) → ⊥) → cond b (Some number) None ≡ None
  none_by false e none = refl
  none_by true e none =
      let parts = and_parts (are_digits ds) (nat_lt number limit) e in
      absurd (none (numeral ds parts.0, below number limit parts.1))

  some : IsNumeral 10 ds → number < limit → cond test (Some number) None ≡ Some number
  some n less = ap (λ (b : Bool). cond b (Some number) None) (both (are_digits ds) (nat_lt number limit) (digits ds n) (is_below number limit less))

pub parsed : {E : Type 0} (k : ℕ) (text : List ℕ) (n : ℕ) (r : Result ℕ E) → ParsesUnsigned k 10 text r → r ≡ Ok n → number_below (2 ^ k) text ≡ Some n
parsed k text n (Ok m) p e =
    let same : m ≡ n = cc in
    some (2 ^ k) (without_leading_plus text) p.0.0 p.0.1 ∙ ap Some (sym p.1 ∙ same)
parsed k text n (Err x) p e = absurd cc

pub unparsed : {E : Type 0} (k : ℕ) (text : List ℕ) (x : E) (r : Result ℕ E) → ParsesUnsigned k 10 text r → r ≡ Err x → number_below (2 ^ k) text ≡ None
unparsed k text x (Ok m) p e = absurd cc
unparsed k text x (Err y) p e = none_by (2 ^ k) (without_leading_plus text) (test (2 ^ k) (without_leading_plus text)) refl p

no_plus : (c : ℕ) → 48 ≤ c → (c == 43) ≡ false
no_plus c h = grind (arith, nat_tests)

-- what `decimal` writes
pub written : (limit n : ℕ) → n < limit → n < 2 ^ 64 → number_below limit (decimal n) ≡ Some n
written limit n less small =
    let ds = decimal n in
    let (numeral_n, is) = decimal_is_IsNumeral n small in
    let plain : without_leading_plus ds ≡ ds = rw (no_plus (slice_index ds 0) (digit_at ds 0 numeral_n.1 numeral_n.0).0) refl in
    let below_limit : digits_value 10 ds < limit = rw is less in
    ap (λ (t : List ℕ). cond (test limit t) (Some (digits_value 10 t)) None) plain ∙ some limit ds numeral_n below_limit ∙ ap Some is
