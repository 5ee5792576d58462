use Rattle.std.proofs.Common.{◌≡◌, ℕ, List, [], ◌∷◌, ◌++◌, take, decimal, Bor, Some, None, Option, refl, ap, ◌∙◌, append_assoc, arith, take_all, rules}
use Rattle.std.specs.Option.{option_map, MatchOption}
use Rattle.std.specs.Fmt.{signed_decimal}
use Rattle.sheet.specs.Entries.{Held, NumberForm, item_of, text}
use Rattle.sheet.proofs.Values.{Filled, filled_more}
use Rattle.listing.specs.Lines.{Needed, need as yearly, shown, line_of, need_of}
use Rattle.listing.proofs.Lengths.{fits, line_length, months_some}
use Rattle.listing.proofs.lines.compose.Goals as goal

shown_lent : (o : Option (Bor (List ℕ))) → shown (λ s. s.now) o ≡ shown text (option_map (λ s. s.now) o)
shown_lent None = refl
shown_lent (Some s) = refl

need_told : (c m : ℕ) (r : Option ℕ) → NumberForm 4 m → Needed c m r → r ≡ Some (yearly c m)
need_told c m None f n = let p = months_some m f in absurd (omega arith)
need_told c m (Some k) f n = ap Some n.1

needs : (c : ℕ) (o r : Option ℕ) (P : ℕ → Type 0) → Held (NumberForm 4) o → MatchOption o (r ≡ None) P → ((m : ℕ) → P m → Needed c m r) → r ≡ option_map (yearly c) o
needs c None r P f n k = n
needs c (Some m) r P f n k = need_told c m r f (k m n)

-- each part with the byte that ends it
ended : (a b c d e f g : List ℕ) → ((((((([] ++ (a ++ (59 ∷ []))) ++ (b ++ (59 ∷ []))) ++ (c ++ (59 ∷ []))) ++ (d ++ (59 ∷ []))) ++ (e ++ (59 ∷ []))) ++ (f ++ (59 ∷ []))) ++ (g ++ (10 ∷ [])))
    ≡ a ++ (59 ∷ (b ++ (59 ∷ (c ++ (59 ∷ (d ++ (59 ∷ (e ++ (59 ∷ (f ++ (59 ∷ (g ++ (10 ∷ [])))))))))))))
ended a b c d e f g = simp append_assoc

pub returns : goal.returns
returns c =
    let e = c.args.e in
    let i = item_of e in
    let f0 : Filled 70 c.new-line.result [] = record { is = c.new-line.ensures } in
    let f1 = filled_more c.put_field.new.line (i.code ++ (59 ∷ [])) f0 c.put_field.ensures in
    let f2 = filled_more c.put_field-2.new.line (shown text i.parent ++ (59 ∷ [])) f1 (c.put_field-2.ensures ∙ ap (λ (x : List ℕ). take 70 (c.put_field.new.line ++ (x ++ (59 ∷ [])))) (shown_lent e.parent)) in
    let f3 = filled_more c.put_field-3.new.line (decimal i.count ++ (59 ∷ [])) f2 c.put_field-3.ensures in
    let f4 = filled_more c.put_field-4.new.line (shown signed_decimal i.landing ++ (59 ∷ [])) f3 c.put_field-4.ensures in
    let f5 = filled_more c.put_field-5.new.line (shown decimal i.months ++ (59 ∷ [])) f4 c.put_field-5.ensures in
    let n = needs e.count e.months c.and_then-need.result _ c.requires.months c.and_then-need.ensures (λ m h. search rules) in
    let f6 = filled_more c.put_field-6.new.line (shown decimal (need_of i) ++ (59 ∷ [])) f5 (c.put_field-6.ensures ∙ ap (λ (o : Option ℕ). take 70 (c.put_field-5.new.line ++ (shown decimal o ++ (59 ∷ [])))) n) in
    let f7 = filled_more c.put_field-7.new.line (shown text i.drawing ++ (10 ∷ [])) f6 (c.put_field-7.ensures ∙ ap (λ (x : List ℕ). take 70 (c.put_field-6.new.line ++ (x ++ (10 ∷ [])))) (shown_lent e.drawing)) in
    f7.is
    ∙ ap (take 70) (ended i.code (shown text i.parent) (decimal i.count) (shown signed_decimal i.landing) (shown decimal i.months) (shown decimal (need_of i)) (shown text i.drawing))
    ∙ take_all 70 (line_of i) (omega (arith, fits i c.requires, line_length i))
