-- The tests of an entry's values pass exactly where its fields have their forms.
use Rattle.std.proofs.Common.{◌≡◌, ◌↔◌, ℕ, Bool, true, false, ◌&&◌, IsTrue, eqb, List, length, pos, Some, None, Option, sym, refl, ap, ◌∙◌, arith, true-eqb}
use Rattle.std.proofs.lemmas.Bool.Decides.{Decides-eqb}
use Rattle.sheet.specs.Table.{row_of, in_row}
use Rattle.sheet.specs.Tests.{code_test, drawing_test}
use Rattle.sheet.specs.Entries.{signs, Item, Good, Held, CodeForm, NumberForm, LandingForm, DrawingForm}

abbrev pub held_test : {X : Type 0} → (X → Bool) → Option X → Bool
held_test t None = true
held_test t (Some a) = t a

abbrev pub good_test : Item → Bool
good_test e = code_test 0 e.code && (held_test (code_test 1) e.parent && (in_row 2 (pos e.count) && (held_test (in_row 3) e.landing && (held_test (λ n. in_row 4 (pos n)) e.months && held_test drawing_test e.drawing))))

-- ---- a test passes exactly where the form holds

and_left : (a b : Bool) → (a && b) ≡ true → a ≡ true
and_left true b e = refl
and_left false b e = e

and_right : (a b : Bool) → (a && b) ≡ true → b ≡ true
and_right true b e = e
and_right false b e = let z : ◌≡◌ {A = ℕ} 0 1 = cc in absurd (omega arith)

both : (a b : Bool) → a ≡ true → b ≡ true → (a && b) ≡ true
both a b p q = ap (λ t. t && b) p ∙ q

code_form : (k : ℕ) (s : List ℕ) → code_test k s ≡ true ↔ CodeForm k s
code_form k s =
    let w = (row_of k).width in (
      λ t. (true-eqb (length s) w (sym (and_left (eqb (length s) w) (signs false s) t)), and_right (eqb (length s) w) (signs false s) t),
      λ f. both (eqb (length s) w) (signs false s) ((Decides-eqb (length s) w).1 f.0) f.1,
    )

drawing_form : (s : List ℕ) → drawing_test s ≡ true ↔ DrawingForm s
drawing_form s = (
  λ t. (and_left (in_row 5 (pos (length s))) (signs true s) t, and_right (in_row 5 (pos (length s))) (signs true s) t),
  λ f. both (in_row 5 (pos (length s))) (signs true s) f.0 f.1,
)

held_form : {X : Type 0} {t : X → Bool} {P : X → Type 0} → ((a : X) → t a ≡ true ↔ P a) → (o : Option X) → held_test t o ≡ true ↔ Held P o
held_form f None = (λ _. tt, λ _. refl)
held_form f (Some a) = f a

good_form : (e : Item) → good_test e ≡ true ↔ Good e
good_form e =
    let t1 = held_test (code_test 1) e.parent in
    let t2 = in_row 2 (pos e.count) in
    let t3 = held_test (in_row 3) e.landing in
    let t4 = held_test (λ n. in_row 4 (pos n)) e.months in
    let t5 = held_test drawing_test e.drawing in
    let code = code_form 0 e.code in
    let parent = held_form (code_form 1) e.parent in
    let landing = held_form {t = in_row 3} {P = LandingForm} (λ z. (λ h. h, λ h. h)) e.landing in
    let months = held_form {t = λ n. in_row 4 (pos n)} {P = NumberForm 4} (λ n. (λ h. h, λ h. h)) e.months in
    let drawing = held_form drawing_form e.drawing in (
      λ t.
          let r1 = and_right (code_test 0 e.code) _ t in
          let r2 = and_right t1 _ r1 in
          let r3 = and_right t2 _ r2 in
          let r4 = and_right t3 _ r3 in
          record {
            code = code.0 (and_left (code_test 0 e.code) _ t);
            parent = parent.0 (and_left t1 _ r1);
            count = and_left t2 _ r2;
            landing = landing.0 (and_left t3 _ r3);
            months = months.0 (and_left t4 _ r4);
            drawing = drawing.0 (and_right t4 _ r4);
          },
      λ g.
          both (code_test 0 e.code) _ (code.1 g.code)
          (both t1 _ (parent.1 g.parent) (both t2 _ g.count (both t3 _ (landing.1 g.landing) (both t4 _ (months.1 g.months) (drawing.1 g.drawing))))),
    )

-- the answer of the tests
pub judged : (b : Bool) (e : Item) → b ≡ good_test e → IsTrue b ↔ Good e
judged b e q = (λ t. (good_form e).0 (sym q ∙ t), λ g. q ∙ (good_form e).1 g)
