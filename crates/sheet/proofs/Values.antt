-- The ends of a drawing, and what is put together when an entry is written.
use Rattle.std.proofs.Common.{◌≡◌, ℕ, ◌+◌, ◌<◌, ◌≤◌, Bool, true, false, List, [], ◌++◌, length, take, drop, pos, Some, None, Ok, Err, Option, Result, sym, refl, ap, ◌∙◌, subst, inr, ⊎_elim, append_assoc, append-nil, arith, length-append, length-take-le, w32, SFits, Bor}
use Rattle.std.proofs.str.Laws.{order}
use Rattle.std.proofs.lemmas.List.{take-append-le, take_all}
use Rattle.std.specs.Option.{option_map}
use Rattle.std.proofs.lemmas.Bool.Decides.{nat_tests}
use Rattle.fault.specs.declared.kinds.SheetFault.{SheetFault}
use Rattle.fault.specs.declared.kinds.Placed.{Placed}
use Rattle.sheet.specs.Table.{row_of, in_row}
use Rattle.sheet.specs.Entries.{Item, Good, Held, CodeForm, NumberForm, LandingForm, DrawingForm, two, one, text, counted, held, item_map, bytes}
use Rattle.sheet.specs.Calls.{Put, WroteAs}

pub short : (n : ℕ) → in_row 5 (pos n) ≡ true → n ≤ 32
unfolding row_of
short n h = grind (arith, nat_tests)

-- a text whose length is no `i32` is no drawing
pub long : (n : ℕ) → (SFits w32 (pos n) → ⊥) → in_row 5 (pos n) ≡ false
long n h = by (in_row 5 (pos n)) refl
  where
    by : (b : Bool) → in_row 5 (pos n) ≡ b → in_row 5 (pos n) ≡ false
    by true e = let m = short n e in absurd (h (record { sfits = grind (arith, nat_tests) }))
    by false e = e

-- how long the bytes of a good entry are
held_length : {A : Type 0} {P : A → Type 0} (w : A → List ℕ) (k : ℕ) → ((a : A) → P a → length (w a) ≤ k) → (o : Option A) → Held P o → length (held w o) ≤ k
held_length w k h None p = omega arith
held_length w k h (Some a) p = h a p

code_short : (k : ℕ) (s : List ℕ) → (row_of k).width ≡ 8 → CodeForm k s → length s ≤ 8
code_short k s w f = omega (arith, f.0)

bytes_short : (e : Item) → Good e → length (bytes e) ≤ 56
unfolding row_of
bytes_short e g =
    let c = code_short 0 e.code refl g.code in
    let p = held_length text 8 (λ s f. code_short 1 s refl f) e.parent g.parent in
    let l = held_length {P = LandingForm} one 1 (λ z f. omega arith) e.landing g.landing in
    let m = held_length {P = NumberForm 4} two 2 (λ n f. omega arith) e.months g.months in
    let d = held_length counted 33 (λ s f. let n = short (length s) f.0 in omega arith) e.drawing g.drawing in
    simp length-append (omega arith)

-- A buffer of N bytes holds some bytes, as far as there is room for them.
pub record Filled (N : ℕ) (out all : List ℕ) : Type 0 where
  pub is : out ≡ take N all

take_more : (N : ℕ) (a b : List ℕ) → take N (take N a ++ b) ≡ take N (a ++ b)
take_more N a b =
    ⊎_elim
    (λ (l : N < length a).
    let m : N ≤ length (take N a) = omega (arith, length-take-le N a (omega arith)) in
    let n : N ≤ length a = omega arith in
    take-append-le N (take N a) b m ∙ take_all N (take N a) (omega (arith, length-take-le N a (omega arith))) ∙ sym (take-append-le N a b n))
    (λ (l : length a ≤ N). ap (λ x. take N (x ++ b)) (take_all N a l))
    (order N (length a))

pub filled_more : {N : ℕ} {x all : List ℕ} (y s : List ℕ) → Filled N x all → y ≡ take N (x ++ s) → Filled N y (all ++ s)
filled_more {N} {x} {all} y s f e = record { is = e ∙ ap (λ t. take N (t ++ s)) f.is ∙ take_more N all s }

-- ... and behind them a field, if it is there
pub filled_some : {A : Type 0} {N : ℕ} {x all : List ℕ} (w : A → List ℕ) (o : Option A) (a : A) (y : List ℕ) → Filled N x all → o ≡ Some a → y ≡ take N (x ++ w a) → Filled N y (all ++ held w o)
filled_some {A} {N} {x} {all} w o a y f oe e = subst (λ (p : Option A). Filled N y (all ++ held w p)) (sym oe) (filled_more y (w a) f e)

pub filled_none : {A : Type 0} {N : ℕ} {x all : List ℕ} (w : A → List ℕ) (o : Option A) (y : List ℕ) → Filled N x all → o ≡ None → y ≡ x → Filled N y (all ++ held w o)
filled_none {A} {N} {x} {all} w o y f oe e =
    let n : Filled N y (all ++ []) = record { is = e ∙ f.is ∙ ap (take N) (sym (append-nil all)) } in
    subst (λ (p : Option A). Filled N y (all ++ held w p)) (sym oe) n

pub twice : (N : ℕ) (x s t y z : List ℕ) → y ≡ take N (x ++ s) → z ≡ take N (y ++ t) → z ≡ take N (x ++ (s ++ t))
twice N x s t y z p q = q ∙ ap (λ u. take N (u ++ t)) p ∙ take_more N (x ++ s) t ∙ ap (take N) (append_assoc x s t)

pub entry_whole : (e : Item) (out : List ℕ) → Good e → Filled 56 out ((((((([] ++ two (item_map e)) ++ e.code) ++ held text e.parent) ++ two e.count) ++ held one e.landing) ++ held two e.months) ++ held counted e.drawing) → out ≡ bytes e
entry_whole e out g f =
    let same : (((((([] ++ two (item_map e)) ++ e.code) ++ held text e.parent) ++ two e.count) ++ held one e.landing) ++ held two e.months) ++ held counted e.drawing ≡ bytes e = simp append_assoc in
    f.is ∙ ap (take 56) same ∙ take_all 56 (bytes e) (bytes_short e g)

abbrev pub lent : Option (Bor (List ℕ)) → Option (List ℕ)
lent o = option_map (λ s. s.now) o

pub drawing_short : (o : Option (Bor (List ℕ))) (s : Bor (List ℕ)) → o ≡ Some s → Held DrawingForm (lent o) → length s.now ≤ 32
drawing_short o s e f =
    let P : Option (Bor (List ℕ)) → Type 0 = λ p. Held DrawingForm (lent p) in
    let g : P (Some s) = subst P e f in
    short (length s.now) g.0

-- what the writing of an entry answers, from where its bytes were put
pub wrote_as : (e : Item) (b c old new : List ℕ) (at : ℕ) (r : Result ℕ (Placed SheetFault)) → Good e → b ≡ c → Put old new at b r → WroteAs old new at e c r
wrote_as e b c old new at (Ok q) g be p = (g, p.0 ∙ ap (λ (x : List ℕ). at + length x) be, p.1, p.2 ∙ ap (λ (x : List ℕ). take at old ++ (x ++ drop q old)) be)
wrote_as e b c old new at (Err f) g be p = (p.0, inr (p.1, g, subst (λ (x : List ℕ). length old < at + length x) be p.2))
