-- One piece of a delivery: where its bytes end, and its length ahead of it.
use Rattle.std.proofs.Common.{◌≡◌, ℕ, ◌+◌, ◌*◌, ◌/◌, ◌%◌, ◌<◌, ◌≤◌, List, [], ◌∷◌, ◌++◌, length, get_or, take, drop, Some, None, Option, sym, refl, ap, ap₂, ◌∙◌, arith, Bor, length-take-le, take-append-drop}
use Rattle.std.proofs.lemmas.List.{append_assoc, get_or_append_left, take_at, drop_at}
use Rattle.wire.specs.Wire.{two, four, Taken}

-- bytes in front are of one piece only
abbrev pub Separate : (List ℕ → Type 0) → (List ℕ → List ℕ) → Type 0
Separate P w = (s t a b : List ℕ) → P s → P t → w s ++ a ≡ w t ++ b → (s ≡ t) × (a ≡ b)

pub separate : (n : ℕ) → Separate (λ s. length s ≡ n) (λ s. s)
separate n s t a b h k e = (
  sym (take_at s a n h) ∙ ap (take n) e ∙ take_at t b n k,
  sym (drop_at s a n h) ∙ ap (drop n) e ∙ drop_at t b n k,
)

-- the first n bytes and the rest, where there are as many
pub chunk : (n : ℕ) (b rest i : List ℕ) → b ≡ take n i → rest ≡ drop n i → n ≤ length i → (length b ≡ n) × (b ++ rest ≡ i)
chunk n b rest i be re h = (ap length be ∙ length-take-le n i h, ap₂ ◌++◌ be re ∙ take-append-drop n i)

-- each number of the list is a byte
abbrev pub Bytes : List ℕ → Type 0
Bytes s = (i : ℕ) → i < length s → get_or s i 0 < 256

-- numbers, written in k bytes; those up to a bound are read back
pub record Coded (k most : ℕ) (w : ℕ → List ℕ) (value : List ℕ → ℕ) : Type 0 where
  pub long : (n : ℕ) → length (w n) ≡ k
  pub back : (n : ℕ) → n ≤ most → value (w n) ≡ n
  pub again : (s : List ℕ) → length s ≡ k → Bytes s → w (value s) ≡ s

abbrev pub of_two : List ℕ → ℕ
of_two s = get_or s 0 0 * 256 + get_or s 1 0

abbrev pub of_four : List ℕ → ℕ
of_four s = get_or s 0 0 * 16777216 + get_or s 1 0 * 65536 + get_or s 2 0 * 256 + get_or s 3 0

two_again : (s : List ℕ) → length s ≡ 2 → Bytes s → two (of_two s) ≡ s
two_again [] l h = absurd (omega arith)
two_again (x ∷ []) l h = absurd (omega arith)
two_again (x ∷ y ∷ []) l h =
    let a : x < 256 = h 0 (omega arith) in
    let b : y < 256 = h 1 (omega arith) in
    let p : (x * 256 + y) / 256 % 256 ≡ x = omega arith in
    let q : (x * 256 + y) % 256 ≡ y = omega arith in
    cc
two_again (x ∷ y ∷ z ∷ s) l h = absurd (omega arith)

four_again : (s : List ℕ) → length s ≡ 4 → Bytes s → four (of_four s) ≡ s
four_again [] l h = absurd (omega arith)
four_again (x ∷ []) l h = absurd (omega arith)
four_again (x ∷ y ∷ []) l h = absurd (omega arith)
four_again (x ∷ y ∷ z ∷ []) l h = absurd (omega arith)
four_again (x ∷ y ∷ z ∷ u ∷ []) l h =
    let a : x < 256 = h 0 (omega arith) in
    let b : y < 256 = h 1 (omega arith) in
    let c : z < 256 = h 2 (omega arith) in
    let d : u < 256 = h 3 (omega arith) in
    let n = x * 16777216 + y * 65536 + z * 256 + u in
    let p : n / 16777216 % 256 ≡ x = omega arith in
    let q : n / 65536 % 256 ≡ y = omega arith in
    let r : n / 256 % 256 ≡ z = omega arith in
    let t : n % 256 ≡ u = omega arith in
    cc
four_again (x ∷ y ∷ z ∷ u ∷ v ∷ s) l h = absurd (omega arith)

pub two_coded : Coded 2 4096 two of_two
two_coded = record { long = λ n. refl; back = λ n h. omega arith; again = two_again }

pub four_coded : Coded 4 16384 four of_four
four_coded = record { long = λ n. refl; back = λ n h. omega arith; again = four_again }

-- a piece of at most so many bytes, with its length ahead
abbrev Short : ℕ → List ℕ → Type 0
Short most s = length s ≤ most

abbrev ahead : (ℕ → List ℕ) → List ℕ → List ℕ
ahead w s = w (length s) ++ s

pub ahead_separate : {k most : ℕ} {w : ℕ → List ℕ} {value : List ℕ → ℕ} → Coded k most w value → Separate (Short most) (ahead w)
ahead_separate {k} {most} {w} {value} c s t a b h i e =
    let m = separate k (w (length s)) (w (length t)) (s ++ a) (t ++ b) (c.long (length s)) (c.long (length t)) (sym (append_assoc (w (length s)) s a) ∙ e ∙ append_assoc (w (length t)) t b) in
    let l : length s ≡ length t = sym (c.back (length s) h) ∙ ap value m.0 ∙ c.back (length t) i in
    separate (length t) s t a b l refl m.1

bytes_front : (s rest : List ℕ) {input : List ℕ} → s ++ rest ≡ input → ((i : ℕ) → get_or input i 0 < 256) → Bytes s
bytes_front s rest e h i l =
    let a : get_or (s ++ rest) i 0 ≡ get_or _ i 0 = ap (λ z. get_or z i 0) e in
    let b = get_or_append_left s rest 0 i l in
    omega (arith, h i)

-- where the bytes b in front say a length, the piece is what a cut of that length gives
pub told : {k most : ℕ} {w : ℕ → List ℕ} {value : List ℕ → ℕ} → Coded k most w value → (b after input : List ℕ) (n : ℕ) (o : Option (Bor (List ℕ) × Bor (List ℕ))) → (length b ≡ k) × (b ++ after ≡ input) → value b ≡ n → ((i : ℕ) → get_or input i 0 < 256) → Taken (λ s. (length s ≡ n) × Short most s) (λ s. s) after o → Taken (Short most) (ahead w) input o
told {w = w} c b after input n (Some x) f v h t =
    let s = x.0.now in
    let rest = x.1.now in
    let e : w (length s) ≡ b = ap w (t.0.0 ∙ sym v) ∙ c.again b f.0 (bytes_front b after f.1 h) in
    (t.0.1, append_assoc (w (length s)) s rest ∙ ap (λ z. z ++ (s ++ rest)) e ∙ ap (λ z. b ++ z) t.1 ∙ f.1)
told {k} {most} {w} {value} c b after input n None f v h t =
    λ s rest l e.
    let m = separate k (w (length s)) b (s ++ rest) after (c.long (length s)) f.0 (sym (append_assoc (w (length s)) s rest) ∙ e ∙ sym f.1) in
    t s rest (sym (c.back (length s) l) ∙ ap value m.0 ∙ v, l) m.1
