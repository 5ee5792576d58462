-- A round and the round undone cancel, both ways round, and so do all of them.
use Rattle.std.proofs.Common.{◌≡◌, ℕ, ◌+◌, ◌-◌, ◌%◌, ◌^◌, ◌<◌, List, [], ◌∷◌, bit_xor, ap, ◌∙◌, refl, arith, lit<}
use Rattle.std.specs.List.{All}
use Rattle.std.proofs.lemmas.List.Elements.{All-head, All-tail}
use Rattle.std.specs.Int.{w64, rotate_left, rotate_right}
use lib.Bits.{xor_lt, xor_assoc, xor_self, xor_zero_r}
use Rattle.speck.specs.declared.words.Words.{Words}
use Rattle.speck.specs.Cipher.{next_x, round, former_y, unround, rounds, unrounds}
use Rattle.speck.proofs.Turns.{left_below, right_below, left_right, right_left}

abbrev Word : ℕ → Type 0
Word k = k < 2 ^ 64

-- both words are below 2^64
pub record Fit (w : Words) : Type 0 where
  pub x : w.x < 2 ^ 64
  pub y : w.y < 2 ^ 64

same : (v w : Words) → v.x ≡ w.x → v.y ≡ w.y → v ≡ w
same v w p q = λ i. record { x = p i; y = q i }

xor_twice : (a b : ℕ) → bit_xor (bit_xor a b) b ≡ a
xor_twice a b = xor_assoc a b b ∙ ap (bit_xor a) (xor_self b) ∙ xor_zero_r a

-- a sum and a difference below 2^64 cancel
less : (a b : ℕ) → a < 2 ^ 64 → b < 2 ^ 64 → ((a + b) % 2 ^ 64 + (2 ^ 64 - b)) % 2 ^ 64 ≡ a
less a b p q = omega arith

more : (a b : ℕ) → a < 2 ^ 64 → b < 2 ^ 64 → ((a + (2 ^ 64 - b)) % 2 ^ 64 + b) % 2 ^ 64 ≡ a
more a b p q = omega arith

below : (n : ℕ) → n % 2 ^ 64 < 2 ^ 64
below n = omega arith

x_below : (k : ℕ) (w : Words) → k < 2 ^ 64 → next_x k w < 2 ^ 64
x_below k w l = xor_lt 64 ((rotate_right w64 w.x 8 + w.y) % 2 ^ 64) k (below (rotate_right w64 w.x 8 + w.y)) l

pub round_fits : (k : ℕ) (w : Words) → k < 2 ^ 64 → Fit w → Fit (round k w)
unfolding round
round_fits k w l f = record { x = x_below k w l; y = xor_lt 64 (rotate_left w64 w.y 3) (next_x k w) (left_below 3 (lit< tt) (lit< tt) w.y f.y) (x_below k w l) }

y_below : (w : Words) → Fit w → former_y w < 2 ^ 64
y_below w f = right_below 3 (lit< tt) (lit< tt) (bit_xor w.y w.x) (xor_lt 64 w.y w.x f.y f.x)

unround_fits : (k : ℕ) (w : Words) → Fit w → Fit (unround k w)
unfolding unround
unround_fits k w f = record {
  x = left_below 8 (lit< tt) (lit< tt) ((bit_xor w.x k + (2 ^ 64 - former_y w)) % 2 ^ 64) (below (bit_xor w.x k + (2 ^ 64 - former_y w)));
  y = y_below w f;
}

-- the words of the round come back
unround_round : (k : ℕ) (w : Words) → Fit w → unround k (round k w) ≡ w
unfolding round unround
unround_round k w f =
    let r : ℕ = rotate_right w64 w.x 8 in
    let y : former_y (round k w) ≡ w.y =
    ap (λ n. rotate_right w64 n 3) (xor_twice (rotate_left w64 w.y 3) (next_x k w)) ∙ right_left 3 (lit< tt) (lit< tt) w.y f.y
    in
    let x : (bit_xor (next_x k w) k + (2 ^ 64 - former_y (round k w))) % 2 ^ 64 ≡ r =
    ap (λ n. (n + (2 ^ 64 - former_y (round k w))) % 2 ^ 64) (xor_twice ((r + w.y) % 2 ^ 64) k)
    ∙ ap (λ n. ((r + w.y) % 2 ^ 64 + (2 ^ 64 - n)) % 2 ^ 64) y
    ∙ less r w.y (right_below 8 (lit< tt) (lit< tt) w.x f.x) f.y
    in
    same (unround k (round k w)) w (ap (λ n. rotate_left w64 n 8) x ∙ left_right 8 (lit< tt) (lit< tt) w.x f.x) y

round_unround : (k : ℕ) (w : Words) → k < 2 ^ 64 → Fit w → round k (unround k w) ≡ w
unfolding round unround
round_unround k w l f =
    let d : ℕ = (bit_xor w.x k + (2 ^ 64 - former_y w)) % 2 ^ 64 in
    let x : next_x k (unround k w) ≡ w.x =
    ap (λ n. bit_xor ((n + former_y w) % 2 ^ 64) k) (right_left 8 (lit< tt) (lit< tt) d (below (bit_xor w.x k + (2 ^ 64 - former_y w))))
    ∙ ap (λ n. bit_xor n k) (more (bit_xor w.x k) (former_y w) (xor_lt 64 w.x k f.x l) (y_below w f))
    ∙ xor_twice w.x k
    in
    let y : bit_xor (rotate_left w64 (former_y w) 3) (next_x k (unround k w)) ≡ w.y =
    ap (λ n. bit_xor (rotate_left w64 (former_y w) 3) n) x
    ∙ ap (λ n. bit_xor n w.x) (left_right 3 (lit< tt) (lit< tt) (bit_xor w.y w.x) (xor_lt 64 w.y w.x f.y f.x))
    ∙ xor_twice w.y w.x
    in
    same (round k (unround k w)) w x y

pub rounds_fit : (ks : List ℕ) (w : Words) → All Word ks → Fit w → Fit (rounds ks w)
unfolding rounds
rounds_fit [] w h f = f
rounds_fit (k ∷ ks) w h f = rounds_fit ks (round k w) (All-tail Word k ks h) (round_fits k w (All-head Word k ks h) f)

pub unrounds_fit : (ks : List ℕ) (w : Words) → Fit w → Fit (unrounds ks w)
unfolding unrounds
unrounds_fit [] w f = f
unrounds_fit (k ∷ ks) w f = unround_fits k (unrounds ks w) (unrounds_fit ks w f)

pub unrounds_rounds : (ks : List ℕ) (w : Words) → All Word ks → Fit w → unrounds ks (rounds ks w) ≡ w
unfolding rounds unrounds
unrounds_rounds [] w h f = refl
unrounds_rounds (k ∷ ks) w h f =
    ap (unround k) (unrounds_rounds ks (round k w) (All-tail Word k ks h) (round_fits k w (All-head Word k ks h) f)) ∙ unround_round k w f

pub rounds_unrounds : (ks : List ℕ) (w : Words) → All Word ks → Fit w → rounds ks (unrounds ks w) ≡ w
unfolding rounds unrounds
rounds_unrounds [] w h f = refl
rounds_unrounds (k ∷ ks) w h f =
    ap (rounds ks) (round_unround k (unrounds ks w) (All-head Word k ks h) (unrounds_fit ks w f)) ∙ rounds_unrounds ks w (All-tail Word k ks h) f
