-- Blocks as states.
use Rattle.std.proofs.Common.{◌≡◌, ℕ, zero, suc, ◌+◌, ◌*◌, ◌<◌, List, [], ◌∷◌, length, get_or, refl, ap, ap₂, ◌∙◌, arith, lit<}
use Rattle.block.specs.Bytes.{Bytes, Block}
use Rattle.block.proofs.Xors.{bytes_from}
use Rattle.aes.specs.State.{byte_at, state}

-- the list f 0, f 1, .. of n numbers
abbrev tab : ℕ → (ℕ → ℕ) → List ℕ
tab zero f = []
tab (suc n) f = f 0 ∷ tab n (λ i. f (suc i))

relist : (x : List ℕ) (n : ℕ) → length x ≡ n → x ≡ tab n (λ i. get_or x i 0)
relist [] zero e = refl
relist [] (suc n) e = absurd (omega arith)
relist (a ∷ x) zero e = absurd (omega arith)
relist (a ∷ x) (suc n) e = ap (λ (l : List ℕ). a ∷ l) (relist x n (omega arith))

-- sixteen numbers are the state of themselves
pub as_state : (x : List ℕ) → length x ≡ 16 → x ≡ state (byte_at x)
as_state x e = relist x 16 e

pub cons_of : {a b : ℕ} {x y : List ℕ} → a ≡ b → x ≡ y → ◌≡◌ {A = List ℕ} (a ∷ x) (b ∷ y)
cons_of p q = ap₂ (λ (h : ℕ) (t : List ℕ). h ∷ t) p q

pub state_of : (f g : ℕ → ℕ → ℕ) → ((r c : ℕ) → r < 4 → c < 4 → f r c ≡ g r c) → state f ≡ state g
state_of f g h =
    cons_of (h 0 0 (lit< tt) (lit< tt))
    (cons_of (h 1 0 (lit< tt) (lit< tt))
    (cons_of (h 2 0 (lit< tt) (lit< tt))
    (cons_of (h 3 0 (lit< tt) (lit< tt))
    (cons_of (h 0 1 (lit< tt) (lit< tt))
    (cons_of (h 1 1 (lit< tt) (lit< tt))
    (cons_of (h 2 1 (lit< tt) (lit< tt))
    (cons_of (h 3 1 (lit< tt) (lit< tt))
    (cons_of (h 0 2 (lit< tt) (lit< tt))
    (cons_of (h 1 2 (lit< tt) (lit< tt))
    (cons_of (h 2 2 (lit< tt) (lit< tt))
    (cons_of (h 3 2 (lit< tt) (lit< tt))
    (cons_of (h 0 3 (lit< tt) (lit< tt))
    (cons_of (h 1 3 (lit< tt) (lit< tt))
    (cons_of (h 2 3 (lit< tt) (lit< tt))
    (cons_of (h 3 3 (lit< tt) (lit< tt))
    refl)))))))))))))))

-- sixteen numbers by their places in the state
pub placed : (x : List ℕ) (f : ℕ → ℕ → ℕ) → length x ≡ 16 → ((r c : ℕ) → r < 4 → c < 4 → byte_at x r c ≡ f r c) → x ≡ state f
placed x f e h = as_state x e ∙ state_of (byte_at x) f h

pub state_block : (f : ℕ → ℕ → ℕ) → ((r c : ℕ) → r < 4 → c < 4 → f r c < 256) → Block (state f)
unfolding Bytes
state_block f h =
    record {
      long = refl;
      bytes = (
        h 0 0 (lit< tt) (lit< tt),
        (
          h 1 0 (lit< tt) (lit< tt),
          (
            h 2 0 (lit< tt) (lit< tt),
            (
              h 3 0 (lit< tt) (lit< tt),
              (
                h 0 1 (lit< tt) (lit< tt),
                (
                  h 1 1 (lit< tt) (lit< tt),
                  (
                    h 2 1 (lit< tt) (lit< tt),
                    (
                      h 3 1 (lit< tt) (lit< tt),
                      (
                        h 0 2 (lit< tt) (lit< tt),
                        (
                          h 1 2 (lit< tt) (lit< tt),
                          (
                            h 2 2 (lit< tt) (lit< tt),
                            (
                              h 3 2 (lit< tt) (lit< tt),
                              (h 0 3 (lit< tt) (lit< tt), (h 1 3 (lit< tt) (lit< tt), (h 2 3 (lit< tt) (lit< tt), (h 3 3 (lit< tt) (lit< tt), tt)))),
                            ),
                          ),
                        ),
                      ),
                    ),
                  ),
                ),
              ),
            ),
          ),
        ),
      );
    }

bytes_at : (x : List ℕ) → Bytes x → (i : ℕ) → get_or x i 0 < 256
unfolding Bytes
bytes_at [] h i = lit< tt
bytes_at (a ∷ x) h zero = h.0
bytes_at (a ∷ x) h (suc i) = bytes_at x h.1 i

pub byte_lt : (x : List ℕ) → Block x → (r c : ℕ) → byte_at x r c < 256
byte_lt x b r c = bytes_at x b.bytes (r + 4 * c)

-- a block by its places, and back
pub block_from : (x : List ℕ) → length x ≡ 16 → ((i : ℕ) → i < 16 → get_or x i 0 < 256) → Block x
block_from x e h = record { long = e; bytes = bytes_from x (λ k l. h k (omega arith)) }

pub block_at : (x : List ℕ) → Block x → (i : ℕ) → get_or x i 0 < 256
block_at x b i = bytes_at x b.bytes i
