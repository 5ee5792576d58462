-- The laws of the mode, over all lawful functions.
use Rattle.std.specs.Prelude.{◌≡◌, ℕ, ◌*◌, ◌<◌, ◌≤◌, ◌↔◌, List, [], ◌∷◌, ◌++◌, length, take, drop}
use Rattle.block.specs.Bytes.{Bytes, Block}
use Rattle.poet.specs.Functions.{Functions, Lawful}
use Rattle.poet.specs.Seal.{Limits, Tied, Seals}
use Rattle.poet.specs.Rows.{State, AllRows, rows, whole, last, all_rows, opened, Computed, Accepts}

-- A message within the limits has one seal under a header within them: one ciphertext and one tag.
pub record OneSeal (f : Functions) (H M : List ℕ) : Type 0 where
  pub C : List ℕ
  pub T : List ℕ
  pub seals : Seals f H M C T
  pub only : (C' T' : List ℕ) → Seals f H M C' T' → (C' ≡ C) × (T' ≡ T)

abbrev pub SealLaw : Type 0
SealLaw = (f : Functions) → Lawful f → (H M : List ℕ) → Limits H M → OneSeal f H M

-- What is computed is the seal, and nothing else is.
abbrev pub ComputingLaw : Type 0
ComputingLaw = (f : Functions) → Lawful f → (H M C T : List ℕ)
    → Computed f H M C T ↔ Seals f H M C T

-- A seal's ciphertext is as long as its message, and its tag has sixteen bytes.
pub record Lengths (M C T : List ℕ) : Type 0 where
  pub ciphertext : length C ≡ length M
  pub tag : Block T

abbrev pub TagLaw : Type 0
TagLaw = (f : Functions) → Lawful f → (H M C T : List ℕ) → Seals f H M C T → Lengths M C T

-- A ciphertext and a tag are the seal of one message at most.
abbrev pub OnlyLaw : Type 0
OnlyLaw = (f : Functions) → Lawful f → (H M M' C T : List ℕ)
    → Seals f H M C T → Seals f H M' C T → M' ≡ M

-- Opening accepts exactly what some message seals to; it computes that message, and every message
-- that seals so equals it.
pub record Opens (f : Functions) (H C T : List ℕ) : Type 0 where
  pub accepts : Accepts f H C T ↔ ((M : List ℕ) × Seals f H M C T)
  pub computes : Accepts f H C T → Seals f H (opened f H C T) C T
  pub only : (M : List ℕ) → Seals f H M C T → M ≡ opened f H C T

abbrev pub OpeningLaw : Type 0
OpeningLaw = (f : Functions) → Lawful f → (H C T : List ℕ) → Opens f H C T

-- The first k blocks of two pairs of message and ciphertext that rows tie under one header are the
-- same on one side exactly when they are the same on the other.
abbrev pub PrefixLaw : Type 0
PrefixLaw = (f : Functions) → Lawful f → (H : List ℕ) → Bytes H → (M M' C C' : List ℕ) (k : ℕ)
    → Bytes M → Bytes M' → 16 * k ≤ length M → 16 * k ≤ length M'
    → Tied f H k M C → Tied f H k M' C'
    → (take (16 * k) C ≡ take (16 * k) C') ↔ (take (16 * k) M ≡ take (16 * k) M')

-- So are those of two seals longer than k blocks ...
abbrev pub SealingPrefix : Type 0
SealingPrefix = (f : Functions) → Lawful f → (H M M' C C' T T' : List ℕ) (k : ℕ) → Seals f H M C T
    → Seals f H M' C' T' → 16 * k < length M → 16 * k < length M'
    → (take (16 * k) C ≡ take (16 * k) C') ↔ (take (16 * k) M ≡ take (16 * k) M')

-- ... and those of two openings, whether or not they accept.
pub record OpeningFronts (f : Functions) (H C C' T T' : List ℕ) (k : ℕ) : Type 0 where
  pub tied : Tied f H k (opened f H C T) C
  pub same : (take (16 * k) (opened f H C T) ≡ take (16 * k)
      (opened f H C' T')) ↔ (take (16 * k) C ≡ take (16 * k) C')

abbrev pub OpeningPrefix : Type 0
OpeningPrefix = (f : Functions) → Lawful f → (H C C' T T' : List ℕ) (k : ℕ) → Limits H C
    → Limits H C' → Block T → Block T' → 16 * k < length C → 16 * k < length C'
    → OpeningFronts f H C C' T T' k

-- Rows over bytes that come in pieces: what stands after the rows so far, and the bytes held back.
pub record Stream : Type 0 where
  pub at : State
  pub held : List ℕ

-- one more piece: every block that more bytes follow is taken
unfoldable pub feed : (e c : List ℕ → List ℕ) → Stream → List ℕ → Stream
feed e c st p =
    let t : List ℕ = st.held ++ p in
    record { at = rows e c (whole t) st.at t; held = drop (16 * whole t) t }

abbrev pub feeds : (e c : List ℕ → List ℕ) → Stream → List (List ℕ) → Stream
feeds e c st [] = st
feeds e c st (p ∷ ps) = feeds e c (feed e c st p) ps

abbrev pub flat : List (List ℕ) → List ℕ
flat [] = []
flat (p ∷ ps) = p ++ flat ps

-- the end: the bytes held back are the last block, which `fill` completes
unfoldable pub finish : (e c : List ℕ → List ℕ) → List ℕ → Stream → List ℕ → AllRows
finish e c S st fill =
    let z : State = last e c S st.at (st.held ++ fill) in
    record {
      out = st.at.out ++ take (length st.held) z.out;
      rest = drop (length st.held) z.out;
      x = z.x;
      y = z.y;
    }

-- However the bytes come in pieces, the rows are those of all of them, the rest is held back, and
-- the end is that of the whole.
pub record Pieces (e c : List ℕ → List ℕ) (s : State) (ps : List (List ℕ)) : Type 0 where
  pub so_far : feeds e c (record { at = s; held = [] }) ps ≡ record {
    at = rows e c (whole (flat ps)) s (flat ps);
    held = drop (16 * whole (flat ps)) (flat ps);
  }
  pub at_end : (S fill : List ℕ)
      → finish e c S (feeds e c (record { at = s; held = [] }) ps) fill
      ≡ all_rows e c S s (flat ps) fill

abbrev pub PiecesLaw : Type 0
PiecesLaw = (e c : List ℕ → List ℕ) (s : State) (ps : List (List ℕ)) → Pieces e c s ps

-- There are lawful functions.
abbrev pub LawfulSome : Type 0
LawfulSome = (f : Functions) × Lawful f
