-- What the inner steps do, by the rows of the mode. Here e is E or D, c the chaining hash, and the
-- lanes s, which become s', are the blocks where blocks come in and go out.
use Rattle.std.specs.Prelude.{◌≡◌, ℕ, ◌-◌, ◌*◌, List, [], ◌++◌, take, drop, Some, None, Option}
use Rattle.poet.specs.Functions.{Functions}
use Rattle.session.specs.declared.rows.Lanes.{Lanes}
use Rattle.poet.specs.Rows.{State, takes, gives, rows, last, last_length, closing, opened_rows, opened}

-- x and y, and nothing given out yet
abbrev pub lanes : List ℕ → List ℕ → State
lanes x y = record { x = x; y = y; out = [] }

-- one row over the block b, which gives g
pub record Stepped (e c : List ℕ → List ℕ) (s : Lanes) (b : List ℕ) (s' : Lanes)
    (g : List ℕ) : Type 0 where
  pub x_is : s'.taking ≡ takes c (lanes s.taking s.giving) b
  pub y_is : s'.giving ≡ e (takes c (lanes s.taking s.giving) b)
  pub gives_is : g ≡ gives e c (lanes s.taking s.giving) b

-- the last row, with the mask S
pub record Ended (e c : List ℕ → List ℕ) (S : List ℕ) (s : Lanes) (b : List ℕ) (s' : Lanes)
    (g : List ℕ) : Type 0 where
  pub x_is : s'.taking ≡ (last e c S (lanes s.taking s.giving) b).x
  pub y_is : s'.giving ≡ (last e c S (lanes s.taking s.giving) b).y
  pub gives_is : g ≡ (last e c S (lanes s.taking s.giving) b).out

-- n rows over the bytes a; what they gave is at the front of o', which was o
pub record Ran (e c : List ℕ → List ℕ) (s : Lanes) (a o : List ℕ) (n : ℕ) (s' : Lanes)
    (o' : List ℕ) : Type 0 where
  pub x_is : s'.taking ≡ (rows e c n (lanes s.taking s.giving) a).x
  pub y_is : s'.giving ≡ (rows e c n (lanes s.taking s.giving) a).y
  pub front : take (16 * n) o' ≡ (rows e c n (lanes s.taking s.giving) a).out
  pub rest : drop (16 * n) o' ≡ drop (16 * n) o

-- the two tests of an opening of C under the header H with the tag T
pub record Tests (f : Functions) (H C T : List ℕ) : Type 0 where
  -- the last block ends with the front of τ
  pub fill : (opened_rows f H C T).rest ≡ take (16 - last_length C) (f.dig H)
  -- the tag ends with the front of Z
  pub check : drop (16 - last_length C) T ≡ take (last_length C)
      (closing f (f.dig H) (opened_rows f H C T).y (opened_rows f H C T).x)

-- the rows before the last gave G; the last one gave g, if the tests are passed
abbrev pub Tested : (f : Functions) (H C T G : List ℕ) → Option (List ℕ) → Type 0
Tested f H C T G (Some g) = (G ++ take (last_length C) g ≡ opened f H C T) × Tests f H C T
Tested f H C T G None = Tests f H C T → ⊥
