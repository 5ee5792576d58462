-- Seals by computing: rows over a state, sealing, and opening, which is sealing with D for E and
-- with X and Y exchanged. Laws.antt states that this is the seal of Seal.antt.
use Rattle.std.specs.Prelude.{◌≡◌, ℕ, zero, suc, ◌-◌, ◌*◌, ◌/◌, List, [], ◌++◌, length, take, drop}
use Rattle.block.specs.Bytes.{Block, block, ◌⊕◌}
use Rattle.poet.specs.Functions.{Functions}
use Rattle.poet.specs.Seal.{Limits}

-- What stands after some rows: the last block of the sequence that takes blocks in, that of the
-- sequence that gives blocks out, and all that was given out. Sealing takes in at X and gives out
-- at Y.
pub record State : Type 0 where
  pub x : List ℕ
  pub y : List ℕ
  pub out : List ℕ

-- one row, with e for E or D and c for the chaining hash
unfoldable pub takes : (c : List ℕ → List ℕ) → State → List ℕ → List ℕ
takes c s b = b ⊕ c s.x

unfoldable pub gives : (e c : List ℕ → List ℕ) → State → List ℕ → List ℕ
gives e c s b = e (takes c s b) ⊕ c s.y

unfoldable pub next : (e c : List ℕ → List ℕ) → State → List ℕ → State
next e c s b = record { x = takes c s b; y = e (takes c s b); out = s.out ++ gives e c s b }

-- the rows of the first n blocks of m
unfoldable pub rows : (e c : List ℕ → List ℕ) → ℕ → State → List ℕ → State
rows e c zero s m = s
rows e c (suc n) s m = next e c (rows e c n s m) (block n m)

-- the last row, over a whole block b; what it gives out stands alone
unfoldable pub last : (e c : List ℕ → List ℕ) → List ℕ → State → List ℕ → State
last e c S s b = let x : List ℕ = b ⊕ S ⊕ c s.x in record { x = x; y = e x; out = e x ⊕ c s.y ⊕ S }

-- how many blocks stand before the last one, and how many bytes the last one has
abbrev pub whole : List ℕ → ℕ
whole m = (length m - 1) / 16

abbrev pub last_length : List ℕ → ℕ
last_length m = length m - 16 * whole m

-- All rows over `a`, whose last block `fill` completes: what they give out, as long as `a`; the
-- rest of the last block given out; the last x and y.
pub record AllRows : Type 0 where
  pub out : List ℕ
  pub rest : List ℕ
  pub x : List ℕ
  pub y : List ℕ

-- ... at n blocks and r bytes more
unfoldable pub cut : (e c : List ℕ → List ℕ) → List ℕ → ℕ → ℕ → State → List ℕ → List ℕ → AllRows
cut e c S n r s a fill =
    let t : State = rows e c n s a in
    let z : State = last e c S t (drop (16 * n) a ++ fill) in
    record { out = t.out ++ take r z.out; rest = drop r z.out; x = z.x; y = z.y }

abbrev pub all_rows : (e c : List ℕ → List ℕ) → List ℕ → State → List ℕ → List ℕ → AllRows
all_rows e c S s a fill = cut e c S (whole a) (last_length a) s a fill

-- before the first row of a sealing, and of an opening
unfoldable pub start : Functions → List ℕ → State
start f h = record { x = f.dig h; y = f.dig h ⊕ f.num 1; out = [] }

abbrev pub turned : State → State
turned s = record { x = s.y; y = s.x; out = [] }

-- S for n bytes, and Z from τ and the last X and Y
unfoldable pub length_mask : Functions → ℕ → List ℕ
length_mask f n = f.enc (f.num (8 * n))

unfoldable pub closing : Functions → List ℕ → List ℕ → List ℕ → List ℕ
closing f t x y = f.enc (f.chain x ⊕ t) ⊕ f.chain y ⊕ t

-- the rows of a sealing, and what they give: ciphertext and tag
unfoldable pub sealed_rows : Functions → List ℕ → List ℕ → AllRows
sealed_rows f h m = all_rows f.enc f.chain (length_mask f (length m))
    (start f h) m (take (16 - last_length m) (f.dig h))

abbrev pub ciphertext : Functions → List ℕ → List ℕ → List ℕ
ciphertext f h m = (sealed_rows f h m).out

abbrev pub tag : Functions → List ℕ → List ℕ → List ℕ
tag f h m = (sealed_rows f h m).rest ++ take (last_length m)
    (closing f (f.dig h) (sealed_rows f h m).x (sealed_rows f h m).y)

pub record Computed (f : Functions) (h m c t : List ℕ) : Type 0 where
  pub limits : Limits h m
  pub cipher_is : c ≡ ciphertext f h m
  pub tag_is : t ≡ tag f h m

-- opening: what it computes, and its tests
unfoldable pub opened_rows : Functions → List ℕ → List ℕ → List ℕ → AllRows
opened_rows f h c t = all_rows f.dec f.chain (length_mask f (length c))
    (turned (start f h)) c (take (16 - last_length c) t)

abbrev pub opened : Functions → List ℕ → List ℕ → List ℕ → List ℕ
opened f h c t = (opened_rows f h c t).out

pub record Accepts (f : Functions) (h c t : List ℕ) : Type 0 where
  pub limits : Limits h c
  pub tag_block : Block t
  -- the last block ends with the first bytes of τ
  pub fill : (opened_rows f h c t).rest ≡ take (16 - last_length c) (f.dig h)
  -- the tag ends with the first bytes of Z
  pub check : drop (16 - last_length c) t ≡ take (last_length c)
      (closing f (f.dig h) (opened_rows f h c t).y (opened_rows f h c t).x)
