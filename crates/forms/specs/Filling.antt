-- How a header is filled up to whole blocks.
use Rattle.std.specs.Prelude.{ℕ, ◌-◌, ◌%◌, ◌&&◌, List, ◌∷◌, ◌++◌, length, replicate, ◌==◌, nat_lt}
use Rattle.std.specs.Prelude.{if◌then◌else◌}

-- 80, and then 00 up to the next block boundary: whole blocks get a further block
unfoldable pub padded : List ℕ → List ℕ
padded H = H ++ 0x80 ∷ replicate (15 - length H % 16) 0

-- A header of one or more whole blocks stays as it is; any other, the empty one too, is padded.
unfoldable pub filled : List ℕ → List ℕ
filled H = if nat_lt 0 (length H) && length H % 16 == 0 then H else padded H
