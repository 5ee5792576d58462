use Rattle.std.proofs.Common.{◌≡◌, ◌+◌, Bool, true, false, cond, refl}
use lib.Count.{ones, ones_in}
use Rattle.sheet.specs.Entries.{map_of}

pub counts : (p l m d : Bool) → ones (map_of p l m d) ≡ 2 + cond p 1 0 + cond l 1 0 + cond m 1 0 + cond d 1 0
unfolding ones ones_in
counts true true true true = refl
counts true true true false = refl
counts true true false true = refl
counts true true false false = refl
counts true false true true = refl
counts true false true false = refl
counts true false false true = refl
counts true false false false = refl
counts false true true true = refl
counts false true true false = refl
counts false true false true = refl
counts false true false false = refl
counts false false true true = refl
counts false false true false = refl
counts false false false true = refl
counts false false false false = refl
