-- What is sealed passes every check. So a check that fails, for want of room and for a key of another length apart, means that nothing
-- seals so.
use Rattle.std.proofs.Common.{◌≡◌, ℕ, ◌≤◌, true, false, eqb, ltb, List, length, None, arith, le-ltb, ne_eqb, eq-eqb}
use Rattle.poet.specs.Functions.{Functions, Lawful}
use Rattle.poet.specs.Seal.{header_most, body_most, Seals}
use Rattle.poet.proofs.Accepting.{tag_law}
use Rattle.session.specs.Calls.{open_checks}
use Rattle.session.specs.Runs.{Run}
use Rattle.session.specs.Sessions.{sealing_check}

module _ (f : Functions) (H M C T : List ℕ) (s : Seals f H M C T) where
  header_fits : ltb header_most (length H) ≡ false
  header_fits = le-ltb header_most (length H) s.limits.header_most

  module _ (L : Lawful f) where
    some : eqb (length C) 0 ≡ false
    some = let l = s.limits.some in let e = (tag_law f L H M C T s).ciphertext in ne_eqb (length C) 0 (λ z. omega arith)

    sixteen : eqb (length T) 16 ≡ true
    sixteen = eq-eqb _ _ (tag_law f L H M C T s).tag.long

    pub open_passes : (key o : List ℕ) → length key ≡ 16 → length C ≤ length o → open_checks key H C T o ≡ None
    open_passes key o k r =
        let m = s.limits.most in
        let e = (tag_law f L H M C T s).ciphertext in
        let a : eqb (length key) 16 ≡ true = eq-eqb _ _ k in
        let b : ltb body_most (length C) ≡ false = le-ltb body_most (length C) (omega arith) in
        let c : ltb (length o) (length C) ≡ false = le-ltb (length o) (length C) r in
        rw (a, header_fits, b, c, some, sixteen)

-- the same of a finish
pub seal_end_passes : (f : Functions) (R : Run) (C T : List ℕ) → Seals f R.header R.body C T → sealing_check R ≡ None
seal_end_passes f R C T s = let l = s.limits.some in let d : eqb (length R.body) 0 ≡ false = ne_eqb (length R.body) 0 (λ z. omega arith) in rw d
