-- One read or write more.
use Rattle.std.proofs.Common.{◌≡◌, ℕ, ◌+◌, ◌-◌, List, ◌++◌, length, take, drop, Option, sym, ap, ◌∙◌, subst, append_assoc, take-append-drop}
use Rattle.std.proofs.lemmas.List.{take_rest}
use Rattle.std.proofs.Math.Seq.{take-add}
use Rattle.std.specs.Io.KnownBytes.{Consumes}
use Rattle.std.proofs.KnownBytes.{Consumes-trans}

module _ (a b c : Option (List ℕ)) (old new : List ℕ) (f : ℕ) (front : take f new ≡ take f old) (before : Consumes a b (take f old)) where
  pub more_read : (n : ℕ) → Consumes b c (take n (drop f new)) → Consumes a c (take (f + n) new)
  more_read n read = subst (Consumes a c) (sym (take-add f n new ∙ ap (λ (l : List ℕ). l ++ take n (drop f new)) front)) (Consumes-trans a b c _ _ before read)

pub more_written : (done rest all : List ℕ) (n : ℕ) → done ++ rest ≡ all → (done ++ take n rest) ++ take (length rest - n) (drop n rest) ≡ all
more_written done rest all n e =
    ap (λ (l : List ℕ). (done ++ take n rest) ++ l) (take_rest rest n) ∙ append_assoc done (take n rest) (drop n rest) ∙ ap (λ (l : List ℕ). done ++ l) (take-append-drop n rest) ∙ e
