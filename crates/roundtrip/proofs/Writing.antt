-- What is written of the text, where the writer fails too.
use Rattle.std.proofs.Common.{◌≡◌, ℕ, List, [], ◌++◌, Ok, Err, Result, refl, ap, ◌∙◌, subst, Option}
use Rattle.std.proofs.KnownBytes.{Appends-nil}
use Rattle.std.specs.Option.{IfSome}
use Rattle.std.specs.Result.{OnOk, OnErr}
use Rattle.delivery.specs.Told.{suite_of}
use Rattle.std.specs.Io.KnownBytes.{Appends}
use Rattle.streams.specs.Streams.{Wrote, WritesFront}
use Rattle.suites.specs.Listed.{numbered}
use Rattle.suites.specs.Shaft.{shaft, shaft_padded, shaft_speck}
use Rattle.suites.specs.PoetAes.{poet_aes_four, poet_aes_ten}
use Rattle.suites.specs.Mirror.{mirror}
use Rattle.roundtrip.specs.declared.trips.Trip.{Trip}
use Rattle.roundtrip.specs.Trips.{key, Tripped, OfText, Ran, RanInPart, text_of}

abbrev Under : ℕ → Trip → Type 0
Under n t = IfSome (suite_of n) (λ under. Tripped (under key) n t)

module _ (a b c d e f : Trip) (a_is : Under 1 a) (b_is : Under 2 b) (c_is : Under 3 c) (d_is : Under 4 d) (e_is : Under 5 e) (f_is : Under 6 f) where
  of_text : (P : List ℕ → Type 0) → P (text_of a b c d e f) → OfText P
  unfolding numbered
  of_text P p = (
    a,
    b,
    c,
    d,
    e,
    f,
    (shaft, refl, a_is),
    (poet_aes_four, refl, b_is),
    (poet_aes_ten, refl, c_is),
    (mirror, refl, d_is),
    (shaft_padded, refl, e_is),
    (shaft_speck, refl, f_is),
    p,
  )

  is : {none held bytes : List ℕ} → none ≡ [] → held ≡ none ++ text_of a b c d e f → bytes ≡ held → bytes ≡ text_of a b c d e f
  is n h q = q ∙ h ∙ ap (λ (l : List ℕ). l ++ text_of a b c d e f) n

  module _ {E : Type 0} (old : Option (List ℕ)) where
    pub nothing_written : (r : Result (Unit {0}) E) → OnErr r (RanInPart old old)
    nothing_written (Ok x) = tt
    nothing_written (Err x) = of_text (WritesFront old old) ([], text_of a b c d e f, refl, Appends-nil old)

    -- The text was put behind no bytes, and what came of it was written.
    pub written : (new : Option (List ℕ)) (none held bytes : List ℕ) (r : Result (Unit {0}) E) → none ≡ [] → held ≡ none ++ text_of a b c d e f → bytes ≡ held → Wrote old new bytes r → OnOk r (Ran old new) × OnErr r (RanInPart old new)
    written new none held bytes (Ok x) n h q w = (of_text (Appends old new) (subst (Appends old new) (is n h q) w), tt)
    written new none held bytes (Err x) n h q w = (tt, of_text (WritesFront old new) (subst (WritesFront old new) (is n h q) w))
