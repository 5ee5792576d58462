-- What was read from a reader and written to a writer, also where one of them fails. A reader's
-- bytes are those that it has left, and a writer's those that it holds, where either is known.
use Rattle.std.specs.Prelude.{◌≡◌, ℕ, ◌<◌, ◌≤◌, List, ◌++◌, length, Ok, Err, Option, Result}
use Rattle.std.specs.Io.KnownBytes.{Appends, Consumes, IsAtEnd}

-- These bytes were read: the first of those that were left, as many as `most` of them, and fewer
-- only where no more were left.
pub record ReadsUpTo (most : ℕ) (old new : Option (List ℕ)) (bytes : List ℕ) : Type 0 where
  pub consumes : Consumes old new bytes
  pub at_most : length bytes ≤ most
  pub to_end : length bytes < most → IsAtEnd new

-- Some first bytes of these were written, or none, or all of them.
abbrev pub WritesFront : (old new : Option (List ℕ)) (bytes : List ℕ) → Type 0
WritesFront old new bytes = (front rest : List ℕ) × (front ++ rest ≡ bytes) × Appends old new front

-- What writing a text comes to: all of it is written, or at an error some first bytes.
abbrev pub Wrote : {E : Type 0} → (old new : Option (List ℕ)) (text : List ℕ)
    → Result (Unit {0}) E → Type 0
Wrote old new text (Ok x) = Appends old new text
Wrote old new text (Err e) = WritesFront old new text
