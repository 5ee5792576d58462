-- A run of the program, from what a reader has left to what a writer holds, where either is known.
use Rattle.std.specs.Prelude.{◌≡◌, ℕ, false, ◌⊎◌, List, ◌++◌, IsOk, OnSome, Ok, Err, Option}
use Rattle.std.specs.Prelude.{Result}
use Rattle.std.specs.Io.{IsEmptyOrEndsWith, StopsAt}
use Rattle.std.specs.Io.BufRead.{ends_with_byte}
use Rattle.std.specs.Io.KnownBytes.{Appends, Consumes, IsAtEnd, Keeps}
use Rattle.streams.specs.Streams.{WritesFront}
use Rattle.replay.specs.declared.report.Outcome.{Outcome}
use Rattle.replay.specs.Outcomes.{Comes, written_by}
use Rattle.replay.specs.Texts.{outcome_text}

-- One line was read, with the byte 10 at its end; it is without one, or empty, only where no more
-- was left.
pub record ReadsLine (old new : Option (List ℕ)) (line : List ℕ) : Type 0 where
  pub consumes : Consumes old new line
  pub one : StopsAt line 10
  pub to_end : ends_with_byte 10 line ≡ false → OnSome old (IsAtEnd new)

-- One line after another was read, and each before the last was taken. P holds of these bytes, and
-- they were all that was left, or P holds whatever might have followed.
pub record ReadsThrough (old new : Option (List ℕ)) (P : List ℕ → Type 0) : Type 0 where
  pub before : List ℕ
  pub last : List ℕ
  pub consumes : Consumes old new (before ++ last)
  pub whole : IsEmptyOrEndsWith before 10
  pub one : StopsAt last 10
  pub taken : IsOk (written_by before)
  pub holds : P (before ++ last)
  pub decided : OnSome old (IsAtEnd new) ⊎ ((more : List ℕ) → P ((before ++ last) ++ more))

-- This comes of what a reader had left, which was read to its end, or no further than through the
-- first line that was not taken.
abbrev pub Decides : (old new : Option (List ℕ)) → Outcome → Type 0
Decides old new o = ReadsThrough old new (λ input. Comes input o)

-- The text of what comes of the input was written. A run that failed wrote a front of that text; or
-- it failed before, and wrote nothing.
abbrev pub Ran : {E : Type 0} → (left left' held held' : Option (List ℕ))
    → Result (Unit {0}) E → Type 0
Ran left left' held held' (Ok x) =
    (o : Outcome) × Decides left left' o × Appends held held' (outcome_text o)
Ran left left' held held' (Err e) =
    ((o : Outcome) × Decides left left' o × WritesFront held held' (outcome_text o))
    ⊎ ((input : List ℕ) × Consumes left left' input × Keeps held held')
