-- A run of a program, from what a reader has left to what a writer holds.
use Rattle.std.specs.Prelude.{ℕ, List, Ok, Err, Option, Result, ◌⊎◌}
use Rattle.std.specs.Io.KnownBytes.{Appends, Consumes, Keeps}
use Rattle.streams.specs.Streams.{ReadsUpTo, WritesFront}
use Rattle.wire.specs.Wire.{input_limit}
use Rattle.report.specs.Report.{Printed}

-- The input was read, as far as one byte past the longest delivery, and its text by the relation P
-- was written. A run that failed wrote a front of the text for the input that it read; or it failed
-- at reading, and wrote nothing.
abbrev pub RanBy : {E : Type 0} (P : (input text : List ℕ) → Type 0)
    (left left' held held' : Option (List ℕ)) → Result (Unit {0}) E → Type 0
RanBy P left left' held held' (Ok x) =
    (input text : List ℕ) × ReadsUpTo input_limit left left' input
    × P input text × Appends held held' text
RanBy P left left' held held' (Err e) =
    ((input text : List ℕ) × ReadsUpTo input_limit left left' input
    × P input text × WritesFront held held' text)
    ⊎ ((input : List ℕ) × Consumes left left' input × Keeps held held')

-- What is printed for the input was written so.
abbrev pub Ran : {E : Type 0} (left left' held held' : Option (List ℕ))
    → Result (Unit {0}) E → Type 0
Ran left left' held held' r = RanBy Printed left left' held held' r
