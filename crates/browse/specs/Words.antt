-- The words that stand for calls on a reader.
use Rattle.std.specs.Prelude.{ℕ, List, codes}
use Rattle.sheet.specs.declared.entry.Kind.TheVariants.{Code, Parent, Count}
use Rattle.sheet.specs.declared.entry.Kind.TheVariants.{Landing, Months, Drawing}
use Rattle.reading.specs.declared.script.Ask.{Ask}
use Rattle.reading.specs.declared.script.Ask.TheVariants.{Next, Field}

abbrev pub word_of : Ask → List ℕ
word_of Next = codes "next"
word_of (Field Code) = codes "code"
word_of (Field Parent) = codes "parent"
word_of (Field Count) = codes "count"
word_of (Field Landing) = codes "landing"
word_of (Field Months) = codes "months"
word_of (Field Drawing) = codes "drawing"
