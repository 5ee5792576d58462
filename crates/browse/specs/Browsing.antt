-- What is shown for a list of entries and what is asked of it, and for an input.
use Rattle.std.specs.Prelude.{◌≡◌, ℕ, ◌⊎◌, List, [], ◌∷◌, ◌++◌, codes, decimal}
use Rattle.std.specs.Prelude.{Some, None, Option, Result}
use Rattle.std.specs.Fmt.{signed_decimal}
use Rattle.std.specs.Option.{option_map}
use Rattle.fault.specs.declared.kinds.ConsoleFault.{ConsoleFault}
use Rattle.fault.specs.declared.kinds.Placed.{Placed}
use Rattle.sheet.specs.declared.entry.Kind.{Kind}
use Rattle.sheet.specs.declared.entry.Kind.TheVariants as kind
use Rattle.sheet.specs.Entries.{Item}
use Rattle.listing.specs.Lines.{line_of}
use Rattle.reading.specs.declared.script.Ask.{Ask}
use Rattle.reading.specs.declared.script.Ask.TheVariants.{Next, Field}
use Rattle.report.specs.Report.{Delivers, DeliversOnly, RefusedInput}
use Rattle.report.specs.Runs.{RanBy}
use Rattle.browse.specs.Shown.{a_line, refusal_text}

-- a field of an entry as text, if the entry has it
abbrev pub part_text : Kind → Item → Option (List ℕ)
part_text kind.Code e = Some e.code
part_text kind.Parent e = e.parent
part_text kind.Count e = Some (decimal e.count)
part_text kind.Landing e = option_map signed_decimal e.landing
part_text kind.Months e = option_map decimal e.months
part_text kind.Drawing e = e.drawing

-- a text, or that there is none
abbrev pub or_absent : Option (List ℕ) → List ℕ
or_absent None = codes "absent"
or_absent (Some text) = text

-- a field of the entry last answered; absent also where none was answered
abbrev pub part_of_last : Kind → Option Item → List ℕ
part_of_last k None = codes "absent"
part_of_last k (Some e) = or_absent (part_text k e)

-- What is shown for what is asked, where the entries es follow the one last answered: for `next`
-- the line of the following entry, or the end where none is left; for a field, that of the entry
-- last answered.
abbrev pub shown_behind : (last : Option Item) → List Item → List Ask → List ℕ
shown_behind last es [] = []
shown_behind last [] (Next ∷ qs) = a_line (codes "end") ++ shown_behind last [] qs
shown_behind last (e ∷ es) (Next ∷ qs) = line_of e ++ shown_behind (Some e) es qs
shown_behind last es (Field k ∷ qs) = a_line (part_of_last k last) ++ shown_behind last es qs

-- The text shown for an input: for what is asked of the list that it delivers, from its first entry
-- on, or the line of its refusal where it delivers none.
abbrev pub Browsed : (input : List ℕ) → List Ask → (text : List ℕ) → Type 0
Browsed input asks text =
    ((es : List Item) × DeliversOnly input es × (text ≡ shown_behind None es asks))
    ⊎ ((f : Placed ConsoleFault) × ((es : List Item) → Delivers input es → ⊥)
    × RefusedInput input f × (text ≡ refusal_text f))

-- A run: that text was written for the input that was read, or a front of it at a failure.
abbrev pub Ran : {E : Type 0} (asks : List Ask) (left left' held held' : Option (List ℕ))
    → Result (Unit {0}) E → Type 0
Ran asks left left' held held' r =
    RanBy (λ input text. Browsed input asks text) left left' held held' r
