-- An entry as a line of text, its yearly need, and what the calls that write the line do.
use Rattle.std.specs.Prelude.{◌≡◌, ℕ, ◌+◌, ◌*◌, ◌/◌, ◌<◌, ◌≤◌, List, [], ◌∷◌, ◌++◌, length}
use Rattle.std.specs.Prelude.{Some, None, decimal, Option, Result}
use Rattle.std.specs.Option.{option_map}
use Rattle.std.specs.Fmt.{signed_decimal}
use Rattle.fault.specs.declared.kinds.SheetFault.{SheetFault}
use Rattle.fault.specs.declared.kinds.Placed.{Placed}
use Rattle.listing.specs.declared.lines.TheConstants.{LINE_LIMIT}
use Rattle.sheet.specs.Entries.{Item, Good, Held, text}
use Rattle.sheet.specs.Calls.{WroteAs}

-- n is a / b to the nearest whole number, the upper one at a half: n - 1/2 ≤ a / b < n + 1/2
pub record Nearest (a b n : ℕ) : Type 0 where
  pub not_above : 2 * (b * n) ≤ 2 * a + b
  pub not_below : 2 * a < 2 * (b * n) + b

-- the yearly need of a part that is changed, `count` pieces at a time, every so many months
abbrev pub need : (count months : ℕ) → ℕ
need c m = (24 * c + m) / (2 * m)

abbrev pub need_of : Item → Option ℕ
need_of e = option_map (need e.count) e.months

-- what asking for the yearly need answers: nothing exactly without months
abbrev pub Needed : (count months : ℕ) → Option ℕ → Type 0
Needed c m None = m ≡ 0
Needed c m (Some n) = (0 < m) × (n ≡ need c m) × Nearest (12 * c) m n

-- an absent field is a dash
abbrev pub shown : {A : Type 0} → (A → List ℕ) → Option A → List ℕ
shown w None = 45 ∷ []
shown w (Some a) = w a

-- code, parent, count, landing, months, yearly need and drawing, semicolons between them and a line
-- feed at the end
abbrev pub line_of : Item → List ℕ
line_of e = e.code
    ++ (59 ∷ (shown text e.parent
    ++ (59 ∷ (decimal e.count
    ++ (59 ∷ (shown signed_decimal e.landing
    ++ (59 ∷ (shown decimal e.months
    ++ (59 ∷ (shown decimal (need_of e)
    ++ (59 ∷ (shown text e.drawing
    ++ (10 ∷ [])))))))))))))

-- Writing the line of the entry e into the buffer `old` at a place, as an entry is written: the
-- answer is where the next would begin, and values are tested before room.
abbrev pub Lined : (old new : List ℕ) (at : ℕ) (e : Item) → Result ℕ (Placed SheetFault) → Type 0
Lined old new at e r = WroteAs old new at e (line_of e) r

-- The line of a good entry has at most so many bytes, and its yearly need is the nearest whole
-- number.
abbrev pub LineLaw : Type 0
LineLaw = (e : Item) → Good e
    → (length (line_of e) ≤ LINE_LIMIT)
    × Held (λ m. Nearest (12 * e.count) m (need e.count m)) e.months

-- only one number is the nearest
abbrev pub NearestLaw : Type 0
NearestLaw = (a b n k : ℕ) → 0 < b → Nearest a b n → Nearest a b k → n ≡ k
