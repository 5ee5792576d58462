-- What a line of a written session says, or which rule it breaks.
use Rattle.std.specs.Prelude.{◌≡◌, ℕ, ◌^◌, ◌==◌, ◌&&◌, nat_lt, Bool, if◌then◌else◌, List, [], ◌∷◌}
use Rattle.std.specs.Prelude.{length, codes, vec_items, Some, None, Ok, Err, Option, Result}
use Rattle.std.specs.List.{before_first, after_first}
use Rattle.std.specs.Str.{all_ascii_digits, bytes_eq}
use Rattle.std.specs.Str.Parse.{digits_value, without_leading_plus}
use Rattle.hex.specs.Hex.{decode_of}
use Rattle.hex.specs.declared.error.FromHexError.{FromHexError}
use Rattle.replay.specs.declared.lines.Line.{Line}
use Rattle.replay.specs.declared.lines.Line.TheVariants as line
use Rattle.replay.specs.declared.lines.Piece.{Piece}
use Rattle.replay.specs.declared.lines.Rule.{Rule}
use Rattle.replay.specs.declared.lines.Rule.TheVariants as rule
use Rattle.replay.specs.declared.lines.Unread.{Unread}
use Rattle.replay.specs.declared.lines.Unread.TheVariants as unread

-- The bytes that a body call brings, and the room in bytes that it offers.
pub record Brought : Type 0 where
  pub bytes : List ℕ
  pub room : ℕ

-- What a line says.
pub data Said : Type 0 where
  SuiteIs : ℕ → Said
  KeyIs : List ℕ → Said
  HeaderCall : List ℕ → Said
  SealStart : Said
  OpenStart : Said
  BodyCall : Brought → Said
  FinishCall : List ℕ → Said

-- A step, and then another if the first did not fail.
infixl 10 ◌>>=◌
abbrev pub ◌>>=◌ : {A B E : Type 0} → Result A E → (A → Result B E) → Result B E
Ok x >>= f = f x
Err e >>= f = Err e

-- the text before the first space, and what follows that space
abbrev pub word_of : List ℕ → List ℕ
word_of text = before_first (λ c. c == 32) text

abbrev pub rest_of : List ℕ → List ℕ
rest_of text = after_first (λ c. c == 32) text

-- one decimal digit or more
abbrev pub are_digits : List ℕ → Bool
are_digits text = nat_lt 0 (length text) && all_ascii_digits text

-- a decimal number below the limit; a plus may stand before it
abbrev pub number_below : (limit : ℕ) → List ℕ → Option ℕ
number_below limit text =
    if are_digits (without_leading_plus text)
    && nat_lt (digits_value 10 (without_leading_plus text)) limit
    then Some (digits_value 10 (without_leading_plus text)) else None

-- the value that there is; or else this rule is broken
abbrev pub or_breaks : {A : Type 0} → Option A → Rule → Result A Rule
or_breaks None r = Err r
or_breaks (Some x) r = Ok x

-- bytes as pairs of hexadecimal digits
abbrev pub decoded : Result (List ℕ) FromHexError → Result (List ℕ) Rule
decoded (Ok bytes) = Ok bytes
decoded (Err e) = Err rule.Digits

abbrev pub bytes_of : List ℕ → Result (List ℕ) Rule
bytes_of text = decoded (decode_of text)

-- the number of a suite, a byte; and the room of a body call, in bytes
abbrev pub suite_said : List ℕ → Result Said Rule
suite_said text = or_breaks (number_below (2 ^ 8) text) rule.Suite >>= (λ n. Ok (SuiteIs n))

abbrev pub room_of : List ℕ → Result ℕ Rule
room_of text = or_breaks (number_below (2 ^ 32) text) rule.Room

-- what a word that takes nothing says
abbrev pub alone : (rest : List ℕ) → Said → Result Said Rule
alone [] s = Ok s
alone (c ∷ cs) s = Err rule.Alone

-- what follows the word `body`: the room, and then the bytes
abbrev pub brought : (rest : List ℕ) → Result Brought Rule
brought rest = do
  room ← room_of (word_of rest)
  bytes ← bytes_of (rest_of rest)
  Ok (record { bytes = bytes; room = room })

-- What a line says, by its word.
abbrev pub said : (word rest : List ℕ) → Result Said Rule
said word rest =
    if bytes_eq word (codes "suite") then suite_said rest
    else if bytes_eq word (codes "key") then bytes_of rest >>= (λ bytes. Ok (KeyIs bytes))
    else if bytes_eq word (codes "header") then bytes_of rest >>= (λ bytes. Ok (HeaderCall bytes))
    else if bytes_eq word (codes "seal") then alone rest SealStart
    else if bytes_eq word (codes "open") then alone rest OpenStart
    else if bytes_eq word (codes "body") then brought rest >>= (λ b. Ok (BodyCall b))
    else if bytes_eq word (codes "finish") then bytes_of rest >>= (λ bytes. Ok (FinishCall bytes))
    else Err rule.Word

abbrev pub said_by : List ℕ → Result Said Rule
said_by text = said (word_of text) (rest_of text)

-- ## What the program's types hold

abbrev pub brought_in : Piece → Brought
brought_in p = record { bytes = vec_items p.bytes; room = p.room }

abbrev pub said_in : Line → Said
said_in (line.Suite n) = SuiteIs n
said_in (line.Key bytes) = KeyIs (vec_items bytes)
said_in (line.Header bytes) = HeaderCall (vec_items bytes)
said_in line.Seal = SealStart
said_in line.Open = OpenStart
said_in (line.Body piece) = BodyCall (brought_in piece)
said_in (line.Finish bytes) = FinishCall (vec_items bytes)

-- A function answered, seen by `view`, what the text says, or the rule that it breaks; or memory
-- ran out.
abbrev pub Reads : {X Y : Type 0} → (view : X → Y) → Result X Unread → Result Y Rule → Type 0
Reads view (Ok x) says = says ≡ Ok (view x)
Reads view (Err (unread.Broken r)) says = says ≡ Err r
Reads view (Err unread.Memory) says = Unit {0}
