-- One message sealed under a suite, opened again, and opened with a bit of the tag turned; and the
-- text that is written of it.
use Rattle.std.specs.Prelude.{◌≡◌, ℕ, ◌⊎◌, List, [], ◌∷◌, ◌++◌, length, replicate, slice_index}
use Rattle.std.specs.Prelude.{slice_set, bit_xor, codes, decimal, Ok, Err, Some, Option, Result}
use Rattle.std.specs.Io.KnownBytes.{Appends}
use Rattle.hex.specs.Hex.{encode_lower}
use Rattle.streams.specs.Streams.{WritesFront}
use Rattle.fault.specs.declared.kinds.SessionFault.{SessionFault}
use Rattle.fault.specs.declared.kinds.Placed.{Placed}
use Rattle.fault.specs.Numbers.{layer_of, number_of, shown_fault}
use Rattle.fault.specs.Refusals.{placed}
use Rattle.poet.specs.Functions.{Functions}
use Rattle.poet.specs.Seal.{Seals}
use Rattle.session.specs.Calls.{forged}
use Rattle.delivery.specs.Told.{suite_of}
use Rattle.roundtrip.specs.declared.trips.Opening.{Opening}
use Rattle.roundtrip.specs.declared.trips.Trip.{Trip}

-- what is sealed
abbrev pub key : List ℕ
key = replicate 16 42

abbrev pub label : List ℕ
label = codes "lift 7, parts sheet 1"

abbrev pub message : List ℕ
message = codes "two door rollers, one guide shoe"

-- the tag with its last bit turned
abbrev pub turned : List ℕ → List ℕ
turned T = slice_set T 15 (bit_xor (slice_index T 15) 1)

-- What opening C and T answers, and what is in its buffer then: the one message that seals so, or
-- the refusal of a forgery and zeros, where none does.
abbrev pub Opens : (f : Functions) (C T : List ℕ) → Opening → Type 0
Opens f C T o =
    ((o.answer ≡ Ok (length C)) × Seals f label o.buffer C T
    × ((M : List ℕ) → Seals f label M C T → M ≡ o.buffer))
    ⊎ ((o.answer ≡ Err (placed (forged (length C)))) × (o.buffer ≡ replicate (length C) 0)
    × ((M : List ℕ) → Seals f label M C T → ⊥))

-- The whole of it under the suite with the number n, whose functions are f.
pub record Tripped (f : Functions) (n : ℕ) (t : Trip) : Type 0 where
  pub suite : t.suite ≡ n
  pub sealed : t.sealed ≡ Ok (length message)
  pub seals : Seals f label message t.ciphertext t.tag
  pub opened : t.opened.answer ≡ Ok (length message)
  pub given : t.opened.buffer ≡ message
  pub other : Opens f t.ciphertext (turned t.tag) t.turned

-- the suite with the number n is listed, and this is what came of it
abbrev pub TrippedUnder : ℕ → Trip → Type 0
TrippedUnder n t =
    (under : List ℕ → Functions) × (suite_of n ≡ Some under) × Tripped (under key) n t

-- ## The text

-- a line, and what follows it
abbrev pub line : (text more : List ℕ) → List ℕ
line text more = text ++ 10 ∷ more

-- what a call answered: a word and the number of bytes, or the line of the refusal
abbrev pub answer_text : (word : List ℕ) → Result ℕ (Placed SessionFault) → List ℕ
answer_text word (Ok n) = word ++ (codes ": " ++ (decimal n ++ codes " bytes"))
answer_text word (Err f) = shown_fault (number_of f.fault) (layer_of f.fault) f.place

abbrev pub opening_text : Opening → List ℕ
opening_text o = line (answer_text (codes "opened") o.answer)
    (line (codes "buffer     " ++ encode_lower o.buffer) [])

abbrev pub trip_text : Trip → List ℕ
trip_text t = line (codes "suite " ++ decimal t.suite)
    (line (answer_text (codes "sealed") t.sealed)
    (line (codes "ciphertext " ++ encode_lower t.ciphertext)
    (line (codes "tag        " ++ encode_lower t.tag)
    (opening_text t.opened
    ++ line (codes "the tag's last bit turned") (opening_text t.turned)))))

-- The label, the message, and then the text of each suite.
abbrev pub text_of : (a b c d e f : Trip) → List ℕ
text_of a b c d e f = line (codes "label      " ++ encode_lower label)
    (line (codes "message    " ++ encode_lower message)
    (trip_text a ++ (trip_text b ++ (trip_text c
    ++ (trip_text d ++ (trip_text e ++ trip_text f))))))

-- P holds of the text of what came of it under each listed suite.
abbrev pub OfText : (P : List ℕ → Type 0) → Type 0
OfText P = (a : Trip) × (b : Trip) × (c : Trip) × (d : Trip) × (e : Trip) × (f : Trip)
    × TrippedUnder 1 a × TrippedUnder 2 b × TrippedUnder 3 c × TrippedUnder 4 d
    × TrippedUnder 5 e × TrippedUnder 6 f
    × P (text_of a b c d e f)

-- That text was written, and nothing else.
abbrev pub Ran : (held held' : Option (List ℕ)) → Type 0
Ran held held' = OfText (Appends held held')

-- Some first bytes of that text were written, or none, and nothing else.
abbrev pub RanInPart : (held held' : Option (List ℕ)) → Type 0
RanInPart held held' = OfText (WritesFront held held')
