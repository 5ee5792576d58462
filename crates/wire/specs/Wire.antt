-- A delivery as bytes: its parts, their limits and their order, and what parsing answers.
use Rattle.std.specs.Prelude.{◌≡◌, ◌≢◌, ℕ, ◌/◌, ◌%◌, ◌≤◌, min, List, [], ◌∷◌, ◌++◌, length}
use Rattle.std.specs.Prelude.{Some, None, Ok, Err, Option, Result}
use Rattle.std.specs.Borrow.{Bor}
use Rattle.fault.specs.declared.kinds.ConsoleFault.{ConsoleFault}
use Rattle.fault.specs.declared.kinds.ConsoleFault.TheVariants.{Input}
use Rattle.fault.specs.declared.kinds.Layer.TheVariants.{Console as ConsoleLayer}
use Rattle.fault.specs.declared.kinds.Placed.{Placed}
use Rattle.fault.specs.Refusals.{Refusal, refusal, IsRefusal, console_faults}
use Rattle.wire.specs.declared.parsing.Delivery.{Delivery}

-- the parts of a delivery
pub record Parts : Type 0 where
  pub suite : ℕ
  pub key : List ℕ
  pub header : List ℕ
  pub ciphertext : List ℕ
  pub tag : List ℕ

-- how many bytes a header may have
abbrev pub header_limit : ℕ
header_limit = 4096

-- how many bytes a ciphertext may have
abbrev pub ciphertext_limit : ℕ
ciphertext_limit = 16384

-- one byte more than the longest delivery has
abbrev pub input_limit : ℕ
input_limit = 20520

-- how long each part may be
pub record Limits (p : Parts) : Type 0 where
  pub key_long : length p.key ≡ 16
  pub header_most : length p.header ≤ header_limit
  pub ciphertext_most : length p.ciphertext ≤ ciphertext_limit
  pub tag_long : length p.tag ≡ 16

-- a number in two and in four bytes, big-endian
abbrev pub two : ℕ → List ℕ
two n = (n / 256 % 256) ∷ (n % 256) ∷ []

abbrev pub four : ℕ → List ℕ
four n = (n / 16777216 % 256) ∷ (n / 65536 % 256) ∷ (n / 256 % 256) ∷ (n % 256) ∷ []

-- the bytes of a delivery
abbrev pub wire : Parts → List ℕ
wire p =
    p.suite
    ∷ (p.key
    ++ (two (length p.header)
    ++ (p.header
    ++ (four (length p.ciphertext)
    ++ (p.ciphertext
    ++ p.tag)))))

-- the refusal of n bytes that are no delivery
abbrev pub malformed : ℕ → Refusal ConsoleFault
malformed n = refusal Input 1 ConsoleLayer (min n input_limit)

-- what the slices of a parsed delivery hold
abbrev pub parts_of : Delivery → Parts
parts_of d = record {
  suite = d.suite;
  key = d.key.now;
  header = d.header.now;
  ciphertext = d.ciphertext.now;
  tag = d.tag.now;
}

-- what parsing answers: the one delivery with these bytes, or a refusal where there is none
abbrev pub Parsed : List ℕ → Result Delivery (Placed ConsoleFault) → Type 0
Parsed input (Ok d) =
    Limits (parts_of d) × (wire (parts_of d) ≡ input)
    × ((p : Parts) → Limits p → wire p ≡ input → p ≡ parts_of d)
Parsed input (Err e) =
    IsRefusal console_faults (malformed (length input)) e
    × ((p : Parts) → Limits p → wire p ≢ input)

-- The same, before a refusal has its place. No contract of a public function cites it.
abbrev pub Found : List ℕ → Option Delivery → Type 0
Found input (Some d) = Limits (parts_of d) × (wire (parts_of d) ≡ input)
Found input None = (p : Parts) → Limits p → wire p ≢ input

-- What a cut at the front answers: a piece of which P holds, and which w writes as bytes, and the
-- rest; or that there is none. No contract of a public function cites it, or what follows.
abbrev pub Taken : (P : List ℕ → Type 0) (w : List ℕ → List ℕ) (input : List ℕ)
    → Option (Bor (List ℕ) × Bor (List ℕ)) → Type 0
Taken P w input (Some x) = P x.0.now × (w x.0.now ++ x.1.now ≡ input)
Taken P w input None = (s rest : List ℕ) → P s → w s ++ rest ≢ input

-- a piece with its length ahead
abbrev pub two_ahead : List ℕ → List ℕ
two_ahead s = two (length s) ++ s

abbrev pub four_ahead : List ℕ → List ℕ
four_ahead s = four (length s) ++ s
