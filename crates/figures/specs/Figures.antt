-- Known figures: of the mirror suite under any key with the empty header, of body calls, of one
-- entry, and of the yearly need.
use Rattle.std.specs.Prelude.{◌≡◌, ℕ, List, [], ◌∷◌, ◌++◌, length, replicate, None, Ok}
use Rattle.poet.specs.Seal.{Seals}
use Rattle.suites.specs.Mirror.{mirror}
use Rattle.script.specs.declared.played.Answer.{Answer}
use Rattle.script.specs.declared.played.Answer.TheVariants.{Body}
use Rattle.script.specs.declared.course.Stretch.{Stretch}
use Rattle.script.specs.Scripts.{held_of, body_check_of, body_answer, body_answers}
use Rattle.sheet.specs.Entries.{Item, Good, bytes}
use Rattle.listing.specs.Lines.{need}

-- A body call that is not refused, with so many bytes held from calls before it and so many
-- brought, gives so many and then holds so many.
abbrev pub BodyFigure : (held brought gives holds : ℕ) → Type 0
BodyFigure held brought gives holds =
    (n : ℕ) (s : Stretch) → held_of n ≡ held → length s.bytes.now ≡ brought
    → body_check_of n s ≡ None → body_answer n s ≡ Body (Ok (gives, holds))

-- so many bytes 00, brought by one call with room for 32
abbrev pub zeros : ℕ → Stretch
zeros n = record { bytes = record { ref_ptr = (0, 0); now = replicate n 0x00 }; room = 32 }

-- what the body calls of a new session answer that bring so many bytes 00
abbrev pub answers_to : List Stretch → List Answer
answers_to ss = body_answers [] ss

-- the entry with the code DOORSH01, the count 2 and no other field
abbrev pub doors : Item
doors = record {
  code = 0x44 ∷ 0x4F ∷ 0x4F ∷ 0x52 ∷ 0x53 ∷ 0x48 ∷ 0x30 ∷ 0x31 ∷ [];
  parent = None;
  count = 2;
  landing = None;
  months = None;
  drawing = None;
}

pub record Figures : Type 0 where
  -- the digest of the empty header
  pub digest : (key : List ℕ) → (mirror key).dig [] ≡ 0x01 ∷ replicate 14 0x00 ++ 0x81 ∷ []
  -- one byte, 41, sealed
  pub one_byte : (key : List ℕ)
      → Seals (mirror key) [] (0x41 ∷ []) (0x88 ∷ []) (replicate 13 0x00 ++ 0x01 ∷ 0xC8 ∷ 0x80 ∷ [])
  -- sixteen bytes 00, one whole block
  pub whole_block : (key : List ℕ)
      → Seals (mirror key) [] (replicate 16 0x00)
      (replicate 15 0x00 ++ 0x01 ∷ []) (0x80 ∷ replicate 14 0x00 ++ 0x80 ∷ [])
  -- seventeen bytes 00, one byte more
  pub two_blocks : (key : List ℕ)
      → Seals (mirror key) [] (replicate 17 0x00)
      (0x80 ∷ replicate 14 0x00 ++ 0x81 ∷ 0x88 ∷ []) (replicate 13 0x00 ++ 0x01 ∷ 0x88 ∷ 0x80 ∷ [])
  -- a body call with a first block, which nothing follows yet, and the first call of a session
  pub block_held : BodyFigure 0 16 0 16
  pub first_block : answers_to (zeros 16 ∷ []) ≡ Body (Ok (0, 16)) ∷ []
  -- one with the byte that follows it, and the second call of a session
  pub block_given : BodyFigure 16 1 16 1
  pub next_byte : answers_to (zeros 16 ∷ zeros 1 ∷ []) ≡ Body (Ok (0, 16)) ∷ Body (Ok (16, 1)) ∷ []
  -- one with two blocks behind a byte, and the second call of a session
  pub two_given : BodyFigure 1 32 32 1
  pub next_blocks : answers_to (zeros 1 ∷ zeros 32 ∷ []) ≡ Body (Ok (0, 1)) ∷ Body (Ok (32, 1)) ∷ []
  -- the entry: its fields have their forms, and its bytes
  pub entry_good : Good doors
  pub entry_bytes : bytes doors
      ≡ 0x00 ∷ 0x05 ∷ 0x44 ∷ 0x4F ∷ 0x4F ∷ 0x52 ∷ 0x53 ∷ 0x48 ∷ 0x30 ∷ 0x31 ∷ 0x00 ∷ 0x02 ∷ []
  -- the entry sealed
  pub entry_sealed : (key : List ℕ)
      → Seals (mirror key) [] (bytes doors)
      (0xE0 ∷ 0x00 ∷ 0x00 ∷ 0x01 ∷ 0x02 ∷ 0x00 ∷ 0x31 ∷ 0x30 ∷ 0x48 ∷ 0x53 ∷ 0x52 ∷ 0x4F ∷ [])
      (0x4F ∷ 0x44 ∷ 0x05 ∷ 0xE1 ∷ 0x80 ∷ replicate 11 0x00)
  -- the yearly need of one piece that is changed every 24 and every 25 months
  pub yearly_need : (need 1 24 ≡ 1) × (need 1 25 ≡ 0)
