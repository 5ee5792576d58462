-- What a session holds after a run, and what each of its calls does.
use Rattle.std.specs.Prelude.{◌≡◌, ℕ, ◌+◌, ◌-◌, ◌*◌, ◌/◌, ◌≤◌, List, [], ◌++◌, length, drop}
use Rattle.std.specs.Prelude.{◌<◌, ◌↔◌, ◌⊎◌, if◌then◌else◌, ◌==◌, nat_lt, Some, None, Option}
use Rattle.fault.specs.declared.kinds.Layer.TheVariants.{Session as SessionLayer}
use Rattle.fault.specs.declared.kinds.SessionFault.{SessionFault}
use Rattle.fault.specs.declared.kinds.SessionFault.TheVariants.{Header, Body, Room, Empty}
use Rattle.fault.specs.Refusals.{Refusal, refusal}
use Rattle.block.specs.Bytes.{Bytes, Block}
use Rattle.poet.specs.Functions.{Functions}
use Rattle.poet.specs.Seal.{header_most, body_most}
use Rattle.poet.specs.Rows.{State, rows, whole, start}
use Rattle.suite.specs.declared.Suite as suite
use Rattle.suite.specs.declared.Permutation as permutation
use Rattle.suite.specs.declared.ChainingHash as hash
use Rattle.suite.specs.declared.HeaderDigest as digest
use Rattle.session.specs.declared.heading.Heading.{Heading}
use Rattle.session.specs.declared.rows.Way as way
use Rattle.session.specs.declared.body.Session.{Session}
use Rattle.session.specs.Engines.{EngineAt}
use Rattle.session.specs.Calls.{tag_check}
use Rattle.session.specs.Directions.{Direction, picks, turns}
use Rattle.session.specs.Runs.{Run}

-- what a run can have taken
pub record Taken (R : Run) : Type 0 where
  pub key_block : Block R.key
  pub header_bytes : Bytes R.header
  pub header_most : length R.header ≤ header_most
  pub body_bytes : Bytes R.body

-- s is a heading after the run R
pub record HeadingAt {A B C D : Type 0} {u : suite.Ghosts A B C D} {p : permutation.Ghosts B}
    {h : hash.Ghosts C} {d : digest.Ghosts D} (R : Run) (s : Heading A B C D u p h d) : Type 0 where
  pub taken : Taken R
  pub no_body : R.body ≡ []
  pub no_out : R.out ≡ []
  pub enc_is : p.enc s.permutation ≡ (u.under R.key).enc
  pub dec_is : p.dec s.permutation ≡ (u.under R.key).dec
  pub chain_is : h.chain s.hash ≡ (u.under R.key).chain
  pub rule_is : (r : List ℕ) → d.rule s.digest r ≡ (u.under R.key).dig (R.header ++ r)
  pub count_is : s.count ≡ length R.header

-- the rows of a run
abbrev pub rows_of : (w : Direction) (f : Functions) → Run → State
rows_of w f R = rows (picks w f.enc f.dec) f.chain (whole R.body)
    (turns w (start f R.header)) R.body

-- s is a session after the run R
pub record SessionAt {A W B C D : Type 0} {u : suite.Ghosts A B C D} {p : permutation.Ghosts B}
    {h : hash.Ghosts C} {d : digest.Ghosts D} {w : way.Ghosts W} (R : Run)
    (s : Session A W B C D u p h d w) : Type 0 where
  pub taken : Taken R
  pub engine : EngineAt p h (u.under R.key) R.header s.engine
  pub x_is : s.lanes.taking ≡ (rows_of w.way (u.under R.key) R).x
  pub y_is : s.lanes.giving ≡ (rows_of w.way (u.under R.key) R).y
  pub out_is : R.out ≡ (rows_of w.way (u.under R.key) R).out
  pub held_is : s.held ≡ drop (16 * whole R.body) R.body
  pub total_is : s.total ≡ length R.body

-- A header call brings `more` bytes to `taken`.
abbrev pub header_check : (taken more : ℕ) → Option (Refusal SessionFault)
header_check taken more =
    if nat_lt header_most (taken + more) then Some (refusal Header 4 SessionLayer taken)
    else None

-- With t the bytes held and brought, a body call writes every whole block that at least one byte
-- follows.
abbrev pub writes : ℕ → ℕ
writes t = 16 * ((t - 1) / 16)

-- So k blocks and more are written exactly if a byte follows k blocks ...
abbrev pub WritesLaw : Type 0
WritesLaw = (t k : ℕ) → (16 * k ≤ writes t) ↔ ((k ≡ 0) ⊎ (16 * k < t))

-- ... and of one byte or more, 1 to 16 are held back.
abbrev pub HoldsLaw : Type 0
HoldsLaw = (t : ℕ) → 0 < t → (1 ≤ t - writes t) × (t - writes t ≤ 16)

-- A body call brings `more` bytes, to those taken and those held.
abbrev pub body_check : (taken held more room : ℕ) → Option (Refusal SessionFault)
body_check taken held more room =
    if nat_lt body_most (taken + more) then Some (refusal Body 5 SessionLayer taken)
    else if nat_lt room (writes (held + more)) then Some (refusal Room 6 SessionLayer taken)
    else None

-- what it answers
abbrev pub given_of : ℕ → ℕ × ℕ
given_of t = (writes t, t - writes t)

-- the bytes held back
abbrev pub held : Run → ℕ
held R = length R.body - length R.out

-- A finish is refused where no body was taken; the check `next` comes after this.
abbrev pub finish_check : Run → Option (Refusal SessionFault) → Option (Refusal SessionFault)
finish_check R next = if length R.body == 0 then Some (refusal Empty 7 SessionLayer 0) else next

abbrev pub sealing_check : Run → Option (Refusal SessionFault)
sealing_check R = finish_check R None

-- an opening's also where the tag has not sixteen bytes
abbrev pub opening_check : Run → (T : List ℕ) → Option (Refusal SessionFault)
opening_check R T = finish_check R (tag_check T (length R.body))
