-- From a parsed delivery and the playing of calls to the text that is shown for the input.
use Rattle.std.proofs.Common.{◌≡◌, ℕ, ◌≤◌, List, length, None, Ok, Err, IfOk, Option, Result, refl, subst, inl, inr}
use Rattle.std.specs.Io.KnownBytes.{Appends}
use Rattle.fault.specs.declared.kinds.SheetFault.{SheetFault}
use Rattle.fault.specs.declared.kinds.ConsoleFault.{ConsoleFault}
use Rattle.fault.specs.declared.kinds.ConsoleFault.TheVariants.{Sheet}
use Rattle.fault.specs.declared.kinds.Placed.{Placed}
use Rattle.fault.specs.Refusals.{HandedOn, sheet_faults, console_faults}
use Rattle.sheet.specs.Entries.{Item}
use Rattle.delivery.proofs.Opening.{SheetOf}
use Rattle.wire.specs.declared.parsing.Delivery.{Delivery}
use Rattle.streams.specs.Streams.{ReadsUpTo, WritesFront, Wrote}
use Rattle.wire.specs.Wire.{Parts, parts_of, Parsed, ciphertext_limit, input_limit}
use Rattle.reading.specs.declared.script.Call.{Call}
use Rattle.reading.specs.Replies.{AllAnswered, asks_of, replies_of}
use Rattle.reading.specs.Deliveries.{Holds}
use Rattle.report.specs.Report.{Delivers}
use Rattle.report.proofs.Delivering.{delivered, malformed_input, refused}
use Rattle.browse.specs.Shown.{refusal_text, replies_text}
use Rattle.browse.specs.Browsing.{Browsed, Ran}
use Rattle.browse.proofs.Showing.{shown_is}
use Rattle.reading.specs.declared.script.Ask.{Ask}

-- an input that is no delivery
pub no_delivery : (input : List ℕ) (asks : List Ask) (f : Placed ConsoleFault) → Parsed input (Err f) → Browsed input asks (refusal_text f)
no_delivery input asks f parsed = let j = malformed_input input input f parsed in inr (f, j.0, j.1, refl)

module _ (input : List ℕ) (d : Delivery) (parsed : Parsed input (Ok d)) (o o' : List ℕ) (r : Result ℕ (Placed SheetFault)) (s : SheetOf (parts_of d) o o' r) where
  -- a refused sheet
  pub no_sheet : ciphertext_limit ≤ length o → (asks : List Ask) (e : Placed SheetFault) → r ≡ Err e → (f : Placed ConsoleFault) → HandedOn sheet_faults console_faults Sheet e f → Browsed input asks (refusal_text f)
  no_sheet room asks e is f h = let j = refused input d parsed o o' room e (Err f) h (subst (SheetOf (parts_of d) o o') is s) in inr (f, j.0, j.1, refl)

  -- a list that the input delivers is that of the parsed parts
  holds : (es : List Item) → Delivers input es → Holds (parts_of d) es
  holds es D = subst (λ (p : Parts). Holds p es) (parsed.2 D.parts D.limits D.is) (record { under = D.under; listed = D.listed; list = D.list })

  -- an accepted sheet, with the replies to the calls
  pub played : (k : ℕ) → r ≡ Ok k → (b : ℕ × ℕ) (cs cs' : List Call) → IfOk r (λ n. (es : List Item) → Holds (parts_of d) es → AllAnswered b es cs cs') → Browsed input (asks_of cs) (replies_text (replies_of cs'))
  played k is b cs cs' answered =
      let p = parts_of d in
      let (es, only, good, front) = delivered input d parsed o o' k (subst (SheetOf p o o') is s) in
      let all = subst (λ (x : Result ℕ (Placed SheetFault)). IfOk x (λ n. (fs : List Item) → Holds p fs → AllAnswered b fs cs cs')) is answered es (holds es only.delivers) in
      inl (es, only, shown_is (asks_of cs) (replies_of cs') b 0 None es all.each)

-- the text of an input that was read, written as far as the writer took it
pub ran : {E : Type 0} (asks : List Ask) (left left' held held' : Option (List ℕ)) (input text written : List ℕ) (r : Result (Unit {0}) E) → ReadsUpTo input_limit left left' input → Browsed input asks text → written ≡ text → Wrote held held' written r
    → Ran asks left left' held held' r
ran asks left left' held held' input text written (Ok x) reads b e w = (input, text, reads, b, subst (Appends held held') e w)
ran asks left left' held held' input text written (Err x) reads b e w = inl (input, text, reads, b, subst (WritesFront held held') e w)
