-- The text that is shown for a reply, for replies, and for a refusal.
use Rattle.std.specs.Prelude.{ℕ, List, [], ◌∷◌, ◌++◌, codes, decimal, Some, None, Ok, Err, Option}
use Rattle.std.specs.Borrow.{Bor}
use Rattle.std.specs.Fmt.{signed_decimal}
use Rattle.std.specs.List.{flat_map}
use Rattle.fault.specs.declared.kinds.ConsoleFault.{ConsoleFault}
use Rattle.fault.specs.declared.kinds.Placed.{Placed}
use Rattle.fault.specs.Numbers.{console_layer, console_number, sheet_number, shown_fault}
use Rattle.sheet.specs.declared.entry.Field.{Field}
use Rattle.sheet.specs.declared.entry.Field.TheVariants as part
use Rattle.sheet.specs.Entries.{held, item_of}
use Rattle.listing.specs.Lines.{line_of}
use Rattle.reading.specs.declared.script.Reply.{Reply}
use Rattle.reading.specs.declared.script.Reply.TheVariants as reply

-- a text, and a line feed
abbrev pub a_line : List ℕ → List ℕ
a_line text = text ++ (10 ∷ [])

abbrev pub field_text : Field (Bor (List ℕ)) → List ℕ
field_text (part.Code s) = s.now
field_text (part.Parent s) = s.now
field_text (part.Count n) = decimal n
field_text (part.Landing z) = signed_decimal z
field_text (part.Months n) = decimal n
field_text (part.Drawing s) = s.now

-- An entry is shown as its line of the list.
abbrev pub reply_text : Reply → List ℕ
reply_text (reply.Next (Ok (Some e))) = line_of (item_of e)
reply_text (reply.Next (Ok None)) = a_line (codes "end")
reply_text (reply.Next (Err f)) = a_line (codes "refused " ++ decimal (sheet_number f.fault))
reply_text (reply.Field None) = a_line (codes "absent")
reply_text (reply.Field (Some f)) = a_line (field_text f)

-- one after another; a call that was not answered shows nothing
abbrev pub replies_text : List (Option Reply) → List ℕ
replies_text rs = flat_map (held reply_text) rs

-- the line of a refusal: its number, layer and place
abbrev pub refusal_text : Placed ConsoleFault → List ℕ
refusal_text f = a_line (shown_fault (console_number f.fault) (console_layer f.fault) f.place)
