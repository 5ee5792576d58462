-- From the replies of a reader to the text that is shown for what was asked.
use Rattle.std.proofs.Common.{◌≡◌, ℕ, ◌+◌, List, [], ◌∷◌, ◌++◌, length, codes, decimal, Some, None, Bor, Option, refl, ap, ◌∙◌}
use Rattle.std.specs.Fmt.{signed_decimal}
use Rattle.std.specs.Option.{option_map}
use Rattle.sheet.specs.declared.entry.Field.{Field}
use Rattle.sheet.specs.declared.entry.Field.TheVariants as part
use Rattle.sheet.specs.declared.entry.Kind.{Kind}
use Rattle.sheet.specs.declared.entry.Kind.TheVariants as kind
use Rattle.sheet.specs.Entries.{Item, Lent, bytes, held, item_of}
use Rattle.sheet.specs.Calls.{field_of, last_field}
use Rattle.listing.specs.Lines.{line_of}
use Rattle.reading.specs.declared.script.Ask.{Ask}
use Rattle.reading.specs.declared.script.Ask.TheVariants as ask
use Rattle.reading.specs.declared.script.Reply.{Reply}
use Rattle.reading.specs.declared.script.Reply.TheVariants as reply
use Rattle.reading.specs.Replies.{Answered}
use Rattle.browse.specs.Shown.{a_line, field_text, replies_text, reply_text}
use Rattle.browse.specs.Browsing.{or_absent, part_of_last, part_text, shown_behind}

-- a field that may be left out
module _ {A : Type 0} (c : A → Field (Bor (List ℕ))) (t : A → List ℕ) (same : (a : A) → field_text (c a) ≡ t a) where
  optional : (o : Option A) → reply_text (reply.Field (option_map c o)) ≡ a_line (or_absent (option_map t o))
  optional None = refl
  optional (Some a) = ap a_line (same a)

of_entry : (k : Kind) (e : Lent) → reply_text (reply.Field (field_of k e)) ≡ a_line (or_absent (part_text k (item_of e)))
of_entry kind.Code e = refl
of_entry kind.Parent e = optional part.Parent (λ s. s.now) (λ s. refl) e.parent
of_entry kind.Count e = refl
of_entry kind.Landing e = optional part.Landing signed_decimal (λ z. refl) e.landing
of_entry kind.Months e = optional part.Months decimal (λ n. refl) e.months
of_entry kind.Drawing e = optional part.Drawing (λ s. s.now) (λ s. refl) e.drawing

of_last : (k : Kind) (last : Option Lent) → reply_text (reply.Field (last_field k last)) ≡ a_line (part_of_last k (option_map item_of last))
of_last k None = refl
of_last k (Some e) = of_entry k e

-- the replies to field calls, and those behind
field_first : (k : Kind) (last : Option Lent) (r : Option Reply) (rs : List (Option Reply)) (text : List ℕ) → r ≡ Some (reply.Field (last_field k last)) → replies_text rs ≡ text
    → replies_text (r ∷ rs) ≡ a_line (part_of_last k (option_map item_of last)) ++ text
field_first k last r rs text first rest =
    ap (λ (x : Option Reply). held reply_text x ++ replies_text rs) first ∙ ap (λ (x : List ℕ). x ++ replies_text rs) (of_last k last) ∙ ap (λ (x : List ℕ). a_line (part_of_last k (option_map item_of last)) ++ x) rest

pub shown_is : (qs : List Ask) (rs : List (Option Reply)) (b : ℕ × ℕ) (p : ℕ) (last : Option Lent) (es : List Item) → Answered b p last es qs rs → replies_text rs ≡ shown_behind (option_map item_of last) es qs
shown_is [] [] b p last [] h = refl
shown_is [] [] b p last (e ∷ es) h = refl
shown_is (ask.Next ∷ qs) (r ∷ rs) b p last [] h =
    ap (λ (x : Option Reply). held reply_text x ++ replies_text rs) h.0 ∙ ap (λ (x : List ℕ). a_line (codes "end") ++ x) (shown_is qs rs b p last [] h.1)
shown_is (ask.Next ∷ qs) (r ∷ rs) b p last (e ∷ es) h =
    ap (λ (x : Option Reply). held reply_text x ++ replies_text rs) h.1 ∙ ap (λ (x : List ℕ). line_of (item_of h.0) ++ x) (shown_is qs rs b (p + length (bytes e)) (Some h.0) es h.4)
    ∙ ap (λ (i : Item). line_of i ++ shown_behind (Some i) es qs) h.2
shown_is (ask.Field k ∷ qs) (r ∷ rs) b p last [] h = field_first k last r rs _ h.0 (shown_is qs rs b p last [] h.1)
shown_is (ask.Field k ∷ qs) (r ∷ rs) b p last (e ∷ es) h = field_first k last r rs _ h.0 (shown_is qs rs b p last (e ∷ es) h.1)
shown_is [] (r ∷ rs) b p last es h = absurd h
shown_is (q ∷ qs) [] b p last es h = absurd h
