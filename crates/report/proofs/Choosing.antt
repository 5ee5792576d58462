-- One input has one text.
use Rattle.std.proofs.Common.{◌≡◌, ℕ, ◌<◌, List, [], ◌∷◌, length, Some, None, Ok, Err, Result, sym, ap, ◌∙◌, subst, inl, inr, arith}
use Rattle.std.specs.Option.{option_map}
use Rattle.std.specs.Result.{result_ok}
use Rattle.std.proofs.lemmas.List.Elements.{All-get_or, All-from_get_or}
use Rattle.fault.specs.declared.kinds.KeyFault.{KeyFault}
use Rattle.fault.specs.declared.kinds.SheetFault.{SheetFault}
use Rattle.fault.specs.declared.kinds.ConsoleFault.{ConsoleFault}
use Rattle.fault.specs.declared.kinds.Placed.{Placed}
use Rattle.block.specs.Bytes.{Bytes, Block}
use Rattle.block.proofs.Xors.{bytes_from, bytes_at}
use Rattle.poet.specs.Functions.{Functions, Lawful}
use Rattle.poet.specs.Seal.{Seals}
use Rattle.poet.proofs.Accepting.{opening_law, tag_law}
use Rattle.suites.specs.declared.listed.Listed.{Listed}
use Rattle.suites.specs.Listed.{functions_of, listed}
use Rattle.suites.proofs.Lawful.{listed_lawful}
use Rattle.sheet.specs.Calls.{Broken}
use Rattle.sheet.proofs.FieldBytes.{Octets, octets_left, octets_right}
use Rattle.sheet.proofs.Decoding.{broken}
use Rattle.delivery.specs.Told.{suite_of}
use Rattle.wire.specs.Wire.{Parts, Limits, wire}
use Rattle.wire.proofs.Whole.{unique}
use Rattle.report.specs.Lists.{list_of}
use Rattle.report.specs.Report.{Refused, unlisted, no_body, no_seal, no_sheet, RefusedInput, no_delivery, delivery, raised, refusal_line, PrintedLaw}

-- a list of bytes, in the words of the sheet and of the mode
bytes_of : (s : List ℕ) → Octets s → Bytes s
bytes_of s o = bytes_from s (λ k l. All-get_or (λ b. b < 256) s k 0 l o)

octets_of : (s : List ℕ) → Bytes s → Octets s
octets_of s b = All-from_get_or (λ x. x < 256) s 0 (bytes_at s b)

-- a listed suite is lawful
lawful_by : (r : Result Listed (Placed KeyFault)) (under : List ℕ → Functions) (key : List ℕ) → option_map functions_of (result_ok r) ≡ Some under → Block key → Lawful (under key)
lawful_by (Ok s) under key e b = let q : functions_of s ≡ under = cc in subst (λ (u : List ℕ → Functions). Lawful (u key)) q (listed_lawful s key b)
lawful_by (Err x) under key e b = absurd cc

module _ (p : Parts) (limits : Limits p) (key : Octets p.key) where
  -- p is sealed under the suite with these functions, if it is sealed
  module _ (under : List ℕ → Functions) (is : suite_of p.suite ≡ Some under) where
    lawful : Lawful (under p.key)
    lawful = lawful_by (listed p.suite) under p.key is (record { long = limits.key_long; bytes = bytes_of p.key key })

    abbrev Sealed : List ℕ → Type 0
    Sealed M = Seals (under p.key) p.header M p.ciphertext p.tag

    one_message : (M N : List ℕ) → Sealed M → Sealed N → M ≡ N
    one_message M N s t = let o = opening_law (under p.key) lawful p.header p.ciphertext p.tag in o.only M s ∙ sym (o.only N t)

    not_empty : (M : List ℕ) → Sealed M → length p.ciphertext ≡ 0 → ⊥
    not_empty M s e = let l = (tag_law (under p.key) lawful p.header M p.ciphertext p.tag s).ciphertext in let k = s.limits.some in omega arith

    one_fault : (M N : List ℕ) (d e : Placed SheetFault) → Sealed M → Sealed N → Broken M d → Broken N e → d ≡ e
    one_fault M N d e s t b c = broken M d e (octets_of M s.limits.bytes) b (subst (λ (x : List ℕ). Broken x e) (one_message N M t s) c)

  same_suite : (u v : List ℕ → Functions) → suite_of p.suite ≡ Some u → suite_of p.suite ≡ Some v → v ≡ u
  same_suite u v a b = cc

  no_suite : (u : List ℕ → Functions) → suite_of p.suite ≡ None → suite_of p.suite ≡ Some u → ⊥
  no_suite u a b = absurd cc

  -- a message that seals under one of two names of the suite
  under_one : (u v : List ℕ → Functions) → suite_of p.suite ≡ Some u → suite_of p.suite ≡ Some v → (M : List ℕ) → Seals (v p.key) p.header M p.ciphertext p.tag → Seals (u p.key) p.header M p.ciphertext p.tag
  under_one u v a b M s = subst (λ (w : List ℕ → Functions). Seals (w p.key) p.header M p.ciphertext p.tag) (same_suite u v a b) s

  one_refusal : (f g : Placed ConsoleFault) → Refused p f → Refused p g → f ≡ g
  one_refusal f g (unlisted n i) (unlisted m j) = i.is ∙ sym j.is
  one_refusal f g (unlisted n i) (no_body v b z j) = absurd (no_suite v n b)
  one_refusal f g (unlisted n i) (no_seal v b l h j) = absurd (no_suite v n b)
  one_refusal f g (unlisted n i) (no_sheet v b N t e d j) = absurd (no_suite v n b)
  one_refusal f g (no_body u a y i) (unlisted m j) = absurd (no_suite u m a)
  one_refusal f g (no_body u a y i) (no_body v b z j) = i.is ∙ sym j.is
  one_refusal f g (no_body u a y i) (no_seal v b l h j) = absurd (omega (arith, y, l))
  one_refusal f g (no_body u a y i) (no_sheet v b N t e d j) = absurd (not_empty v b N t y)
  one_refusal f g (no_seal u a k h i) (unlisted m j) = absurd (no_suite u m a)
  one_refusal f g (no_seal u a k h i) (no_body v b z j) = absurd (omega (arith, k, z))
  one_refusal f g (no_seal u a k h i) (no_seal v b l q j) = i.is ∙ sym j.is
  one_refusal f g (no_seal u a k h i) (no_sheet v b N t e d j) = absurd (h N (under_one u v a b N t))
  one_refusal f g (no_sheet u a M s x c i) (unlisted m j) = absurd (no_suite u m a)
  one_refusal f g (no_sheet u a M s x c i) (no_body v b z j) = absurd (not_empty u a M s z)
  one_refusal f g (no_sheet u a M s x c i) (no_seal v b l h j) = absurd (h M (under_one v u b a M s))
  one_refusal f g (no_sheet u a M s x c i) (no_sheet v b N t e d j) = i ∙ ap raised (one_fault u a M N x e s (under_one u v a b N t) c d) ∙ sym j

-- the key of a delivery is bytes where the input is
key_octets : (p : Parts) (input : List ℕ) → wire p ≡ input → Octets input → Octets p.key
key_octets p input e o = octets_left p.key _ (octets_right (p.suite ∷ []) _ (subst Octets (sym e) o))

one_input : (input : List ℕ) → Octets input → (f g : Placed ConsoleFault) → RefusedInput input f → RefusedInput input g → f ≡ g
one_input input o f g (no_delivery n i) (no_delivery m j) = i.is ∙ sym j.is
one_input input o f g (no_delivery n i) (delivery q m e s) = absurd (n q m e)
one_input input o f g (delivery p l d r) (no_delivery n j) = absurd (n p l d)
one_input input o f g (delivery p l d r) (delivery q m e s) =
    one_refusal p l (key_octets p input d o) f g r (subst (λ (x : Parts). Refused x g) (unique q p m l (e ∙ sym d)) s)

pub printed : PrintedLaw
printed input s t o (inl (es, only, a)) (inl (fs, just, b)) = a ∙ ap list_of (just.only es only.delivers) ∙ sym b
printed input s t o (inl (es, only, a)) (inr (g, none, why, b)) = absurd (none es only.delivers)
printed input s t o (inr (f, none, why, a)) (inl (fs, just, b)) = absurd (none fs just.delivers)
printed input s t o (inr (f, none, why, a)) (inr (g, neither, how, b)) = a ∙ ap refusal_line (one_input input o f g why how) ∙ sym b
