-- A whole delivery: its parts one after the other, and that no two have the same bytes.
use Rattle.std.proofs.Common.{◌≡◌, ℕ, ◌≤◌, List, [], ◌∷◌, ◌++◌, length, Some, None, Option, sym, refl, ap, ◌∙◌}
use Rattle.std.specs.Option.{ok_or}
use Rattle.fault.specs.declared.kinds.ConsoleFault.{ConsoleFault}
use Rattle.fault.specs.declared.kinds.Placed.{Placed}
use Rattle.fault.specs.Refusals.{placed, console_faults}
use Rattle.wire.specs.declared.parsing.Delivery.{Delivery}
use Rattle.wire.specs.Wire.{Parts, Limits, wire, malformed, parts_of, Parsed, Found, two_ahead, four_ahead}
use Rattle.wire.proofs.Pieces.{separate, ahead_separate, two_coded, four_coded}

-- what is left of the bytes after each part
abbrev pub after_header : Parts → List ℕ
after_header p = four_ahead p.ciphertext ++ p.tag

abbrev pub after_key : Parts → List ℕ
after_key p = two_ahead p.header ++ after_header p

abbrev pub after_suite : Parts → List ℕ
after_suite p = p.key ++ after_key p

-- the parts, as they were cut from the input
pub suite_cut : (p : Parts) {x : ℕ} {r i : List ℕ} → i ≡ x ∷ r → wire p ≡ i → after_suite p ≡ r
suite_cut p {x} {r} t e = (separate 1 (p.suite ∷ []) (x ∷ []) (after_suite p) r refl refl (e ∙ t)).1

pub key_cut : (p : Parts) {s r i : List ℕ} → Limits p → (length s ≡ 16) × (s ++ r ≡ i) → after_suite p ≡ i → (p.key ≡ s) × (after_key p ≡ r)
key_cut p {s} {r} l t e = separate 16 p.key s (after_key p) r l.key_long t.0 (e ∙ sym t.1)

pub header_cut : (p : Parts) {s r i : List ℕ} → Limits p → (length s ≤ 4096) × (two_ahead s ++ r ≡ i) → after_key p ≡ i → (p.header ≡ s) × (after_header p ≡ r)
header_cut p {s} {r} l t e = ahead_separate two_coded p.header s (after_header p) r l.header_most t.0 (e ∙ sym t.1)

pub ciphertext_cut : (p : Parts) {s r i : List ℕ} → Limits p → (length s ≤ 16384) × (four_ahead s ++ r ≡ i) → after_header p ≡ i → (p.ciphertext ≡ s) × (p.tag ≡ r)
ciphertext_cut p {s} {r} l t e = ahead_separate four_coded p.ciphertext s p.tag r l.ciphertext_most t.0 (e ∙ sym t.1)

-- no two deliveries have the same bytes
pub unique : (p q : Parts) → Limits p → Limits q → wire p ≡ wire q → p ≡ q
unique p q l m e =
    let a = separate 1 (p.suite ∷ []) (q.suite ∷ []) (after_suite p) (after_suite q) refl refl e in
    let b = key_cut p {s = q.key} {r = after_key q} l (m.key_long, refl) a.1 in
    let c = header_cut p {s = q.header} {r = after_header q} l (m.header_most, refl) b.1 in
    let d = ciphertext_cut p {s = q.ciphertext} {r = q.tag} l (m.ciphertext_most, refl) c.1 in
    let s : p.suite ≡ q.suite = cc in
    λ i. record { suite = s i; key = b.0 i; header = c.0 i; ciphertext = d.0 i; tag = d.1 i }

-- with the refusal's place, and that the delivery is the only one
pub parsed : (input : List ℕ) (e : Placed ConsoleFault) (o : Option Delivery) → e ≡ placed (malformed (length input)) → Found input o → Parsed input (ok_or o e)
parsed input e (Some d) h f = (f.0, f.1, λ p l g. unique p (parts_of d) l f.0 (g ∙ sym f.1))
parsed input e None h f = (record { is = h; number = ap (λ (x : Placed ConsoleFault). console_faults.number x.fault) h; layer = ap (λ (x : Placed ConsoleFault). console_faults.layer x.fault) h }, f)
