-- The list: each suite under its own number and no other, and all lawful.
use Rattle.std.specs.Prelude.{◌≡◌, ℕ, Ok, Some, None, Option, ◌==◌, if◌then◌else◌, refl}
use Rattle.std.specs.Option.{ok_or}
use Rattle.std.proofs.Math.Path.{ap}
use Rattle.std.proofs.Common.{sym, ◌∙◌, inl, inr, arith}
use Rattle.std.proofs.lemmas.Bool.{eqb-true, cases_Bool, cond-true, cond-false}
use Rattle.aes.specs.Expansion.{schedule, aes, inv_aes, aes4}
use Rattle.aes.proofs.Schedules.{expands}
use Rattle.aes.proofs.Undone.{cipher_permutes, cipher4_permutes}
use Rattle.speck.specs.Cipher.{speck, inv_speck}
use Rattle.speck.proofs.Laws.{inverts}
use Rattle.forms.specs.Filling.{filled, padded}
use Rattle.forms.specs.Laws.{Inverts, Hashes}
use Rattle.forms.proofs.Fillings.{filled_bytes, padded_bytes}
use Rattle.forms.proofs.Forming.{chained_lawful, keyed_lawful, submitted_lawful, zeros_block}
use Rattle.forms.proofs.Reversing.{reversal}
use Rattle.suites.specs.declared.listed.Listed.{Listed}
use Rattle.suites.specs.declared.listed.Listed.TheVariants.{Shaft, PoetAesFour, PoetAesTen, Mirror, ShaftPadded, ShaftSpeck}
use Rattle.suites.specs.Listed.{number_of, numbered, listed, LawfulLaw, NumberLaw}

pub aes_inverts : Inverts aes inv_aes
aes_inverts key k = cipher_permutes (schedule key) (expands key k)

aes4_hashes : Hashes aes4
aes4_hashes key b k p = (cipher4_permutes (schedule key) (expands key k)).enc_block b p

pub listed_lawful : LawfulLaw
listed_lawful Shaft = keyed_lawful aes inv_aes aes_inverts filled filled_bytes
listed_lawful PoetAesFour = submitted_lawful aes inv_aes aes_inverts aes4 aes4_hashes _ zeros_block.bytes
listed_lawful PoetAesTen = submitted_lawful aes inv_aes aes_inverts aes (λ key b k p. (aes_inverts key k).enc_block b p) _ zeros_block.bytes
listed_lawful Mirror = λ key k. chained_lawful _ _ (λ b. b) reversal (λ b p. p) filled filled_bytes
listed_lawful ShaftPadded = keyed_lawful aes inv_aes aes_inverts padded padded_bytes
listed_lawful ShaftSpeck = keyed_lawful speck inv_speck inverts padded padded_bytes

-- a line of the list, with the lines behind it
line : (n k : ℕ) (x s : Listed) (more : Option Listed) → number_of x ≡ k → (more ≡ Some s → n ≡ number_of s)
    → (if n == k then Some x else more) ≡ Some s → n ≡ number_of s
line n k x s more h m e =
    elim (cases_Bool (n == k)) [
      | inl t ↦ (
          let w = cond-true (n == k) (Some x) more t in
          let q : x ≡ s = cc in
          eqb-true n k t ∙ sym h ∙ ap number_of q
          )
      | inr f ↦ m (sym (cond-false (n == k) (Some x) more f) ∙ e)
    ]

never : {A G : Type 0} (a : A) → ◌≡◌ {A = Option A} None (Some a) → G
never a e = let z : ◌≡◌ {A = ℕ} 0 1 = cc in absurd (omega arith)

under_own : (s : Listed) (n : ℕ) → numbered n ≡ Some s → n ≡ number_of s
unfolding numbered
under_own s n =
    line n _ Shaft s _ refl (line n _ PoetAesFour s _ refl (line n _ PoetAesTen s _ refl (line n _ Mirror s _ refl (line n _ ShaftPadded s _ refl (line n _ ShaftSpeck s _ refl (never s))))))

at_own : (s : Listed) → numbered (number_of s) ≡ Some s
unfolding numbered
at_own Shaft = refl
at_own PoetAesFour = refl
at_own PoetAesTen = refl
at_own Mirror = refl
at_own ShaftPadded = refl
at_own ShaftSpeck = refl

answered : {A E : Type 0} (o : Option A) (e : E) (a : A) → ok_or o e ≡ Ok a → o ≡ Some a
answered None e a h = let z : ◌≡◌ {A = ℕ} 0 1 = cc in absurd (omega arith)
answered (Some b) e a h = cc

found : {A E : Type 0} (o : Option A) (e : E) (a : A) → o ≡ Some a → ok_or o e ≡ Ok a
found o e a h = ap (λ o. ok_or o e) h

pub listed_numbers : NumberLaw
listed_numbers s n = (λ e. under_own s n (answered (numbered n) _ s e), λ e. ap listed e ∙ found (numbered (number_of s)) _ s (at_own s))
