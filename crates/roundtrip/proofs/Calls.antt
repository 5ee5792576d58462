-- What the calls give for buffers as long as the message.
use Rattle.std.proofs.Common.{◌≡◌, ℕ, true, false, List, ◌++◌, length, take, replicate, None, Ok, Err, Result, refl, sym, ap, ◌∙◌, subst, inl, inr, arith, take_all, append-nil, Some, Option}
use Rattle.std.specs.Option.{IfSome}
use Rattle.std.proofs.lemmas.List.{drop_all}
use Rattle.fault.specs.declared.kinds.SessionFault.{SessionFault}
use Rattle.fault.specs.declared.kinds.Placed.{Placed}
use Rattle.poet.specs.Functions.{Functions}
use Rattle.poet.specs.Seal.{Seals}
use Rattle.session.specs.Calls.{SealCall, OpenCall, open_checks}
use Rattle.roundtrip.specs.declared.trips.Opening.{Opening}
use Rattle.roundtrip.specs.Trips.{key, label, message, Opens}

module _ (under : List ℕ → Functions) (C T o o' : List ℕ) where
  no_check : length C ≡ 32 → length T ≡ 16 → length o ≡ 32 → open_checks key label C T o ≡ None
  no_check c t l = rw (c, t, l) refl

  module _ (c : length C ≡ 32) (t : length T ≡ 16) (l : length o ≡ 32) (l' : length o' ≡ 32) where
    pub opens : (r : Result ℕ (Placed SessionFault)) → OpenCall under key label C T o o' r
        → Opens (under key) C T (record { answer = r; buffer = o' })
    opens (Ok n) s =
        let all : take n o' ≡ o' = let n_is = s.message.0 in take_all n o' (omega (arith, n_is, c, l')) in
        inl (ap Ok s.message.0, subst (λ (M : List ℕ). Seals (under key) label M C T) all s.message.1, λ M q. s.only M q ∙ all)
    opens (Err e) s =
        let refused = s.forgery (no_check c t l) in
        inr (
          ap Err refused.0.is,
          refused.1 ∙ ap (λ (x : List ℕ). replicate (length C) 0 ++ x) (drop_all (length C) o (omega (arith, c, l))) ∙ append-nil _,
          λ M q. let z : false ≡ true = (s.accepts refl (omega (arith, c, l))).1 (M, q) in absurd cc,
        )

module _ (under : List ℕ → Functions) (o t o' t' : List ℕ) (l : length o ≡ 32) (l' : length o' ≡ 32) where
  pub seals : (r : Result ℕ (Placed SessionFault)) → SealCall under key label message o t o' t' r
      → (r ≡ Ok (length message)) × Seals (under key) label message o' t'
  seals (Ok n) s = (ap Ok s.seals.0, subst (λ (C : List ℕ). Seals (under key) label message C t') (take_all n o' (let n_is = s.seals.0 in omega (arith, n_is, l'))) s.seals.1)
  seals (Err e) s = let z : false ≡ true = rw l at s.refused in absurd cc

-- what some message seals to is opened
pub opened : (f : Functions) (M C T : List ℕ) (a : Opening) → Seals f label M C T → Opens f C T a
    → (a.answer ≡ Ok (length C)) × (a.buffer ≡ M)
opened f M C T a q h = elim h [
  | inl is ↦ (is.0, sym (is.2 M q))
  | inr none ↦ absurd (none.2 M q)
]

-- what follows from three facts of a value that there may be
pub from_three : {A : Type 0} (o : Option A) {P Q R S : A → Type 0} → IfSome o P → IfSome o Q → IfSome o R
    → ((x : A) → P x → Q x → R x → S x) → IfSome o S
from_three None p q r h = tt
from_three (Some x) p q r h = h x p q r
