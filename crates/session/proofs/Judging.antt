-- The calls for whole buffers: from their checks and the session that they run to what their contracts say.
use Rattle.std.proofs.Common.{◌≡◌, ℕ, ◌≤◌, ◌↔◌, List, ◌++◌, length, take, drop, replicate, None, Ok, Err, Option, Result, sym, refl, ap, ◌∙◌, subst, arith, ltb-false}
use Rattle.std.proofs.lemmas.List.{drop_at, length-replicate}
use Rattle.std.specs.Result.{IsOk}
use Rattle.fault.specs.declared.kinds.SessionFault.{SessionFault}
use Rattle.fault.specs.declared.kinds.Placed.{Placed}
use Rattle.fault.specs.Refusals.{Refusal, RefusedBy, key_faults, session_faults}
use Rattle.poet.specs.Functions.{Functions, Lawful}
use Rattle.poet.specs.Seal.{Seals}
use Rattle.session.specs.Calls.{body_checks, checks, key_check, tag_check, open_checks}
use Rattle.session.specs.Straight.{OpenRefusal, OpenRun}
use Rattle.session.specs.Sessions.{writes}
use Rattle.session.proofs.Bytewise.{zeroed}
use Rattle.session.proofs.Nothing.{open_passes}
use Rattle.session.proofs.Straights.{past_front}
use Rattle.session.proofs.Passing.{Passed, passed, passes, none_failed, some_failed, key_passed, body_failed}

module _ (under : List ℕ → Functions) (key H M o : List ℕ) where
  -- an opening of M, which is a ciphertext here, that a check refuses: no message seals so
  pub open_refused : (T : List ℕ) (x : Placed SessionFault) → (length key ≡ 16 → Lawful (under key)) → RefusedBy {X = ℕ} session_faults (open_checks key H M T o) (Err x) → length key ≡ 16 → length M ≤ length o
      → IsOk {T = ℕ} (Err x) ↔ ((N : List ℕ) × Seals (under key) H N M T)
  open_refused T x L c k l = (
    (λ i. absurd cc),
    (λ p. subst (λ (i : Option (Refusal SessionFault)). RefusedBy {X = ℕ} session_faults i (Err x)) (open_passes (under key) H p.0 M T p.1 (L k) key o k l) c),
  )

  -- one that refuses a forgery: w stands in front after it was filled with zeros
  pub open_zeros : (T o₁ w : List ℕ) (e : Placed SessionFault) → length o₁ ≡ length o → length M ≤ length o → OpenRefusal (under key) H M T o o₁ e → w ≡ replicate (length (take (length M) o₁)) 0
      → w ++ drop (length M) o₁ ≡ replicate (length M) 0 ++ drop (length M) o
  open_zeros T o₁ w e lo r s we = zeroed w o₁ (length M) (length M) refl (omega arith) we ∙ ap (λ u. replicate (length M) 0 ++ u) (past_front (writes (length M)) (length M) o₁ o (omega arith) s.rest)

  pub zeros_rest : (o' : List ℕ) → o' ≡ replicate (length M) 0 ++ drop (length M) o → drop (length M) o' ≡ drop (length M) o
  zeros_rest o' z = ap (drop (length M)) z ∙ drop_at (replicate (length M) 0) (drop (length M) o) (length M) (length-replicate (length M) 0)

  -- the checks as the calls make them: the key is put into its place, and then header, body and room are checked
  module _ (keyed : RefusedBy {X = Unit {0}} key_faults (key_check key) (Ok tt)) where
    key_none : key_check key ≡ None
    key_none = none_failed key_faults (key_check key) tt keyed

    pub body_refuses : (more : Option (Refusal SessionFault)) (x : Placed SessionFault) → RefusedBy {X = Unit {0}} session_faults (body_checks H M (length o) None) (Err x) → RefusedBy {X = ℕ} session_faults (checks key H M (length o) more) (Err x)
    body_refuses more x c =
        subst (λ (i : Option (Refusal SessionFault)). RefusedBy {X = ℕ} session_faults i (Err x)) (sym (key_passed key H M (length o) more key_none))
        (body_failed H M (length o) more x (some_failed (Unit {0}) ℕ session_faults (body_checks H M (length o) None) x c))

    module _ (checked : RefusedBy {X = Unit {0}} session_faults (body_checks H M (length o) None) (Ok tt)) where
      pass : Passed H M (length o)
      pass = passed H M (length o) None (none_failed session_faults (body_checks H M (length o) None) tt checked)

      pub room : length M ≤ length o
      room = ltb-false (length o) (length M) pass.room

      pub checks_are : (more : Option (Refusal SessionFault)) → checks key H M (length o) more ≡ more
      checks_are more = key_passed key H M (length o) more key_none ∙ passes H M (length o) more pass

      pub tag_refuses : (T : List ℕ) (x : Placed SessionFault) → RefusedBy {X = List ℕ} session_faults (tag_check T 0) (Err x) → RefusedBy {X = ℕ} session_faults (open_checks key H M T o) (Err x)
      tag_refuses T x c = subst (λ (i : Option (Refusal SessionFault)). RefusedBy {X = ℕ} session_faults i (Err x)) (sym (checks_are (tag_check T 0))) (some_failed (List ℕ) ℕ session_faults (tag_check T 0) x c)

-- a session under the key in its place, and with the tag that was checked
pub run_given : (under : List ℕ → Functions) (key b H M T T' o o' : List ℕ) (r : Result (Unit {0}) (Placed SessionFault)) → b ≡ key → T' ≡ T → OpenRun (under b) H M T' o o' r → OpenRun (under key) H M T o o' r
run_given under key b H M T T' o o' r be te s = subst (λ (i : List ℕ). OpenRun (under key) H M i o o' r) te (subst (λ (i : List ℕ). OpenRun (under i) H M T' o o' r) be s)
