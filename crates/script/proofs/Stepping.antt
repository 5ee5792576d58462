-- One call of a written session.
use Rattle.std.proofs.Common.{◌≡◌, ℕ, ◌+◌, List, [], ◌∷◌, ◌++◌, length, Some, None, vec_items, Option, Result, sym, refl, ap, ◌∙◌, subst, arith, append-nil}
use Rattle.fault.specs.declared.kinds.SessionFault.{SessionFault}
use Rattle.fault.specs.declared.kinds.Placed.{Placed}
use Rattle.fault.specs.Refusals.{Refusal, session_faults}
use Rattle.fault.proofs.Refusing.{refuses_is}
use Rattle.block.specs.Bytes.{Block}
use Rattle.poet.specs.Functions.{Lawful}
use Rattle.suite.specs.declared.Suite as suite
use Rattle.suite.specs.declared.Permutation as permutation
use Rattle.suite.specs.declared.ChainingHash as hash
use Rattle.suite.specs.declared.HeaderDigest as digest
use Rattle.script.specs.declared.played.Played.{Played}
use Rattle.script.specs.declared.played.Answer.TheVariants.{Header, Body}
use Rattle.script.specs.declared.course.Stretch.{Stretch}
use Rattle.session.specs.declared.heading.Heading.{Heading}
use Rattle.session.specs.declared.rows.Way as way
use Rattle.session.specs.declared.body.Session.{Session}
use Rattle.session.specs.Runs.{Run}
use Rattle.session.specs.Sessions.{HeadingAt, header_check, SessionAt, body_check, held, given_of, writes}
use Rattle.session.proofs.ByChecks.{HeaderBy, BodyBy}
use Rattle.script.specs.Scripts.{answered, run_of, taken, held_of, body_check_of}
use Rattle.script.specs.Logs.{kept, written_of, HeaderKept, BodyKept}
use Rattle.script.specs.Playing.{HeaderPlayed, BodyPlayed}
use Rattle.session.proofs.Stretches.{out_length}

kept_taken : {X : Type 0} (o : Option (Refusal SessionFault)) (v : X) (H P : List ℕ) → H ++ kept (answered o v) P ≡ taken o H P
kept_taken None v H P = refl
kept_taken (Some e) v H P = append-nil H

module _ {A B C D : Type 0} {u : suite.Ghosts A B C D} {x : permutation.Ghosts B} {y : hash.Ghosts C} {z : digest.Ghosts D} where
  header_answer : (o : Option (Refusal SessionFault)) (R : Run) (P : List ℕ) (s s' : Heading A B C D u x y z) (r : Result (Unit {0}) (Placed SessionFault)) → HeaderBy o R P s s' r → r ≡ answered o tt
  header_answer None R P s s' r h = h.0
  header_answer (Some e) R P s s' r h = refuses_is session_faults e r h.0

  header_stands : (o : Option (Refusal SessionFault)) (R : Run) (P : List ℕ) (s s' : Heading A B C D u x y z) (r : Result (Unit {0}) (Placed SessionFault)) → HeaderBy o R P s s' r → HeadingAt R s
      → HeadingAt (record { key = R.key; header = taken o R.header P; body = R.body; out = R.out }) s'
  header_stands None R P s s' r h a = h.1
  header_stands (Some e) R P s s' r h a = subst (HeadingAt R) (sym h.1) a

  -- a header call that answered r: the log p became p'
  pub header_played : (t : Stretch) (p p' : Played) (s s' : Heading A B C D u x y z) (r : Result (Unit {0}) (Placed SessionFault))
      → ((key : List ℕ) → HeadingAt (run_of key p) s → HeaderBy (header_check (length (vec_items p.header)) (length t.bytes.now)) (run_of key p) t.bytes.now s s' r) → HeaderKept r t.bytes.now p p'
      → HeaderPlayed (t ∷ []) p p' s s'
  header_played t p p' s s' r h K =
      let H = vec_items p.header in
      let P = t.bytes.now in
      let o : Option (Refusal SessionFault) = header_check (length H) (length P) in
      let answer : (key : List ℕ) → HeadingAt (run_of key p) s → r ≡ answered o tt = λ key a. header_answer o (run_of key p) P s s' r (h key a) in
      let header : (key : List ℕ) → HeadingAt (run_of key p) s → vec_items p'.header ≡ taken o H P = λ key a. K.header ∙ ap (λ i. H ++ kept i P) (answer key a) ∙ kept_taken o tt H P in
      record {
        at =
            λ key a.
            let e = header key a in
            let b = K.body in
            let w = K.out in
            let run : (record { key = key; header = taken o H P; body = vec_items p.body; out = vec_items p.out }) ≡ run_of key p' = cc in
            subst (λ (R : Run). HeadingAt R s') run (header_stands o (run_of key p) P s s' r (h key a) a);
        header = header;
        answers = λ key a. K.answers ∙ ap (λ i. vec_items p.answers ++ Header i ∷ []) (answer key a);
      }

module _ {A W B C D : Type 0} {u : suite.Ghosts A B C D} {x : permutation.Ghosts B} {y : hash.Ghosts C} {z : digest.Ghosts D} {w : way.Ghosts W} where
  body_answer_is : (o : Option (Refusal SessionFault)) (R : Run) (P b b' : List ℕ) (s s' : Session A W B C D u x y z w) (r : Result (ℕ × ℕ) (Placed SessionFault)) → BodyBy o R P b b' s s' r → r ≡ answered o (given_of (held R + length P))
  body_answer_is None R P b b' s s' r h = h.answer
  body_answer_is (Some e) R P b b' s s' r h = refuses_is session_faults e r h.0

  body_stands : (o : Option (Refusal SessionFault)) (R : Run) (P b b' : List ℕ) (s s' : Session A W B C D u x y z w) (r : Result (ℕ × ℕ) (Placed SessionFault)) → BodyBy o R P b b' s s' r → SessionAt R s
      → SessionAt (record { key = R.key; header = R.header; body = taken o R.body P; out = R.out ++ written_of (answered o (given_of (held R + length P))) b' }) s'
  body_stands None R P b b' s s' r h a = h.at
  body_stands (Some e) R P b b' s s' r h a =
      let run : R ≡ record { key = R.key; header = R.header; body = R.body; out = R.out ++ [] } = ap (λ (o : List ℕ). record { key = R.key; header = R.header; body = R.body; out = o }) (sym (append-nil R.out)) in
      subst (λ (Q : Run). SessionAt Q s') run (subst (SessionAt R) (sym h.1) a)

  module _ (L : (key : List ℕ) → Block key → Lawful (u.under key)) where
    -- before a finish the body calls handed out what the rule says
    pub held_back : (R : Run) (s : Session A W B C D u x y z w) → SessionAt R s → length R.out ≡ writes (length R.body)
    held_back R s a = out_length (u.under R.key) (L R.key a.taken.key_block) w.way R a.taken.header_bytes a.taken.body_bytes a.out_is

    -- the bytes held back, by the rule and by the run
    pub held_same : (R : Run) (s : Session A W B C D u x y z w) → SessionAt R s → held R ≡ held_of (length R.body)
    held_same R s a = let o = out_length (u.under R.key) (L R.key a.taken.key_block) w.way R a.taken.header_bytes a.taken.body_bytes a.out_is in omega arith

    -- a body call that answered r and wrote b' over b: the log p became p'
    pub body_played : (t : Stretch) (p p' : Played) (s s' : Session A W B C D u x y z w) (b b' : List ℕ) (r : Result (ℕ × ℕ) (Placed SessionFault)) → length b ≡ t.room
        → ((key : List ℕ) → SessionAt (run_of key p) s → BodyBy (body_check (length (vec_items p.body)) (held (run_of key p)) (length t.bytes.now) (length b)) (run_of key p) t.bytes.now b b' s s' r) → BodyKept r t.bytes.now b' p p'
        → BodyPlayed (t ∷ []) p p' s s'
    body_played t p p' s s' b b' r room h K =
        let M = vec_items p.body in
        let P = t.bytes.now in
        let o : Option (Refusal SessionFault) = body_check_of (length M) t in
        let by : (key : List ℕ) → SessionAt (run_of key p) s → BodyBy o (run_of key p) P b b' s s' r = λ key a. rw (held_same (run_of key p) s a, room) at (h key a) in
        let answer : (key : List ℕ) → SessionAt (run_of key p) s → r ≡ answered o (given_of (held_of (length M) + length P)) =
        λ key a. body_answer_is o (run_of key p) P b b' s s' r (by key a) ∙ ap (λ n. answered o (given_of (n + length P))) (held_same (run_of key p) s a) in
        let body : (key : List ℕ) → SessionAt (run_of key p) s → vec_items p'.body ≡ taken o M P = λ key a. K.body ∙ ap (λ i. M ++ kept i P) (answer key a) ∙ kept_taken o _ M P in
        record {
          at =
              λ key a.
              let R = run_of key p in
              let e = body key a in
              let k = K.header in
              let n : vec_items p'.out ≡ vec_items p.out ++ written_of (answered o (given_of (held R + length P))) b' = K.out ∙ ap (λ i. vec_items p.out ++ written_of i b') (body_answer_is o R P b b' s s' r (by key a)) in
              let run : (record { key = key; header = vec_items p.header; body = taken o M P; out = vec_items p.out ++ written_of (answered o (given_of (held R + length P))) b' }) ≡ run_of key p' = cc in
              subst (λ (Q : Run). SessionAt Q s') run (body_stands o R P b b' s s' r (by key a) a);
          header = ap vec_items K.header;
          body = body;
          answers = λ key a. K.answers ∙ ap (λ i. vec_items p.answers ++ Body i ∷ []) (answer key a);
        }
