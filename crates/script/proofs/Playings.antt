-- Calls of a written session, one after another.
use Rattle.std.proofs.Common.{◌≡◌, ℕ, ◌+◌, ◌<◌, List, [], ◌∷◌, ◌++◌, length, get_or, take, vec_items, sym, refl, ap, ◌∙◌, append_assoc}
use Rattle.std.proofs.lemmas.List.{take_more}
use Rattle.suite.specs.declared.Suite as suite
use Rattle.suite.specs.declared.Permutation as permutation
use Rattle.suite.specs.declared.ChainingHash as hash
use Rattle.suite.specs.declared.HeaderDigest as digest
use Rattle.script.specs.declared.played.Played.{Played}
use Rattle.script.specs.declared.played.Answer.{Answer}
use Rattle.script.specs.declared.course.Stretch.{Stretch}
use Rattle.session.specs.declared.heading.Heading.{Heading}
use Rattle.session.specs.declared.rows.Way as way
use Rattle.session.specs.declared.body.Session.{Session}
use Rattle.script.specs.Scripts.{taken, Check, all_taken, all_answers, header_check_of, header_answer, headers_taken, header_answers, body_check_of, body_answer, bodies_taken, body_answers}
use Rattle.script.specs.Playing.{HeaderPlayed, BodyPlayed}

taken_append : (check : Check) (S : List ℕ) (ss ts : List Stretch) → all_taken check S (ss ++ ts) ≡ all_taken check (all_taken check S ss) ts
taken_append check S [] ts = refl
taken_append check S (s ∷ ss) ts = taken_append check (taken (check (length S) s) S s.bytes.now) ss ts

answers_append : (check : Check) (answer : ℕ → Stretch → Answer) (S : List ℕ) (ss ts : List Stretch) → all_answers check answer S (ss ++ ts) ≡ all_answers check answer S ss ++ all_answers check answer (all_taken check S ss) ts
answers_append check answer S [] ts = refl
answers_append check answer S (s ∷ ss) ts = ap (λ rest. answer (length S) s ∷ rest) (answers_append check answer (taken (check (length S) s) S s.bytes.now) ss ts)

module _ {A B C D : Type 0} {u : suite.Ghosts A B C D} {x : permutation.Ghosts B} {y : hash.Ghosts C} {z : digest.Ghosts D} where
  pub headers_more : (ts : List Stretch) (i : ℕ) (d : Stretch) (p p' p'' : Played) (s s' s'' : Heading A B C D u x y z) → i < length ts → HeaderPlayed (take i ts) p p' s s' → HeaderPlayed (get_or ts i d ∷ []) p' p'' s' s''
      → HeaderPlayed (take (i + 1) ts) p p'' s s''
  headers_more ts i d p p' p'' s s' s'' l a b =
      rw (take_more ts i d l) record {
        at = λ key h. b.at key (a.at key h);
        header = λ key h. b.header key (a.at key h) ∙ ap (λ H. headers_taken H (get_or ts i d ∷ [])) (a.header key h) ∙ sym (taken_append header_check_of (vec_items p.header) (take i ts) (get_or ts i d ∷ []));
        answers =
            λ key h.
            b.answers key (a.at key h) ∙ ap (λ bs. bs ++ header_answers (vec_items p'.header) (get_or ts i d ∷ [])) (a.answers key h)
            ∙ append_assoc (vec_items p.answers) (header_answers (vec_items p.header) (take i ts)) (header_answers (vec_items p'.header) (get_or ts i d ∷ []))
            ∙ ap (λ H. vec_items p.answers ++ (header_answers (vec_items p.header) (take i ts) ++ header_answers H (get_or ts i d ∷ []))) (a.header key h)
            ∙ ap (λ bs. vec_items p.answers ++ bs) (sym (answers_append header_check_of header_answer (vec_items p.header) (take i ts) (get_or ts i d ∷ [])));
      }

module _ {A W B C D : Type 0} {u : suite.Ghosts A B C D} {x : permutation.Ghosts B} {y : hash.Ghosts C} {z : digest.Ghosts D} {w : way.Ghosts W} where
  pub bodies_more : (ts : List Stretch) (i : ℕ) (d : Stretch) (p p' p'' : Played) (s s' s'' : Session A W B C D u x y z w) → i < length ts → BodyPlayed (take i ts) p p' s s' → BodyPlayed (get_or ts i d ∷ []) p' p'' s' s''
      → BodyPlayed (take (i + 1) ts) p p'' s s''
  bodies_more ts i d p p' p'' s s' s'' l a b =
      rw (take_more ts i d l) record {
        at = λ key h. b.at key (a.at key h);
        header = b.header ∙ a.header;
        body = λ key h. b.body key (a.at key h) ∙ ap (λ M. bodies_taken M (get_or ts i d ∷ [])) (a.body key h) ∙ sym (taken_append body_check_of (vec_items p.body) (take i ts) (get_or ts i d ∷ []));
        answers =
            λ key h.
            b.answers key (a.at key h) ∙ ap (λ bs. bs ++ body_answers (vec_items p'.body) (get_or ts i d ∷ [])) (a.answers key h)
            ∙ append_assoc (vec_items p.answers) (body_answers (vec_items p.body) (take i ts)) (body_answers (vec_items p'.body) (get_or ts i d ∷ []))
            ∙ ap (λ M. vec_items p.answers ++ (body_answers (vec_items p.body) (take i ts) ++ body_answers M (get_or ts i d ∷ []))) (a.body key h)
            ∙ ap (λ bs. vec_items p.answers ++ bs) (sym (answers_append body_check_of body_answer (vec_items p.body) (take i ts) (get_or ts i d ∷ [])));
      }
