-- One call of a written session, and what is kept of it.
use Rattle.std.specs.Prelude.{◌≡◌, ℕ, List, ◌++◌, vec_items}
use Rattle.suite.specs.declared.Suite as suite
use Rattle.suite.specs.declared.Permutation as permutation
use Rattle.suite.specs.declared.ChainingHash as hash
use Rattle.suite.specs.declared.HeaderDigest as digest
use Rattle.script.specs.declared.played.Played.{Played}
use Rattle.script.specs.declared.course.Stretch.{Stretch}
use Rattle.session.specs.declared.heading.Heading.{Heading}
use Rattle.session.specs.declared.rows.Way as way
use Rattle.session.specs.declared.body.Session.{Session}
use Rattle.session.specs.Sessions.{HeadingAt, SessionAt}
use Rattle.script.specs.Scripts.{run_of, headers_taken, header_answers, bodies_taken, body_answers}

-- header calls: the heading s became s', and the log p became p'
pub record HeaderPlayed {A B C D : Type 0} {u : suite.Ghosts A B C D} {x : permutation.Ghosts B}
    {y : hash.Ghosts C} {z : digest.Ghosts D} (ss : List Stretch) (p p' : Played)
    (s s' : Heading A B C D u x y z) : Type 0 where
  pub at : (key : List ℕ) → HeadingAt (run_of key p) s → HeadingAt (run_of key p') s'
  pub header : (key : List ℕ) → HeadingAt (run_of key p) s
      → vec_items p'.header ≡ headers_taken (vec_items p.header) ss
  pub answers : (key : List ℕ) → HeadingAt (run_of key p) s
      → vec_items p'.answers ≡ vec_items p.answers ++ header_answers (vec_items p.header) ss

-- body calls: the session s became s', and the log p became p'
pub record BodyPlayed {A W B C D : Type 0} {u : suite.Ghosts A B C D} {x : permutation.Ghosts B}
    {y : hash.Ghosts C} {z : digest.Ghosts D} {w : way.Ghosts W} (ss : List Stretch)
    (p p' : Played) (s s' : Session A W B C D u x y z w) : Type 0 where
  pub at : (key : List ℕ) → SessionAt (run_of key p) s → SessionAt (run_of key p') s'
  pub header : vec_items p'.header ≡ vec_items p.header
  pub body : (key : List ℕ) → SessionAt (run_of key p) s
      → vec_items p'.body ≡ bodies_taken (vec_items p.body) ss
  pub answers : (key : List ℕ) → SessionAt (run_of key p) s
      → vec_items p'.answers ≡ vec_items p.answers ++ body_answers (vec_items p.body) ss
