-- A written session, from its body calls and its finish to the promise.
use Rattle.std.proofs.Common.{◌≡◌, ℕ, ◌-◌, Bool, true, false, List, [], ◌∷◌, ◌++◌, length, take, drop, replicate, IfOk, Some, None, Ok, Err, vec_items, Option, Result, sym, refl, ap, ◌∙◌, subst, ap₂, Bor, append-nil}
use Rattle.std.proofs.lemmas.List.{drop_at}
use Rattle.std.proofs.lemmas.Result.{IfOk-weaker}
use Rattle.std.specs.declared.alloc.AllocError.{AllocError}
use Rattle.fault.specs.declared.kinds.SessionFault.{SessionFault}
use Rattle.fault.specs.declared.kinds.Placed.{Placed}
use Rattle.fault.specs.Refusals.{Refusal}
use Rattle.block.specs.Bytes.{Block}
use Rattle.poet.specs.Functions.{Functions, Lawful}
use Rattle.poet.specs.Seal.{Seals}
use Rattle.suite.specs.declared.Suite as suite
use Rattle.suite.specs.declared.Permutation as permutation
use Rattle.suite.specs.declared.ChainingHash as hash
use Rattle.suite.specs.declared.HeaderDigest as digest
use Rattle.script.specs.declared.played.Played.{Played}
use Rattle.script.specs.declared.played.Answer.{Answer}
use Rattle.script.specs.declared.played.Answer.TheVariants.{Finish}
use Rattle.script.specs.declared.played.End.{End}
use Rattle.script.specs.declared.played.End.TheVariants.{Unfinished, Sealed, Opened}
use Rattle.script.specs.declared.course.Stretch.{Stretch}
use Rattle.session.specs.declared.rows.Way as way
use Rattle.session.specs.declared.body.Session.{Session}
use Rattle.session.specs.declared.heading.Heading.{Heading}
use Rattle.session.specs.Directions.{Direction, sealing, opening}
use Rattle.session.specs.Runs.{Run, fresh, finished, last_of}
use Rattle.session.specs.Promise.{Blocks}
use Rattle.session.specs.Sessions.{HeadingAt, SessionAt, held, writes, sealing_check, opening_check}
use Rattle.session.proofs.ByChecks.{SealedBy, OpenedBy}
use Rattle.script.specs.Scripts.{run_of, AllByTable, header_check_of, headers_taken, header_answers, held_of, body_answers}
use Rattle.script.specs.Playing.{HeaderPlayed, BodyPlayed}
use Rattle.script.specs.Logs.{FinishKept}
use Rattle.script.specs.Plays.{HeldBack, LastHanded, SealEnds, OpenVerdict, OpenEnds, HeadPromise, SealPromise, OpenPromise, SealingPlayed, OpeningPlayed, tag_of}
use Rattle.session.proofs.Promises.{blocks, agrees, seal_long, sealed_blocks}
use Rattle.session.proofs.Nothing.{seal_end_passes}
use Rattle.script.proofs.Tables.{headers_by_table, bodies_by_table}
use Rattle.script.proofs.Stepping.{held_back, held_same}

-- a finish that hands out nothing leaves the run as it was
nothing_more : (R : Run) → finished R [] ≡ R
nothing_more R = ap (λ (o : List ℕ). record { key = R.key; header = R.header; body = R.body; out = o }) (append-nil R.out)

-- what an accepted finish handed out
last_handed : (R : Run) (last : List ℕ) → HeldBack R → held R ≡ held_of (length R.body) → length (R.out ++ take (held R) last) ≡ length R.body → drop (held R) last ≡ replicate (16 - held R) 0 → LastHanded (finished R (take (held R) last)) last
last_handed R last o h a z = record {
  all = a;
  bytes = ap (λ i. take i last) (sym h) ∙ sym (drop_at R.out (take (held R) last) (writes (length R.body)) o);
  zeros = subst (λ (i : ℕ). drop i last ≡ replicate (16 - i) 0) h z;
}

-- a finish of a sealing: the last bytes belong to the run, and what it promises
sealed_end : (o : Option (Refusal SessionFault)) (f : Functions) (R : Run) (last tag : List ℕ) (r : Result ℕ (Placed SessionFault)) → Lawful f → Blocks sealing f R → HeldBack R → held R ≡ held_of (length R.body) → ((C T : List ℕ) → Seals f R.header R.body C T → o ≡ None) → SealedBy o f R last tag r
    → Blocks sealing f (finished R (last_of r last)) × SealEnds o f (finished R (last_of r last)) r last tag
sealed_end None f R last tag r l b o h n s =
    subst (λ (i : Result ℕ (Placed SessionFault)). Blocks sealing f (finished R (last_of i last)) × SealEnds None f (finished R (last_of i last)) i last tag) (sym s.answer)
    ((sealed_blocks f l R.key R.header R.body (R.out ++ take (held R) last) tag s.seals).0, (ap Ok h, s.seals, last_handed R last o h (seal_long f l _ _ _ _ s.seals) s.zeros))
sealed_end (Some e) f R last tag (Ok m) l b o h n s = absurd s.0
sealed_end (Some e) f R last tag (Err x) l b o h n s = (subst (Blocks sealing f) (sym (nothing_more R)) b, (s.0, s.1, s.2, (λ C T p. let i = n C T p in absurd cc), subst HeldBack (sym (nothing_more R)) o))

-- the same of an opening
opened_end : (o : Option (Refusal SessionFault)) (f : Functions) (R : Run) (T last : List ℕ) (r : Result ℕ (Placed SessionFault)) → Lawful f → Blocks opening f R → HeldBack R → held R ≡ held_of (length R.body) → OpenedBy o f R T last r
    → Blocks opening f (finished R (last_of r last)) × OpenEnds o f (finished R (last_of r last)) T r last
opened_end None f R T last (Ok n) l b o h s =
    subst (λ (i : ℕ). Blocks opening f (finished R (take i last)) × OpenVerdict f (finished R (take i last)) T (Ok i) last) (sym s.0)
    ((sealed_blocks f l R.key R.header (R.out ++ take (held R) last) R.body T s.1.seals).1, (h, s.1.seals, s.1.only, last_handed R last o h (sym (seal_long f l _ _ _ _ s.1.seals)) s.1.zeros))
opened_end None f R T last (Err e) l b o h s = (subst (Blocks opening f) (sym (nothing_more R)) b, (s.fault, s.none, s.zeros, subst HeldBack (sym (nothing_more R)) o))
opened_end (Some e) f R T last (Ok n) l b o h s = absurd s.0
opened_end (Some e) f R T last (Err x) l b o h s = (subst (Blocks opening f) (sym (nothing_more R)) b, (s.0, s.1, s.2, subst HeldBack (sym (nothing_more R)) o))

-- the run once a finish is kept
finished_run : (key last : List ℕ) (r : Result ℕ (Placed SessionFault)) (p p' : Played) → FinishKept r last p p' → finished (run_of key p) (last_of r last) ≡ run_of key p'
finished_run key last r p p' e = let h = e.header in let b = e.body in let o = e.out in cc

module _ {A W B C D : Type 0} {u : suite.Ghosts A B C D} {x : permutation.Ghosts B} {y : hash.Ghosts C} {z : digest.Ghosts D} {w : way.Ghosts W} (L : (key : List ℕ) → Block key → Lawful (u.under key)) (bs : List Stretch) (p p₁ : Played)
    (s s₁ : Session A W B C D u x y z w) (N : BodyPlayed bs p p₁ s s₁) where
  -- what was handed out before a finish
  stood : {v : Direction} → w.way ≡ v → (key : List ℕ) → SessionAt (run_of key p₁) s₁ → Blocks v (u.under key) (run_of key p₁)
  stood we key c = subst (λ (i : Direction). Blocks i (u.under key) (run_of key p₁)) we (blocks (u.under key) (L key c.taken.key_block) w.way (run_of key p₁) c.taken c.out_is)

  pub sealing_unfinished : (fin : Bool) → w.way ≡ sealing → fin ≡ false → SealingPlayed bs fin p p₁ Unfinished s
  sealing_unfinished fin we fe = subst (λ (i : Bool). SealingPlayed bs i p p₁ Unfinished s) (sym fe) λ key a.
      let c = N.at key a in
      let b = stood we key c in
      record { header = N.header; body = N.body key a; by_table = bodies_by_table (vec_items p.body) bs; blocks = b; agrees = agrees sealing (u.under key) (L key c.taken.key_block) (run_of key p₁) b; finish = (refl, N.answers key a, held_back L (run_of key p₁) s₁ c) }

  pub opening_unfinished : (o : Option (Bor (List ℕ))) → w.way ≡ opening → o ≡ None → OpeningPlayed bs o p p₁ Unfinished s
  opening_unfinished o we ne = subst (λ (i : Option (Bor (List ℕ))). OpeningPlayed bs i p p₁ Unfinished s) (sym ne) λ key a.
      let c = N.at key a in
      let b = stood we key c in
      record { header = N.header; body = N.body key a; by_table = bodies_by_table (vec_items p.body) bs; blocks = b; agrees = agrees opening (u.under key) (L key c.taken.key_block) (run_of key p₁) b; finish = (refl, N.answers key a, held_back L (run_of key p₁) s₁ c) }

  module _ (p₂ : Played) (last : List ℕ) (r : Result ℕ (Placed SessionFault)) (F : FinishKept r last p₁ p₂) where
    kept_answers : (key : List ℕ) → SessionAt (run_of key p) s → vec_items p₂.answers ≡ vec_items p.answers ++ body_answers (vec_items p.body) bs ++ Finish r ∷ []
    kept_answers key a = F.answers ∙ ap (λ i. i ++ Finish r ∷ []) (N.answers key a)

    pub sealing_finished : (fin : Bool) (tag : List ℕ) → w.way ≡ sealing → fin ≡ true → ((R : Run) → SessionAt R s₁ → SealedBy (sealing_check R) (u.under R.key) R last tag r) → SealingPlayed bs fin p p₂ (Sealed last tag) s
    sealing_finished fin tag we fe S = subst (λ (i : Bool). SealingPlayed bs i p p₂ (Sealed last tag) s) (sym fe) λ key a.
        let c = N.at key a in
        let l = L key c.taken.key_block in
        let R = run_of key p₁ in
        let q = sealed_end (sealing_check R) (u.under key) R last tag r l (stood we key c) (held_back L R s₁ c) (held_same L R s₁ c) (seal_end_passes (u.under key) R) (S R c) in
        let run = finished_run key last r p₁ p₂ F in
        let b : Blocks sealing (u.under key) (run_of key p₂) = subst (Blocks sealing (u.under key)) run q.0 in
        record {
          header = ap vec_items F.header ∙ N.header;
          body = ap vec_items F.body ∙ N.body key a;
          by_table = bodies_by_table (vec_items p.body) bs;
          blocks = b;
          agrees = agrees sealing (u.under key) l (run_of key p₂) b;
          finish = (r, last, tag, refl, kept_answers key a, subst (λ (Q : Run). SealEnds (sealing_check Q) (u.under key) Q r last tag) run q.1);
        }

    pub opening_finished : (o : Option (Bor (List ℕ))) (t : Bor (List ℕ)) → w.way ≡ opening → o ≡ Some t → ((R : Run) → SessionAt R s₁ → OpenedBy (opening_check R t.now) (u.under R.key) R t.now last r) → OpeningPlayed bs o p p₂ (Opened last) s
    opening_finished o t we te S = subst (λ (i : Option (Bor (List ℕ))). OpeningPlayed bs i p p₂ (Opened last) s) (sym te) λ key a.
        let c = N.at key a in
        let l = L key c.taken.key_block in
        let R = run_of key p₁ in
        let q = opened_end (opening_check R t.now) (u.under key) R t.now last r l (stood we key c) (held_back L R s₁ c) (held_same L R s₁ c) (S R c) in
        let run = finished_run key last r p₁ p₂ F in
        let b : Blocks opening (u.under key) (run_of key p₂) = subst (Blocks opening (u.under key)) run q.0 in
        record {
          header = ap vec_items F.header ∙ N.header;
          body = ap vec_items F.body ∙ N.body key a;
          by_table = bodies_by_table (vec_items p.body) bs;
          blocks = b;
          agrees = agrees opening (u.under key) l (run_of key p₂) b;
          finish = (r, last, refl, kept_answers key a, subst (λ (Q : Run). OpenEnds (opening_check Q t.now) (u.under key) Q t.now r last) run q.1);
        }

-- from new on: p is the empty log, and s the new heading
module _ {A B C D : Type 0} {u : suite.Ghosts A B C D} {x : permutation.Ghosts B} {y : hash.Ghosts C} {z : digest.Ghosts D} (key : List ℕ) (hs : List Stretch) (p p₁ : Played) (s s₁ : Heading A B C D u x y z)
    (none : (vec_items p.header ≡ []) × (vec_items p.body ≡ []) × (vec_items p.out ≡ []) × (vec_items p.answers ≡ [])) (new : HeadingAt (fresh key) s) (played : HeaderPlayed hs p p₁ s s₁) where
  begun : HeadingAt (run_of key p) s
  begun = let h = none.0 in let b = none.1 in let o = none.2 in let run : fresh key ≡ run_of key p = cc in subst (λ (R : Run). HeadingAt R s) run new

  headed_at : HeadingAt (run_of key p₁) s₁
  headed_at = played.at key begun

  headers_are : vec_items p₁.header ≡ headers_taken [] hs
  headers_are = played.header key begun ∙ ap (λ H. headers_taken H hs) none.0

  answers_are : vec_items p₁.answers ≡ header_answers [] hs
  answers_are = played.answers key begun ∙ ap₂ (λ before H. before ++ header_answers H hs) none.3 none.0

  pub heading_course : HeadPromise hs p₁ Unfinished × AllByTable header_check_of [] hs
  heading_course = (record { header = headers_are; body = headed_at.no_body; out = headed_at.no_out; answers = answers_are; end = refl }, headers_by_table [] hs)

  pub sealing_course : {W : Type 0} {w : way.Ghosts W} → (bs : List Stretch) (fin : Bool) (c : Session A W B C D u x y z w) → ((R : Run) → HeadingAt R s₁ → SessionAt R c) → (r : Result (Played × End) AllocError)
      → IfOk r (λ q. SealingPlayed {u = u} bs fin p₁ q.0 q.1 c) → IfOk r (λ q. SealPromise u.under key (headers_taken [] hs) [] (header_answers [] hs) bs fin q.0 q.1 × AllByTable header_check_of [] hs)
  sealing_course bs fin c start r m =
      IfOk-weaker r _ _ (λ q a. (subst (λ (H : List ℕ). SealPromise u.under key H [] (header_answers [] hs) bs fin q.0 q.1) headers_are (subst (λ (M : List ℕ). SealPromise u.under key (vec_items p₁.header) M (header_answers [] hs) bs fin q.0 q.1) headed_at.no_body (subst (λ (before : List Answer). SealPromise u.under key (vec_items p₁.header) (vec_items p₁.body) before bs fin q.0 q.1) answers_are (a key (start (run_of key p₁) headed_at)))), headers_by_table [] hs)) m

  pub opening_course : {W : Type 0} {w : way.Ghosts W} → (bs : List Stretch) (tag : Option (Bor (List ℕ))) (c : Session A W B C D u x y z w) → ((R : Run) → HeadingAt R s₁ → SessionAt R c) → (r : Result (Played × End) AllocError)
      → IfOk r (λ q. OpeningPlayed {u = u} bs tag p₁ q.0 q.1 c) → IfOk r (λ q. OpenPromise u.under key (headers_taken [] hs) [] (header_answers [] hs) bs (tag_of tag) q.0 q.1 × AllByTable header_check_of [] hs)
  opening_course bs tag c start r m =
      IfOk-weaker r _ _ (λ q a. (subst (λ (H : List ℕ). OpenPromise u.under key H [] (header_answers [] hs) bs (tag_of tag) q.0 q.1) headers_are (subst (λ (M : List ℕ). OpenPromise u.under key (vec_items p₁.header) M (header_answers [] hs) bs (tag_of tag) q.0 q.1) headed_at.no_body (subst (λ (before : List Answer). OpenPromise u.under key (vec_items p₁.header) (vec_items p₁.body) before bs (tag_of tag) q.0 q.1) answers_are (a key (start (run_of key p₁) headed_at)))), headers_by_table [] hs)) m
