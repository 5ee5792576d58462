-- Rows over bytes that come in pieces.
use Rattle.std.proofs.Common.{◌≡◌, ℕ, ◌+◌, ◌-◌, ◌*◌, ◌≤◌, List, [], ◌∷◌, ◌++◌, length, drop, sym, append_assoc, append-nil, arith, length-append, length-drop, drop-drop}
use lib.Seq.{drop-append-le}
use Rattle.poet.specs.Rows.{State, rows, whole, cut}
use Rattle.poet.specs.Laws.{Stream, feed, feeds, flat, finish, PiecesLaw}
use Rattle.poet.proofs.Rows.{rows_front, rows_add}

module _ (e c : List ℕ → List ℕ) (s : State) where
  -- what stands after the bytes `m`
  abbrev after : List ℕ → Stream
  after m = record { at = rows e c (whole m) s m; held = drop (16 * whole m) m }

  feed_after : (m p : List ℕ) → feed e c (after m) p ≡ after (m ++ p)
  unfolding feed
  feed_after m p =
      let n : ℕ = whole m in
      let l : 16 * n ≤ length m = omega arith in
      let d : drop (16 * n) m ++ p ≡ drop (16 * n) (m ++ p) = sym (drop-append-le (16 * n) m p l) in
      let j : ℕ = whole (drop (16 * n) (m ++ p)) in
      let g : whole (m ++ p) ≡ n + j = omega (arith, length-append m p, length-drop (16 * n) (m ++ p)) in
      let i : 16 * n + 16 * j ≡ 16 * (n + j) = omega arith in
      rw (d, g, rows_add e c n j s (m ++ p), rows_front e c n s m p l, drop-drop (16 * j) (16 * n) (m ++ p), i)

  feeds_after : (ps : List (List ℕ)) (m : List ℕ) → feeds e c (after m) ps ≡ after (m ++ flat ps)
  feeds_after [] m = rw (append-nil m)
  feeds_after (p ∷ ps) m = rw (feed_after m p, feeds_after ps (m ++ p), append_assoc m p (flat ps))

  finish_after : (S m fill : List ℕ) → finish e c S (after m) fill ≡ cut e c S (whole m) (length m - 16 * whole m) s m fill
  unfolding finish cut
  finish_after S m fill = rw (length-drop (16 * whole m) m)

pub pieces_law : PiecesLaw
unfolding rows
pieces_law e c s ps = record {
  so_far = feeds_after e c s ps [];
  at_end = λ S fill. rw (feeds_after e c s ps []) (finish_after e c s S (flat ps) fill);
}
