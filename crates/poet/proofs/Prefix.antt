-- The prefix laws.
use Rattle.std.proofs.Common.{◌≡◌, ℕ, ◌*◌, ◌<◌, ◌≤◌, List, length, take, sym, refl, ap, ◌∙◌, arith}
use Rattle.block.specs.Bytes.{Bytes, Block}
use Rattle.poet.specs.Functions.{Functions, Lawful}
use Rattle.poet.specs.Seal.{Limits, Rows, Tied, Seals}
use Rattle.poet.specs.Rows.{State, turned, rows, start, opened_rows, opened}
use Rattle.poet.specs.Laws.{PrefixLaw, SealingPrefix, OpeningPrefix}
use Rattle.poet.proofs.Turn.{turn, rows_turn}
use Rattle.poet.proofs.Fronts.{front_back, front_forth, front_only, cut_front}
use Rattle.poet.proofs.Opening.{ways, start_kept, start_out, turned_kept, opened_length, opened_bytes}
use Rattle.poet.proofs.Ties.{row, ties, tied}

-- the first k rows of n
rows_less : (f : Functions) (h : List ℕ) (k n : ℕ) (m c : List ℕ) (X Y : ℕ → List ℕ) → k ≤ n → Rows f h n m c X Y → Rows f h k m c X Y
rows_less f h k n m c X Y l R = record {
  X_first = R.X_first;
  Y_first = R.Y_first;
  X_row = λ i j. R.X_row i (omega arith);
  Y_row = λ i j. R.Y_row i (omega arith);
  C_row = λ i j. R.C_row i (omega arith);
}

-- what rows tie is what they compute
computed : (f : Functions) (L : Lawful f) (h : List ℕ) (hb : Bytes h) (k : ℕ) (m c : List ℕ) → Bytes m → 16 * k ≤ length m → Tied f h k m c → (rows f.enc f.chain k (start f h) m).out ≡ take (16 * k) c
computed f L h hb k m c b l t = (tied f L h hb k m b l c t.X t.Y t.rows k (omega arith)).2

pub prefix_law : PrefixLaw
prefix_law f L h hb m m' c c' k b b' l l' t t' =
    let w = ways f L in
    let p = computed f L h hb k m c b l t in
    let p' = computed f L h hb k m' c' b' l' t' in (
      (λ q. front_back f.enc f.dec f.chain w (start f h) (start_kept f L h hb) (start_out f L h) k m m' b b' l l' (p ∙ q ∙ sym p')),
      (λ q. sym p ∙ front_forth f.enc f.dec f.chain w (start f h) (start_kept f L h hb) (start_out f L h) k m m' b b' l l' q ∙ p'),
    )

pub seal_tied : (f : Functions) (h m c t : List ℕ) (k : ℕ) → Seals f h m c t → 16 * k < length m → Tied f h k m c
seal_tied f h m c t k s l = record {
  X = s.X;
  Y = s.Y;
  rows = rows_less f h k s.n m c s.X s.Y (omega (arith, s.cut, s.r_most)) s.rows;
}

pub sealing_prefix : SealingPrefix
sealing_prefix f L h m m' c c' t t' k s s' l l' =
    prefix_law f L h s.limits.header_bytes m m' c c' k s.limits.bytes s'.limits.bytes (omega arith) (omega arith)
    (seal_tied f h m c t k s l)
    (seal_tied f h m' c' t' k s' l')

-- the first k blocks that opening gives out
opened_front : (f : Functions) (L : Lawful f) (h c t : List ℕ) (k : ℕ) → Limits h c → 16 * k < length c
    → take (16 * k) (opened f h c t) ≡ (rows f.dec f.chain k (turned (start f h)) c).out
unfolding opened_rows
opened_front f L h c t k l lt =
    cut_front f.dec f.enc f.chain (turn (ways f L)) (turned (start f h)) (turned_kept f L h l.header_bytes) refl _ k c _ l.bytes lt

pub opened_tied : (f : Functions) (L : Lawful f) (h c t : List ℕ) (k : ℕ) → Limits h c → Block t → 16 * k < length c → Tied f h k (opened f h c t) c
unfolding start
opened_tied f L h c t k l bt lt =
    let w = turn (ways f L) in
    let s : State = turned (start f h) in
    let o : List ℕ = opened f h c t in
    let e : take (16 * k) o ≡ (rows f.dec f.chain k s c).out = opened_front f L h c t k l lt in
    let lo : 16 * k ≤ length o = omega (arith, opened_length f L h c t l bt) in
    let bo : Bytes o = opened_bytes f L h c t l bt in
    let back = rows_turn f.dec f.enc f.chain w k s c (turned_kept f L h l.header_bytes) refl l.bytes (omega arith) in
    let front = front_only f.enc f.dec f.chain (ways f L) (start f h) (start_kept f L h l.header_bytes) (start_out f L h) k o bo lo in
    record {
      X = λ i. (row f L h l.header_bytes k o bo lo i).x;
      Y = λ i. (row f L h l.header_bytes k o bo lo i).y;
      rows = ties f L h l.header_bytes k o bo lo c (ap (λ (z : State). z.out) front ∙ ap (λ (u : List ℕ). (rows f.enc f.chain k (start f h) u).out) e ∙ ap (λ (z : State). z.out) back);
    }

pub opening_prefix : OpeningPrefix
opening_prefix f L h c c' t t' k l l' bt bt' lt lt' =
    let a = opened_tied f L h c t k l bt lt in
    let b = opened_tied f L h c' t' k l' bt' lt' in
    let p =
    prefix_law f L h l.header_bytes (opened f h c t) (opened f h c' t') c c' k (opened_bytes f L h c t l bt) (opened_bytes f L h c' t' l' bt')
    (omega (arith, opened_length f L h c t l bt))
    (omega (arith, opened_length f L h c' t' l' bt'))
    a
    b in
    record { tied = a; same = (p.1, p.0) }
