-- Every run of a session hands out the blocks of the rows.
use Rattle.std.proofs.Common.{◌≡◌, ℕ, ◌*◌, ◌<◌, ◌≤◌, ◌↔◌, List, length, take, sym, refl, ap, ◌∙◌, subst, arith, take_at}
use Rattle.block.specs.Bytes.{Bytes}
use Rattle.poet.specs.Functions.{Functions, Lawful}
use Rattle.poet.specs.Seal.{Tied, Seals}
use Rattle.poet.specs.Rows.{State, turned, rows, whole, start}
use Rattle.poet.proofs.Rows.{rows_kept}
use Rattle.poet.proofs.Turn.{turn, rows_turn}
use Rattle.poet.proofs.Fronts.{rows_begin, front_length, front_only}
use Rattle.poet.proofs.Opening.{ways, start_kept, start_out, turned_kept, cipher_length, sealed_accepts}
use Rattle.poet.proofs.Computing.{computing_law}
use Rattle.poet.proofs.Ties.{row, ties}
use Rattle.poet.proofs.Prefix.{prefix_law, seal_tied}
use Rattle.session.specs.Directions.{Direction, sealing, opening, picks, turns}
use Rattle.session.specs.Runs.{Run}
use Rattle.session.specs.Promise.{TiedBy, Blocks, AgreesWith}
use Rattle.session.specs.Sessions.{Taken, rows_of}
use Rattle.session.proofs.Stretches.{both_ways, turns_kept, turns_out, out_length}

-- the first k blocks of what n rows gave out
front : (e c : List ℕ → List ℕ) (k n : ℕ) (s : State) (m : List ℕ) → k ≤ n → length (rows e c k s m).out ≡ 16 * k → take (16 * k) (rows e c n s m).out ≡ (rows e c k s m).out
front e c k n s m l j =
    let p = rows_begin e c k n s m l in
    ap (take (16 * k)) p.1 ∙ take_at (rows e c k s m).out p.0 (16 * k) j

module _ (f : Functions) (L : Lawful f) (H : List ℕ) (hb : Bytes H) where
  -- a sealing's blocks
  seal_ties : (M C : List ℕ) (k : ℕ) → Bytes M → 16 * k ≤ length M → (rows f.enc f.chain k (start f H) M).out ≡ take (16 * k) C → Tied f H k M C
  seal_ties M C k b l e = record { X = λ i. (row f L H hb k M b l i).x; Y = λ i. (row f L H hb k M b l i).y; rows = ties f L H hb k M b l C e }

  -- an opening's blocks: sealing them again gives the ciphertext
  open_ties : (C M : List ℕ) (k : ℕ) → Bytes C → Bytes M → 16 * k ≤ length C → 16 * k ≤ length M → (rows f.dec f.chain k (turned (start f H)) C).out ≡ take (16 * k) M → Tied f H k M C
  unfolding start
  open_ties C M k bc bm lc lm e =
      let s : State = turned (start f H) in
      let back = rows_turn f.dec f.enc f.chain (turn (ways f L)) k s C (turned_kept f L H hb) refl bc lc in
      let fr = front_only f.enc f.dec f.chain (ways f L) (start f H) (start_kept f L H hb) (start_out f L H) k M bm lm in
      seal_ties M C k bm lm (ap (λ (z : State). z.out) fr ∙ ap (λ (u : List ℕ). (rows f.enc f.chain k (start f H) u).out) (sym e) ∙ ap (λ (z : State). z.out) back)

tied_by : (f : Functions) (L : Lawful f) (w : Direction) (R : Run) → Bytes R.header → Bytes R.body → Bytes R.out → (k : ℕ) → 16 * k ≤ length R.body → 16 * k ≤ length R.out
    → (rows (picks w f.enc f.dec) f.chain k (turns w (start f R.header)) R.body).out ≡ take (16 * k) R.out → TiedBy w f R.header k R.body R.out
tied_by f L sealing R hb bb ob k l m e = seal_ties f L R.header hb R.body R.out k bb l e
tied_by f L opening R hb bb ob k l m e = open_ties f L R.header hb R.body R.out k bb ob l m e

-- a session after a run
pub blocks : (f : Functions) → Lawful f → (w : Direction) (R : Run) → Taken R → R.out ≡ (rows_of w f R).out → Blocks w f R
blocks f L w R t e =
    let W = both_ways f L w in
    let s : State = turns w (start f R.header) in
    let sk = turns_kept f L w R.header t.header_bytes in
    let so = turns_out f L w R.header in
    let ol = out_length f L w R t.header_bytes t.body_bytes e in
    let ob : Bytes R.out = rw e (rows_kept (picks w f.enc f.dec) f.chain W.permutes.enc_block W.cb (whole R.body) s R.body sk t.body_bytes (omega arith)).bytes in
    record {
      header_bytes = t.header_bytes;
      body_bytes = t.body_bytes;
      out_bytes = ob;
      out_most = omega arith;
      handed = λ k l. omega arith;
      tied =
          λ k l.
          let fl = front_length (picks w f.enc f.dec) (picks w f.dec f.enc) f.chain W s sk so k R.body t.body_bytes (omega arith) in
          tied_by f L w R t.header_bytes t.body_bytes ob k (omega arith) (omega arith)
          (sym (ap (take (16 * k)) e ∙ front (picks w f.enc f.dec) f.chain k (whole R.body) s R.body (omega arith) fl));
    }

pub two_runs : (w : Direction) (f : Functions) → Lawful f → (R R' : Run) → Blocks w f R → Blocks w f R' → R'.header ≡ R.header
    → (k : ℕ) → 16 * k < length R.body → 16 * k < length R'.body
    → (take (16 * k) R.out ≡ take (16 * k) R'.out) ↔ (take (16 * k) R.body ≡ take (16 * k) R'.body)
two_runs sealing f L R R' b b' h k l l' =
    prefix_law f L R.header b.header_bytes R.body R'.body R.out R'.out k b.body_bytes b'.body_bytes (omega arith) (omega arith) (b.tied k l) (subst (λ (H : List ℕ). Tied f H k R'.body R'.out) h (b'.tied k l'))
two_runs opening f L R R' b b' h k l l' =
    let p =
    prefix_law f L R.header b.header_bytes R.out R'.out R.body R'.body k b.out_bytes b'.out_bytes (b.handed k l) (b'.handed k l') (b.tied k l)
    (subst (λ (H : List ℕ). Tied f H k R'.out R'.body) h (b'.tied k l')) in
    (p.1, p.0)

pub agrees : (w : Direction) (f : Functions) → Lawful f → (R : Run) → Blocks w f R → AgreesWith w f R
agrees w f L R b = λ R' b' h k l l'. two_runs w f L R R' b b' h k l l'

-- a ciphertext is as long as its message
pub seal_long : (f : Functions) → Lawful f → (H M C T : List ℕ) → Seals f H M C T → length C ≡ length M
seal_long f L H M C T s = cipher_length f L H M C T ((computing_law f L H M C T).1 s)

-- a seal's message and ciphertext, taken and handed out one way or the other
pub sealed_blocks : (f : Functions) → Lawful f → (b H M C T : List ℕ) → Seals f H M C T → Blocks sealing f (record { key = b; header = H; body = M; out = C }) × Blocks opening f (record { key = b; header = H; body = C; out = M })
sealed_blocks f L b H M C T s =
    let c = (computing_law f L H M C T).1 s in
    let n = seal_long f L H M C T s in
    let cb = (sealed_accepts f L H M C T c).limits.bytes in (
      record {
        header_bytes = s.limits.header_bytes;
        body_bytes = s.limits.bytes;
        out_bytes = cb;
        out_most = omega arith;
        handed = λ k l. omega arith;
        tied = λ k l. seal_tied f H M C T k s l;
      },
      record {
        header_bytes = s.limits.header_bytes;
        body_bytes = cb;
        out_bytes = s.limits.bytes;
        out_most = omega arith;
        handed = λ k l. omega arith;
        tied = λ k l. seal_tied f H M C T k s (omega arith);
      },
    )
