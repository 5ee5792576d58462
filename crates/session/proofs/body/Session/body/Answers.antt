use Rattle.std.proofs.Common.{◌≡◌, ℕ, ◌+◌, ◌*◌, ◌/◌, true, false, ltb, ◌++◌, length, take, drop, refl, ap, ap₂, arith, length-append, length-drop, length-take, rules, le-ltb, lt-ltb}
use Rattle.poet.specs.Rows.{whole, start}
use Rattle.block.proofs.Xors.{bytes_append, bytes_from}
use Rattle.poet.specs.Seal.{body_most}
use Rattle.session.specs.Directions.{picks, turns}
use Rattle.session.specs.Runs.{Run, bodied}
use Rattle.session.specs.Sessions.{Taken, SessionAt, held, writes}
use Rattle.session.proofs.Promises.{blocks, agrees}
use Rattle.session.proofs.Stretches.{out_length, stretched, left}
use Rattle.session.proofs.body.Session.body.Goals as goal

pub returns-then-out-written-clause-refused : goal.returns-then-out-written-clause-refused
returns-then-out-written-clause-refused g c =
    λ R a.
    let f = g.S.Suite.under R.key in
    let P = c.args.input.now in
    let k = a.total_is in
    let m = ap length c.as_slice.ensures.bytes in
    let u = c.saturating_sub-n.ensures in
    let o = out_length f (g.met.S.Suite.lawful R.key a.taken.key_block) g.W.Way.way R a.taken.header_bytes a.taken.body_bytes a.out_is in
    let e : ltb body_most (length R.body + length P) ≡ false = le-ltb body_most (length R.body + length P) (omega arith) in
    let d : ltb (length c.args.out.now) (writes (held R + length P)) ≡ true = lt-ltb (length c.args.out.now) (writes (held R + length P)) (omega arith) in
    rw (e, d) (record { is = cc; number = refl; layer = refl })

pub returns : goal.returns
returns g c =
    let P = c.args.input.now in
    let s = c.args.self.now in
    let m = ap length c.as_slice.ensures.bytes in
    let v = c.saturating_sub-n.ensures in
    let n : ℕ = c.saturating_sub-n.result / 16 in
    let o = λ (R : Run) (a : SessionAt R s). out_length (g.S.Suite.under R.key) (g.met.S.Suite.lawful R.key a.taken.key_block) g.W.Way.way R a.taken.header_bytes a.taken.body_bytes a.out_is in
    let on : (R : Run) → SessionAt R s → whole (R.body ++ P) ≡ whole R.body + n = λ R a. let k = a.total_is in let l = length-append R.body P in omega arith in
    let ran = λ (R : Run) (a : SessionAt R s). c.run-self.ensures.ran (g.S.Suite.under R.key) R.header a.engine in
    let q =
    λ (R : Run) (a : SessionAt R s).
    let f = g.S.Suite.under R.key in
    stretched (picks g.W.Way.way f.enc f.dec) f.chain (turns g.W.Way.way (start f R.header)) R.body P (s.held ++ P) n (ap (λ z. z ++ P) a.held_is) (on R a) _ _ _ _ R.out a.x_is a.y_is a.out_is (ran R a) in
    let T : (R : Run) → SessionAt R s → Taken (bodied R P (take (16 * n) c.run-self.new.out)) =
    λ R a.
    record {
      key_block = a.taken.key_block;
      header_bytes = a.taken.header_bytes;
      header_most = a.taken.header_most;
      body_bytes = bytes_append R.body P a.taken.body_bytes (bytes_from P (λ i j. search rules));
    } in
    let b =
    λ (R : Run) (a : SessionAt R s).
    blocks (g.S.Suite.under R.key) (g.met.S.Suite.lawful R.key a.taken.key_block) g.W.Way.way (bodied R P (take (16 * n) c.run-self.new.out)) (T R a) (q R a).2 in
    record {
      room = omega arith;
      refused =
          λ R a.
          let k = a.total_is in
          let w = o R a in
          let e : ltb body_most (length R.body + length P) ≡ false = le-ltb body_most (length R.body + length P) (omega arith) in
          let d : ltb (length c.args.out.now) (writes (held R + length P)) ≡ false = le-ltb (length c.args.out.now) (writes (held R + length P)) (omega arith) in
          rw (e, d);
      unaltered = tt;
      answer = λ R a. let k = a.total_is in let w = o R a in ap₂ (λ (i j : ℕ). (i, j)) (omega arith) (omega arith);
      rest = λ R a. (ran R a).rest;
      taken =
          λ R a.
          let f = g.S.Suite.under R.key in
          let k = a.total_is in
          let l = length-append R.body P in
          record {
            taken = T R a;
            engine = a.engine;
            x_is = (q R a).0;
            y_is = (q R a).1;
            out_is = (q R a).2;
            held_is = left (picks g.W.Way.way f.enc f.dec) f.chain (turns g.W.Way.way (start f R.header)) R.body P (s.held ++ P) n (ap (λ z. z ++ P) a.held_is) (on R a) _ c.run-self.ensures.left;
            total_is = omega arith;
          };
      blocks = b;
      two_runs = λ R a. agrees g.W.Way.way (g.S.Suite.under R.key) (g.met.S.Suite.lawful R.key a.taken.key_block) _ (b R a);
    }

pub invariant_of-self : goal.invariant_of-self
invariant_of-self g c =
    let s = c.args.self.now in
    let n : ℕ = c.saturating_sub-n.result / 16 in
    let u = c.saturating_sub-n.ensures in
    let m = ap length c.as_slice.ensures.bytes in
    let w = s.within in
    let d = s.split in
    let l = ap length c.run-self.ensures.left in
    let k = length-drop (16 * n) (s.held ++ c.args.input.now) in
    let j = length-append s.held c.args.input.now in
    let i = length-take 16 (drop (16 * n) (s.held ++ c.args.input.now)) in
    record { within = omega arith; split = omega arith }
