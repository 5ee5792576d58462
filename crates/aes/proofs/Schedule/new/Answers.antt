use Rattle.std.proofs.Common.{◌≡◌, ℕ, ◌+◌, ◌<◌, [], length, get_or, sym, arith, rules}
use Rattle.aes.proofs.Blocks.{block_from, block_at}
use Rattle.aes.proofs.Words.{key_first}
use Rattle.aes.proofs.Schedules.{same_keys, set_key, placed_none, placed_more, next_is, power_none, power_more, is_schedule}
use Rattle.aes.proofs.Schedule.new.Goals as goal

pub loop-i-init : goal.loop-i-init
loop-i-init c =
    let l : length c.args.key ≡ 16 = search rules in
    let b : (i : ℕ) → i < 16 → get_or c.args.key i 0 < 256 = search rules in
    (same_keys c.args.key (block_from c.args.key l b), sym (key_first c.args.key l), (rw power_none (omega arith)), placed_none c.args.key l)

pub loop-i-preserved : goal.loop-i-preserved
loop-i-preserved c =
    let l : length c.next_key-next.result ≡ 16 = search rules in
    let b : (i : ℕ) → i < 16 → get_or c.next_key-next.result i 0 < 256 = search rules in
    let i = c.loop-i.invariant in
    let h : c.loop-i.i + 1 < 11 = omega arith in
    let n =
    next_is c.args.key c.loop-i.i c.loop-i.rc c.loop-i.k c.next_key-next.result (omega arith) i.1 i.2 c.next_key-next.ensures
    in (
      set_key c.loop-i.keys (c.loop-i.i + 1) c.next_key-next.result i.0 h (block_from c.next_key-next.result l b),
      n,
      (let p = power_more c.loop-i.i in cc),
      placed_more c.args.key c.loop-i.keys c.loop-i.i c.next_key-next.result i.0.count (omega arith) i.3 n,
    )

pub invariant_of-result : goal.invariant_of-result
invariant_of-result c =
    let s = c.loop-i.invariant.0 in
    record { count = s.count; sizes = λ i h. (s.each i h).long; bytes = λ i h j l. block_at _ (s.each i h) j; forth_count = c.map-forth.ensures.items.long; entered = λ i h. let m = (c.map-forth.ensures.items.at i [] [] (omega (arith, s.count))).2 in search rules; back_count = c.map-back.ensures.items.long; unmixed = λ i h. let m = (c.map-back.ensures.items.at i [] [] (omega (arith, s.count))).2 in search rules }

pub returns : goal.returns
returns c = is_schedule c.args.key c.loop-i.keys c.loop-i.invariant.0.count (λ i h. c.loop-i.invariant.3 i (omega arith))
