use Rattle.std.proofs.Common.{◌≡◌, ℕ, ◌<◌, length, get_or, subst, sym, refl, arith, rules}
use Rattle.block.specs.Bytes.{Block}
use Rattle.block.proofs.Xors.{bytes_from}
use Rattle.speck.specs.Laws.{IsSchedule}
use Rattle.speck.proofs.Rounds.{made_none, made_more, made_all}
use Rattle.speck.proofs.Laws.{expands}
use Rattle.speck.proofs.Schedule.new.Goals as goal

pub loop-i-init : goal.loop-i-init
loop-i-init c = made_none c.args.key _ c.from_block-words.result refl c.from_block-words.ensures

pub loop-i-preserved : goal.loop-i-preserved
loop-i-preserved c = made_more c.args.key c.loop-i.k-items c.loop-i.i c.loop-i.words c.round-words.result (omega arith) c.round-words.ensures c.loop-i.invariant

pub returns : goal.returns
returns c = made_all c.args.key c.loop-i.k-items c.loop-i.i c.loop-i.words (omega arith) c.loop-i.invariant

-- a schedule has 32 words
pub invariant_of-result : goal.invariant_of-result
invariant_of-result c =
    let l : length c.args.key ≡ 16 = search rules in
    let b : (i : ℕ) → i < 16 → get_or c.args.key i 0 < 256 = search rules in
    let key : Block c.args.key = record { long = l; bytes = bytes_from c.args.key (λ i h. b i (omega arith)) } in
    let e = made_all c.args.key c.loop-i.k-items c.loop-i.i c.loop-i.words (omega arith) c.loop-i.invariant in
    let s = subst IsSchedule (sym e) (expands c.args.key key) in
    record { count = s.count; words = s.words }
