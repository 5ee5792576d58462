use Rattle.std.proofs.Common.{◌≡◌, ℕ, ◌<◌, length, get_or, rules, lit<}
use Rattle.aes.specs.State.{add_round_key}
use Rattle.aes.specs.Cipher.{key_at, rounds, cipher4}
use Rattle.aes.proofs.Blocks.{block_from}
use Rattle.aes.proofs.Inverses.{add_block}
use Rattle.aes.proofs.Schedules.{held}
use Rattle.aes.proofs.Undone.{rounds_block}
use Rattle.aes.proofs.Schedule.encipher4.Goals as goal

pub returns : goal.returns
unfolding cipher4
returns c =
    let ks = c.args.self.now.keys in
    let s = held c.args.self.now in
    let x = c.args.x in
    let lx : length c.args.x ≡ 16 = search rules in
    let hx : (i : ℕ) → i < 16 → get_or c.args.x i 0 < 256 = search rules in
    let start = add_round_key (key_at ks 0) x in
    c.leave_tower.ensures (rounds ks 4 start) (rounds_block ks s 4 (lit< tt) start (add_block (key_at ks 0) x (s.each 0 (lit< tt)) (block_from x lx hx))) c.whole_rounds.ensures
