use Rattle.std.proofs.Common.{ap, ◌∙◌, lit<}
use Rattle.aes.specs.State.{add_round_key, shift_rows}
use Rattle.aes.specs.Cipher.{key_at, rounds, cipher}
use Rattle.aes.proofs.Inverses.{add_block}
use Rattle.aes.proofs.Schedules.{held}
use Rattle.aes.proofs.Undone.{rounds_block}
use Rattle.aes.proofs.Schedule.last_round.Goals as goal

pub returns : goal.returns
unfolding cipher
returns c = λ x b e.
    let ks = c.args.self.now.keys in
    let s = held c.args.self.now in
    let start = add_round_key (key_at ks 0) x in
    let u = c.sub_bytes_leaving.ensures (rounds ks 9 start) (rounds_block ks s 9 (lit< tt) start (add_block (key_at ks 0) x (s.each 0 (lit< tt)) b)) e in
    c.add_round_key.ensures ∙ ap (add_round_key (key_at ks 10)) (c.shift_rows.ensures ∙ ap shift_rows u)
