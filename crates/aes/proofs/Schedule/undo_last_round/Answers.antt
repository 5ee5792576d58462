use Rattle.std.proofs.Common.{◌≡◌, ℕ, ◌<◌, length, get_or, rules, ap, ◌∙◌, subst}
use Rattle.aes.specs.State.{inv_shift_rows, inv_sub_bytes}
use Rattle.aes.specs.Grouping.{unrounds}
use Rattle.aes.specs.Between.{LeadsTo}
use Rattle.aes.proofs.Blocks.{block_from}
use Rattle.aes.proofs.Undoing.{undoing_begins}
use Rattle.aes.proofs.Schedule.undo_last_round.Goals as goal

pub returns : goal.returns
returns c =
    let ks = c.args.self.now.keys in
    let start = c.unshift_rows.result in
    let l : length start ≡ 16 = search rules in
    let h : (i : ℕ) → i < 16 → get_or start i 0 < 256 = search rules in
    subst (λ z. LeadsTo ks 9 c.begin_unsub_bytes.result (unrounds ks 9 (inv_sub_bytes z))) (c.unshift_rows.ensures ∙ ap inv_shift_rows c.add_round_key.ensures) (undoing_begins ks 9 c.begin_unsub_bytes.result start (block_from start l h) c.begin_unsub_bytes.ensures)
