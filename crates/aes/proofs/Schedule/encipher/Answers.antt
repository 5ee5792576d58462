use Rattle.std.proofs.Common.{◌≡◌, ℕ, ◌<◌, length, get_or, rules}
use Rattle.aes.proofs.Blocks.{block_from}
use Rattle.aes.proofs.Schedule.encipher.Goals as goal

pub returns : goal.returns
returns c =
    let lx : length c.args.x ≡ 16 = search rules in
    let hx : (i : ℕ) → i < 16 → get_or c.args.x i 0 < 256 = search rules in
    c.last_round.ensures c.args.x (block_from c.args.x lx hx) c.whole_rounds.ensures
