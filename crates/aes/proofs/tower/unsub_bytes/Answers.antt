use Rattle.std.proofs.Common.{◌≡◌, ℕ, ◌<◌, length, get_or, rules}
use Rattle.aes.proofs.Blocks.{block_from}
use Rattle.aes.proofs.tower.unsub_bytes.Goals as goal

pub returns : goal.returns
returns c =
    let s = c.args.state in
    let l : length s ≡ 16 = search rules in
    let h : (i : ℕ) → i < 16 → get_or s i 0 < 256 = search rules in
    c.end_unsub_bytes.ensures s (block_from s l h) c.begin_unsub_bytes.ensures
