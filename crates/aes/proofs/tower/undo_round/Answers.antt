use Rattle.std.proofs.Common.{◌≡◌, ℕ, ◌<◌, length, get_or, rules}
use Rattle.aes.proofs.Blocks.{block_from}
use Rattle.aes.proofs.Inverses.{unshift_block, unmix_block}
use Rattle.aes.proofs.EachState.{unsub_bytes_is}
use Rattle.aes.proofs.tower.undo_round.Goals as goal

pub returns : goal.returns
returns c =
    let s = c.args.state in
    let l : length s ≡ 16 = search rules in
    let h : (i : ℕ) → i < 16 → get_or s i 0 < 256 = search rules in
    unsub_bytes_is c.unmix.result _ (unshift_block _ (unmix_block s (block_from s l h))) c.unmix.ensures _ c.map_inverses.ensures
