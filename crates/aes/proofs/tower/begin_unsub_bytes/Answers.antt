use Rattle.std.proofs.Common.{◌≡◌, length, bit_xor, rules}
use Rattle.std.proofs.lemmas.Simd.{zip2_of_maps, splat_is_map}
use Rattle.aes.specs.declared.tables.TheConstants.{UNAFFINE, UNAFFINE_CONSTANT}
use Rattle.aes.specs.Tower.{by_halves}
use Rattle.aes.proofs.tower.begin_unsub_bytes.Goals as goal

pub returns : goal.returns
returns c =
    let s = c.args.state in
    let l : length s ≡ 16 = search rules in
    zip2_of_maps bit_xor (by_halves UNAFFINE) (λ _. UNAFFINE_CONSTANT) s c.map_bytes.ensures (splat_is_map s 16 UNAFFINE_CONSTANT l)
