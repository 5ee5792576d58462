use Rattle.std.proofs.Common.{◌≡◌, length, bit_xor, map, ap, ◌∙◌, rules}
use Rattle.std.proofs.lemmas.Simd.{zip2_splat, map-map}
use Rattle.aes.specs.declared.tables.TheConstants.{AFFINE_CONSTANT}
use Rattle.aes.specs.Tower.{in_tower}
use Rattle.aes.proofs.tower.enter_round_key.Goals as goal

pub returns : goal.returns
returns c =
    let l : length c.args.key ≡ 16 = search rules in
    c.map_bytes.ensures ∙ ap (map in_tower) (zip2_splat bit_xor c.args.key 16 AFFINE_CONSTANT l) ∙ map-map in_tower (λ x. bit_xor x AFFINE_CONSTANT) c.args.key
