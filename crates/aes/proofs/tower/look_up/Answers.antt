use Rattle.aes.proofs.Lanes.{swizzle_ok, looked_up}
use Rattle.aes.proofs.tower.look_up.Goals as goal

pub swizzle : goal.swizzle
swizzle c = swizzle_ok c.args.places c.fits-places.0 c.requires

pub returns : goal.returns
returns c = looked_up c.args.table c.args.places c.fits-places.0
