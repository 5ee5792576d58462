use Rattle.std.proofs.Common.{◌++◌, take}
use Rattle.std.proofs.KnownBytes.{Appends-trans}
use Rattle.streams.proofs.Steps.{more_written}
use Rattle.streams.proofs.put.Goals as goal

pub loop-preserved : goal.loop-preserved
loop-preserved g c =
    let (done, split, written) = c.loop.invariant in
    let rest = c.loop.rest.now in (
      done ++ take c.in_ok-n.n rest,
      more_written done rest c.args.bytes.now c.in_ok-n.n split,
      Appends-trans _ _ _ _ _ written c.in_ok-n.ensures.written,
    )
