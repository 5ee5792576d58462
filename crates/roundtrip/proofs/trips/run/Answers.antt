use Rattle.roundtrip.proofs.Writing.{nothing_written, written}
use Rattle.roundtrip.proofs.trips.run.Goals as goal

pub returns-in_err-write-clause-failed : goal.returns-in_err-write-clause-failed
returns-in_err-write-clause-failed g c =
    nothing_written _ _ _ _ _ _ c.under-shaft.ensures c.under-four.ensures c.under-ten.ensures c.under-mirror.ensures c.under-padded.ensures c.under-speck.ensures _ c.from_residual.result

pub returns : goal.returns
returns g c =
    let is = written _ _ _ _ _ _ c.under-shaft.ensures c.under-four.ensures c.under-ten.ensures c.under-mirror.ensures c.under-padded.ensures c.under-speck.ensures _ _ _ _ _ c.put.result c.new-text.ensures c.in_ok-write.ensures.bytes c.as_slice.ensures.bytes c.put.ensures in
    record { ran = is.0; failed = is.1 }
