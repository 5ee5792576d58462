use Rattle.std.proofs.Common.{◌≡◌, Some, Ok, ap, subst}
use Rattle.report.proofs.Listing.{Reads, one_put}
use Rattle.report.proofs.lines.put_lines.Goals as goal

pub loop-entry-preserved : goal.loop-entry-preserved
loop-entry-preserved c es good e room =
    let l = c.loop-entry in
    let q : c.next.result ≡ Ok (Some c.in-Some.entry) = cc in
    one_put _ _ _ l.reader c.next.new.self es room (l.invariant es good e room) c.in-Some.entry (subst (Reads l.reader c.next.new.self) q c.next.ensures.follows) (ap (λ s. s.now) c.next.ensures.same) _ _ c.in_ok-at.ensures.text
