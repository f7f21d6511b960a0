use Rattle.std.proofs.Common.{arith}
use Rattle.report_journal.specs.Format.{first_gate}
use Rattle.report_journal.proofs.Placed.{after_roomy}
use Rattle.report_journal.proofs.journal.Journal.attach.Goals as goal

pub invariant_of-result : goal.invariant_of-result
invariant_of-result g c =
    let order = rw c.in-Formed.is at c.requires.in_order in
    rw c.into_vec-places.ensures (
      record { spelled = order.0; limit = order.3; roomy = omega (arith, after_roomy c.in-Formed.records (first_gate c.in-Formed.header), order.2); room = (omega arith, λ some. absurd (omega (arith, some))) },
      λ told.
          let found = rw c.in-Formed.is at (c.requires.scanned told) in
          (record { stands = (found.0, found.1.0); placed = found.1.1; size = found.1.2 }, tt),
      c.requires.claimed,
    )
