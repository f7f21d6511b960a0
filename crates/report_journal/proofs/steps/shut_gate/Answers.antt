use Rattle.std.proofs.Common.{arith}
use Rattle.report_journal.proofs.Forming.{shutting}
use Rattle.report_journal.proofs.steps.shut_gate.Goals as goal

pub returns-clause-moments : goal.returns-clause-moments
returns-clause-moments g c told =
    let told_mid = c.write_synced.ensures.later.told told in
    shutting _ _ _ (c.size.ensures.moments told_mid) (omega (arith, c.in_ok-size.ensures.size told_mid)) (c.write_synced.ensures.moments told)
