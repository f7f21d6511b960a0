use Rattle.clock_book.proofs.Histories.{history-opened, noted-opened}
use Rattle.clock_book.proofs.noted.NotedClock.new.Goals as goal

pub invariant_of-result : goal.invariant_of-result
invariant_of-result c =
    let reports = c.args.clock.history.reports in
    rw c.of-opened.ensures (noted-opened reports)

pub returns-clause-history : goal.returns-clause-history
returns-clause-history c = rw c.of-opened.ensures (history-opened c.args.clock.history.reports)
