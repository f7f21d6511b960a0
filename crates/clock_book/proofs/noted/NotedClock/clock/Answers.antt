use Rattle.std.proofs.Common.{◌∙◌, sym, ap}
use Rattle.clock_book.specs.DeskHistories.{NotedOf, reports_in}
use Rattle.clock_book.proofs.noted.NotedClock.clock.Goals as goal

pub returns-clause-reports : goal.returns-clause-reports
returns-clause-reports c = ap (λ (v : NotedOf). reports_in v.history) (sym c.self.view_is) ∙ c.self.invariant.reports_are ∙ ap (λ (v : NotedOf). v.clock.reports) c.self.view_is
