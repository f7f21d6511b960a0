use Rattle.std.proofs.Common.{◌∙◌, ap}
use Rattle.clock.specs.Reports.{ClockOf, ClockHistory}
use Rattle.clock.specs.Standing.{missing_of}
use Rattle.clock.proofs.Latest.{missing-marked}
use Rattle.clock.proofs.clocks.Clock.missing.Goals as goal

pub returns : goal.returns
returns c =
    let i = c.self.inside in
    let h : ClockHistory = record { terms = i.terms; number = i.number; reports = i.past.reports } in
    c.unwrap_or.ensures
    ∙ missing-marked h i.steps i.latest.items i.reported _ c.self.invariant.1 c.self.invariant.0.standing.steps_are c.missing_in.ensures
    ∙ ap (λ (k : ClockOf). missing_of k.history) c.self.view_is
