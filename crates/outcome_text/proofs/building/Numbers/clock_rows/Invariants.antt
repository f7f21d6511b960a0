use Rattle.outcome_text.proofs.ClockRows.{AreClocksTaken}
use Rattle.outcome_text.proofs.building.Numbers.clock_rows.Given as goal

abbrev pub invariant-loop-clock : goal.invariant-loop-clock
invariant-loop-clock l = AreClocksTaken l.goods l.bidders l.clock l.initial.self.rest.now l.self.rest.now l.rows.items
