use Rattle.std.proofs.Common.{◌∙◌, ap, sym, arith, length}
use Rattle.clock.specs.Reports.{members}
use Rattle.outcome_text.proofs.ClockRows.{count-all, count-others}
use Rattle.outcome_text.proofs.building.member_count.Goals as goal

pub returns-then-clock-eq0 : goal.returns-then-clock-eq0
returns-then-clock-eq0 c = sym (ap (λ clock. length (members c.args.bidders clock)) c.if-clock-eq0.true ∙ count-all c.args.bidders)

pub returns-else-clock-eq0 : goal.returns-else-clock-eq0
returns-else-clock-eq0 c = omega (arith, count-others c.args.bidders c.args.clock (omega arith) (omega arith))
