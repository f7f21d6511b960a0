use Rattle.std.proofs.Common.{arith}
use Rattle.clock.proofs.Totals.{member-count_all, member-count_but}
use Rattle.clock.proofs.rounds.member_count.Goals as goal

pub returns-then-clock-eq0 : goal.returns-then-clock-eq0
returns-then-clock-eq0 c = member-count_all c.args.bidders c.args.clock c.if-clock-eq0.true

pub returns-else-clock-eq0 : goal.returns-else-clock-eq0
returns-else-clock-eq0 c = let n = member-count_but c.args.bidders c.args.clock c.if-clock-eq0.false c.requires in omega (arith, n)
