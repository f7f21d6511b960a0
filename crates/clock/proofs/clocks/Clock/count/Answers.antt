use Rattle.std.proofs.Common.{◌≤◌, ◌*◌, length, arith}
use Rattle.std.proofs.Math.Nat.{mul-le-mul}
use Rattle.clock.specs.Reports.{ClockHistory, members_of}
use Rattle.clock.proofs.Taking.{count-reports}
use Rattle.clock.proofs.Totals.{members-few}
use Rattle.clock.proofs.Counting.{more-reports}
use Rattle.clock.proofs.clocks.Clock.count.Goals as goal

-- one report of each member to a round, and one more round
pub overflow_cast-result : goal.overflow_cast-result
overflow_cast-result c =
    let i = c.self.inside in
    let h : ClockHistory = record { terms = i.terms; number = i.number; reports = i.past.reports } in
    let n = count-reports h _ i.left i.steps 0 i.phase i.prices i.account i.tables i.excess.0 c.self.invariant.0.standing c.self.invariant.0.round in
    let f = members-few i.terms.bidders i.number in
    let b = i.terms.bidders_in_range.at_most in
    let few : length (members_of h) ≤ 12 = omega (arith, f, b) in
    let m : i.steps * length (members_of h) ≤ 60000 * 12 = mul-le-mul c.self.invariant.0.standing.few few in
    omega (arith, n, m, few, c.self.invariant.0.round.counted, c.count.ensures)

pub returns-clause-more : goal.returns-clause-more
returns-clause-more c = rw (← c.self.view_is) (λ r take.
    let i = c.self.inside in
    let h : ClockHistory = record { terms = i.terms; number = i.number; reports = i.past.reports } in
    more-reports h r _ i.left i.steps i.phase i.prices i.account i.tables i.excess.0 c.self.invariant.0.standing c.self.invariant.0.round take)
