-- How many reports there are at most.
use Rattle.std.proofs.Common.{◌≡◌, ◌≤◌, ℕ, ◌+◌, ◌*◌, List, length, Option, arith}
use Rattle.std.specs.Prelude.{ℤ}
use Rattle.std.proofs.Math.Nat.{mul-le-mul_right}
use Rattle.lot_base.specs.declared.phases.Phase.{Phase}
use Rattle.lot_base.specs.declared.tables.LeastTable.{LeastTable}
use Rattle.credit_book.specs.Account.{Sums}
use Rattle.demand_set.specs.declared.reports.Report.{Report}
use Rattle.clock.specs.declared.judging.Judgement.TheVariants.{Take}
use Rattle.clock.specs.Reports.{ClockHistory, members_of, most_reports}
use Rattle.clock.specs.Judging.{judgement_of}
use Rattle.clock.specs.Kept.{HasStanding, KeepsRound, reports_before}
use Rattle.clock.proofs.Again.{steps-most}
use Rattle.clock.proofs.Taking.{count-reports, some-left}

-- where a report is to be taken, there are fewer than the most
pub more-reports : (c : ClockHistory) (r : Report) (present : List Report) (left steps : ℕ) (phase : Phase) (prices : List ℕ) (account : Sums) (tables : List (Option LeastTable)) (sums : List ℤ) → HasStanding c (reports_before c steps) steps phase prices account → KeepsRound c present left steps tables sums
    → judgement_of c r ≡ Take → length c.reports + 1 ≤ most_reports c.terms c.number
more-reports c r present left steps phase prices account tables sums k round take =
    let n = count-reports c present left steps 0 phase prices account tables sums k round in
    let some = some-left c r present left steps phase prices account tables sums k round take in
    let few : steps + 1 ≤ length c.terms.goods * c.terms.ceiling + 1 = omega (arith, k.steps_are, steps-most c) in
    let m = mul-le-mul_right (length (members_of c)) few in
    let e : (steps + 1) * length (members_of c) ≡ steps * length (members_of c) + length (members_of c) = grind arith in
    omega (arith, n, some, round.counted, m, e)
