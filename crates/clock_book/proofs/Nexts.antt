-- A report that a clock takes next is one that an entry may hold.
use Rattle.std.proofs.Common.{◌≡◌, ◌≤◌, ◌*◌, length, subst, arith}
use Rattle.std.proofs.Math.Nat.{mul-le-mul}
use Rattle.lot_base.specs.declared.auction_terms.Terms.{Terms}
use Rattle.demand_set.specs.declared.reports.Report.{Report}
use Rattle.clock.specs.Reports.{ClockHistory}
use Rattle.clock.specs.Judging.{IsJudgement}
use Rattle.clock.proofs.Again.{steps-most}
use Rattle.clock.proofs.Judges.{judgement-is}
use Rattle.recovery.specs.Entries.{IsReportOf}
use Rattle.clock_book.specs.Past.{IsNext}

pub next-report : (terms : Terms) (c : ClockHistory) (r : Report) → c.terms ≡ terms → IsNext c r → IsReportOf terms r
next-report terms c r same next = subst (λ (t : Terms). IsReportOf t r) same (
    let is = subst (IsJudgement c r) next.take (judgement-is c r) in
    let in_round = is.0 in
    let m : length c.terms.goods * c.terms.ceiling ≤ 6 * 10000 = mul-le-mul c.terms.supply.few_goods c.terms.ceiling_in_range.at_most in
    let few = steps-most c in
    record {
      from_one = in_round.member.from_one;
      to_last = in_round.member.to_last;
      round = omega (arith, in_round.to_last, few, m);
      fits = next.fits;
    })
