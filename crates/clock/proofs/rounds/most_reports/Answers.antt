use Rattle.std.proofs.Common.{◌≤◌, ◌+◌, ◌*◌, arith}
use Rattle.std.proofs.Math.Nat.{mul-le-mul}
use Rattle.clock.proofs.Totals.{members-few}
use Rattle.clock.proofs.rounds.most_reports.Goals as goal

pub returns-clause-few : goal.returns-clause-few
returns-clause-few c =
    let t = c.args.terms.now in
    let goods : c.count.result ≤ 6 = omega (arith, t.supply.few_goods, c.count.ensures) in
    let p : c.count.result * t.ceiling ≤ 6 * 10000 = mul-le-mul goods t.ceiling_in_range.at_most in
    let few : c.member_count.result ≤ 12 = omega (arith, c.member_count.ensures, members-few t.bidders c.args.number, t.bidders_in_range.at_most) in
    let rounds : c.count.result * t.ceiling + 1 ≤ 60001 = omega (arith, p) in
    mul-le-mul rounds few
