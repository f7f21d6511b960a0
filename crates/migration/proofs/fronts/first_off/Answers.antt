use Rattle.std.proofs.Common.{◌≡◌, rules, arith}
use Rattle.migration.proofs.Matching.{same-more}
use Rattle.migration.proofs.fronts.first_off.Goals as goal

pub loop-place-preserved : goal.loop-place-preserved
loop-place-preserved c =
    let alike : c.in_ok-found.found ≡ c.in_ok-report.report = search rules in
    record {
      few = omega arith;
      same = same-more c.args.target.now.history.reports c.args.source.now.history.reports c.loop-place.place c.in_ok-found.found c.in_ok-report.report c.loop-place.invariant.same c.in_ok-found.ensures c.in_ok-report.ensures alike;
    }
