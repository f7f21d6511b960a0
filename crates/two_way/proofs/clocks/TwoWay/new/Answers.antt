use Rattle.std.proofs.Common.{ap, arith}
use Rattle.two_way.specs.Histories.{TwoWayHistory}
use Rattle.two_way.specs.Past.{PastOf}
use Rattle.two_way.proofs.Keeping.{kept-first}
use Rattle.two_way.proofs.clocks.TwoWay.new.Goals as goal

pub invariant_of-result : goal.invariant_of-result
invariant_of-result c =
    let h : TwoWayHistory = record { terms = c.args.terms.now; number = c.args.number; start = c.args.start.now; reports = c.new-past.result.reports } in (
      kept-first h c.first-standing.result (ap (λ (p : PastOf). p.reports) c.new-past.ensures) c.requires.start c.requires.number c.first-standing.ensures,
      record { goods_are = ap (λ (p : PastOf). p.goods) c.new-past.ensures; before = omega arith; earlier = tt },
    )
