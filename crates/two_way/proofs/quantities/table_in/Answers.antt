use Rattle.std.proofs.Common.{drop, length, refl, sym}
use Rattle.clock.proofs.Excesses.{found-fits, blank-small}
use Rattle.two_way.proofs.Adding.{small-amount, blank-table}
use Rattle.two_way.proofs.quantities.table_in.Goals as goal

pub table_of-requires-clause-fits : goal.table_of-requires-clause-fits
table_of-requires-clause-fits c = found-fits c.args.goods.now (drop c.args.from c.args.reports.now.reports) c.args.round c.args.bidder c.in-Some.kept.now.demand c.requires.fit (sym c.in-Some.ensures.demand)

pub returns-in-Some-clause-small : goal.returns-in-Some-clause-small
returns-in-Some-clause-small c =
    small-amount c.args.goods.now c.args.amount c.in-Some.kept.now.demand c.table_of.result.0 c.count-count.ensures.supply
    (found-fits c.args.goods.now (drop c.args.from c.args.reports.now.reports) c.args.round c.args.bidder c.in-Some.kept.now.demand c.requires.fit (sym c.in-Some.ensures.demand)) c.table_of.ensures

pub returns-in-None-clause-table : goal.returns-in-None-clause-table
returns-in-None-clause-table c = blank-table (length c.args.goods.now) c.args.amount (drop c.args.from c.args.reports.now.reports) c.args.round c.args.bidder _ refl (sym c.in-None.ensures.demand)

pub returns-in-None-clause-small : goal.returns-in-None-clause-small
returns-in-None-clause-small c = blank-small _ refl
