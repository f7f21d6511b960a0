use Rattle.std.proofs.Common.{drop, ◌≡◌, ◌<◌, ◌+◌, ℕ, List, Option, length, sym, subst, arith}
use Rattle.lot_base.specs.declared.tables.Excess.{Excess}
use Rattle.lot_base.specs.declared.tables.LeastTable.{LeastTable}
use Rattle.clock.specs.Reports.{demands_in}
use Rattle.two_way.specs.Quantities.{amount_in, AreTables}
use Rattle.two_way.proofs.Adding.{IsAddedTo, added-keep, added-skip, tables-keep, tables-skip, placed}
use Rattle.two_way.proofs.quantities.demanded.Goals as goal
use Rattle.two_way.proofs.quantities.demanded.Goals.{then-bidder-clock, else-bidder-clock}

pub loop-step-preserved : goal.loop-step-preserved
loop-step-preserved c =
    let goods = c.args.goods.now in
    let clock = c.args.clock in
    let bidders = c.args.bidders in
    let amounts : ℕ → ℕ → ℕ = λ j set. amount_in c.args.amount (demands_in (drop c.args.from c.args.reports.now.reports) c.args.round j) set in
    let step = c.loop-step.step in
    let A : Excess → Type 0 = λ e. IsAddedTo goods amounts bidders clock (step + 1) e.0 in
    let T : List (Option LeastTable) → Type 0 = AreTables goods amounts (step + 1) clock in
    let L : List (Option LeastTable) → Type 0 = λ ts. length ts ≡ 13 in
    let before = c.loop-step.invariant in
    elim c.if-bidder-clock.branch [
      | then-bidder-clock w ↦
          let room : step + 1 < length c.loop-step.tables = omega (arith, before.places, c.loop-step-test.true, c.requires.few) in
          record {
            places = subst L (sym w.tables-is) (placed c.loop-step.tables (step + 1) _ before.places);
            tables = subst T (sym w.tables-is) (tables-keep goods amounts step clock c.loop-step.tables w.table_in-table.result room w.if-bidder-clock.true w.table_in-table.ensures.table before.tables);
            added = subst A (sym w.excess-is)
                (added-keep goods amounts bidders clock step w.table_in-table.result.0 c.loop-step.excess.0 w.add_table.new.excess.0 c.loop-step-test.true w.if-bidder-clock.true w.table_in-table.ensures.table w.table_in-table.ensures.small w.add_table.ensures before.added);
          }
      | else-bidder-clock w ↦ record {
        places = subst L (sym w.tables-is) before.places;
        tables = subst T (sym w.tables-is) (tables-skip goods amounts step clock c.loop-step.tables w.if-bidder-clock.false before.tables);
        added = subst A (sym w.excess-is) (added-skip goods amounts bidders clock step c.loop-step.excess.0 c.loop-step-test.true w.if-bidder-clock.false before.added);
      }
    ]
