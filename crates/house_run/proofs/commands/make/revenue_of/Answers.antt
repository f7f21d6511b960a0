use Rattle.std.proofs.Common.{arith}
use Rattle.std.proofs.lemmas.Int.{ints, to_z-of_z}
use Rattle.house_run.proofs.Summing.{pays-next, pays-all}
use Rattle.house_run.proofs.commands.make.revenue_of.Goals as goal

pub loop-row-preserved : goal.loop-row-preserved
loop-row-preserved c = record {
  sum = (
      let e = pays-next c.args.rows.now c.loop-row.row-index c.row-item.result _ _ c.loop-row-test.true c.row-item.is c.wide_pays-revenue.ensures.value c.loop-row.invariant.sum in
      grind (arith, ints, to_z-of_z, e));
  low = (let s = c.wide_pays-revenue.ensures.low in let i = c.loop-row.invariant.low in omega (arith, ints));
  high = (let s = c.wide_pays-revenue.ensures.high in let i = c.loop-row.invariant.high in omega (arith, ints));
}

pub returns : goal.returns
returns c = pays-all c.args.rows.now c.loop-row.row-index _ (omega (arith, c.loop-row-test.false, c.loop-row.auto)) c.loop-row.invariant.sum
