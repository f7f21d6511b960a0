use Rattle.std.proofs.Common.{arith}
use Rattle.house_run.proofs.Summing.{steps-next, steps-all}
use Rattle.house_run.proofs.commands.make.steps_in.Goals as goal

pub loop-row-preserved : goal.loop-row-preserved
loop-row-preserved c = record {
  sum = steps-next c.args.rows.now c.loop-row.row-index c.row-item.result c.loop-row.steps c.wide_steps-steps.result c.loop-row-test.true c.row-item.is c.wide_steps-steps.ensures.value c.loop-row.invariant.sum;
  small = (let s = c.wide_steps-steps.ensures.small in let i = c.loop-row.invariant.small in omega arith);
}

pub returns : goal.returns
returns c = steps-all c.args.rows.now c.loop-row.row-index c.loop-row.steps (omega (arith, c.loop-row-test.false, c.loop-row.auto)) c.loop-row.invariant.sum
