use Rattle.std.proofs.Common.{arith}
use Rattle.valuation.proofs.Steady.{stays-for, stays-quotient}
use Rattle.valuation.proofs.steadiness.lasts_at.Goals as goal

pub returns-then-least-units-clause-steady : goal.returns-then-least-units-clause-steady
returns-then-least-units-clause-steady c = λ n few. stays-for c.args.gap c.args.units c.args.least n c.args.limit (omega arith) few c.if-least-units.true

pub returns-clause-steady : goal.returns-clause-steady
returns-clause-steady c = λ n few. stays-quotient c.args.gap c.args.units c.args.least n (omega arith) (omega arith) few
