use Rattle.lot_base.proofs.Demand.{surplus_bounds, surplus_reached}
use Rattle.lot_base.proofs.laws.utility_law.Goals as goal

pub returns-clause-reached : goal.returns-clause-reached
returns-clause-reached c = λ supply p u. let best = surplus_reached supply u p in (best.bundle, best.below, best.is)

pub returns-clause-bound : goal.returns-clause-bound
returns-clause-bound c = λ supply p x u within. surplus_bounds supply u p x within
