use Rattle.lot_base.proofs.Demand.{IsIn-demand, demand-IsIn}
use Rattle.lot_base.proofs.laws.demand_law.Goals as goal

pub returns : goal.returns
returns c = λ supply p x u. (demand-IsIn supply u p x, IsIn-demand supply u p x)
