use Rattle.lot_base.proofs.Ascending.{IsDemand-demand}
use Rattle.lot_base.proofs.laws.report_law.Goals as goal

pub returns : goal.returns
returns c = λ supply p u. IsDemand-demand supply u p
