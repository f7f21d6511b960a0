use Rattle.settlement.proofs.TruthPays.{revenue-reserve}
use Rattle.settlement.proofs.PriceBounds.{revenue-at-most}
use Rattle.settlement.proofs.incentives.revenue_law.Goals as goal

pub returns : goal.returns
returns c u terms clocks o h is = (revenue-reserve u terms clocks o h is, revenue-at-most u terms clocks o h is)
