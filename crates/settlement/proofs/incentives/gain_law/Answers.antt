use Rattle.settlement.proofs.TruthPays.{gain-is, gain-most}
use Rattle.settlement.proofs.incentives.gain_law.Goals as goal

pub returns-clause-gain : goal.returns-clause-gain
returns-clause-gain c = gain-is

pub returns-clause-most : goal.returns-clause-most
returns-clause-most c = gain-most
