use Rattle.outcome_text.proofs.OneOutcome.{one-outcome}
use Rattle.outcome_text.proofs.laws.text_law.Goals as goal

pub returns : goal.returns
returns c = one-outcome
