use Rattle.std.proofs.Common.{subst}
use Rattle.std.specs.Prelude.{List}
use Rattle.clock.specs.Reports.{ClockHistory}
use Rattle.settlement.specs.Settling.{IsOutcomeOf}
use Rattle.settlement.proofs.One.{one-outcome, all-alike}
use Rattle.trial.proofs.Prices.{one-history}
use Rattle.trial.proofs.Whole.{one-trial}
use Rattle.trial.proofs.laws.one_trial.Goals as goal

pub returns-clause-history : goal.returns-clause-history
returns-clause-history c = λ u g h tg th terms number. one-history u g h tg th terms number

pub returns-clause-histories : goal.returns-clause-histories
returns-clause-histories c = λ terms u cs ds tc td. one-trial u terms cs ds tc td

pub returns-clause-outcome : goal.returns-clause-outcome
returns-clause-outcome c = λ terms u cs ds s t tc td is it.
    let P : List ClockHistory → Type 0 = λ ks. IsOutcomeOf ks s in
    one-outcome ds ds s t (all-alike ds) (subst P (one-trial u terms cs ds tc td) is) it
