use Rattle.std.proofs.Common.{subst, sym}
use Rattle.house_run.specs.Steps.{IsTrialEnd}
use Rattle.house_run.proofs.Floating.{float-refused}
use Rattle.house_run.proofs.markets.float_market.Goals as goal

pub returns-in-Err-clause-ends : goal.returns-in-Err-clause-ends
returns-in-Err-clause-ends c = subst (IsTrialEnd c.args.terms.now c.args.valuations.now) (sym c.float_end.ensures) (float-refused c.args.terms.now c.args.valuations.now c.in-Err.fault c.in-Err.ensures.refused)
