use Rattle.clock.specs.Reports.{ClockOf}
use Rattle.std.proofs.Common.{ap, ◌∙◌}
use Rattle.clock.proofs.Truthful.{account-rise}
use Rattle.clock.proofs.Ledger.{account-kept}
use Rattle.clock.proofs.clocks.Clock.account.Goals as goal

pub returns-clause-sums : goal.returns-clause-sums
returns-clause-sums c = λ b. account-kept _ c.args.self.now.history _ _ _ _ _ b c.self.invariant.0.standing (ap (λ (k : ClockOf). k.history) c.self.view_is)

pub returns-clause-rise : goal.returns-clause-rise
returns-clause-rise c = λ u b explains. account-kept _ c.args.self.now.history _ _ _ _ _ b c.self.invariant.0.standing (ap (λ (k : ClockOf). k.history) c.self.view_is) ∙ account-rise u c.args.self.now.history b explains
