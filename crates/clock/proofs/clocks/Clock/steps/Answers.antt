use Rattle.std.proofs.Common.{◌<◌, ℕ, ap, sym, subst, ◌∙◌}
use Rattle.clock.specs.Standing.{HasSteps, steps_of}
use Rattle.std.specs.Prelude.{pos, ◌≤ℤ◌}
use Rattle.lot_base.specs.Economy.{lyapunov}
use Rattle.clock.specs.Reports.{ClockOf, members_of}
use Rattle.clock.proofs.Path.{has_steps}
use Rattle.clock.proofs.Truthful.{few-steps-of, step-lowers, steps-are-highest}
use Rattle.clock.proofs.clocks.Clock.steps.Goals as goal

pub returns-clause-made : goal.returns-clause-made
returns-clause-made c = subst (HasSteps c.args.self.now.history) (sym (c.self.invariant.0.standing.steps_are ∙ ap steps_of (ap (λ (k : ClockOf). k.history) c.self.view_is))) (has_steps c.args.self.now.history)

pub returns-clause-lowers : goal.returns-clause-lowers
returns-clause-lowers c = λ u n explains below.
    let P : ℕ → Type 0 = λ steps. n < steps in
    step-lowers u c.args.self.now.history n explains (subst P (c.self.invariant.0.standing.steps_are ∙ ap steps_of (ap (λ (k : ClockOf). k.history) c.self.view_is)) below)

pub returns-clause-bound : goal.returns-clause-bound
returns-clause-bound c = λ u explains.
    let P : ℕ → Type 0 = λ n. pos n ≤ℤ lyapunov c.args.self.now.history.terms.goods u (members_of c.args.self.now.history) c.args.self.now.history.terms.opening in
    subst P (sym (c.self.invariant.0.standing.steps_are ∙ ap steps_of (ap (λ (k : ClockOf). k.history) c.self.view_is))) (few-steps-of u c.args.self.now.history explains)

pub returns-clause-highest : goal.returns-clause-highest
returns-clause-highest c = λ u explains. c.self.invariant.0.standing.steps_are ∙ ap steps_of (ap (λ (k : ClockOf). k.history) c.self.view_is) ∙ steps-are-highest u c.args.self.now.history explains
