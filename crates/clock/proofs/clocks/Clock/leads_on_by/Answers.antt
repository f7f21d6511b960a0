use Rattle.std.proofs.Common.{◌≡◌, ◌∙◌, ◌-◌, ℕ, Bool, true, false, not, Option, Some, None, is_some, is_none, refl, sym, ap, subst}
use Rattle.clock.specs.Reports.{ClockOf, ClockHistory}
use Rattle.clock.specs.Standing.{step_set_after, steps_of, leads_on}
use Rattle.clock.specs.Repeats.{IsIdle, with_round}
use Rattle.clock.proofs.AgainRounds.{leads-by}
use Rattle.clock.proofs.clocks.Clock.leads_on_by.Goals as goal

flip : (o : Option ℕ) (b : Bool) → is_some o ≡ not b → b ≡ is_none o
flip None true e = refl
flip None false e = e
flip (Some x) true e = e
flip (Some x) false e = refl

pub returns : goal.returns
returns c =
    let i = c.self.inside in
    let h : ClockHistory = record { terms = i.terms; number = i.number; reports = i.past.reports } in
    let I : ClockOf → Type 0 = λ z. IsIdle z.history in
    flip c.first_at.result c.is_none.result c.is_none.ensures
    ∙ leads-by h i.past i.left i.steps i.phase i.prices i.tables i.excess.0 i.account c.args.set.0 c.first_at.result c.self.invariant.0 (subst I (sym c.self.view_is) c.requires.idle)
    (c.requires.same ∙ ap (λ (z : ClockOf). step_set_after z.history (steps_of z.history - 1)) (sym c.self.view_is)) c.first_at.ensures
    ∙ ap (λ (z : ClockOf). leads_on (with_round z.history) (steps_of z.history)) c.self.view_is
