use Rattle.std.proofs.Common.{◌∙◌, ◌-◌, sym, ap, subst, arith, length, List, get_or}
use Rattle.lot_base.specs.declared.supply.GoodSet.{GoodSet}
use Rattle.clock.specs.Reports.{ClockOf, ClockHistory}
use Rattle.clock.specs.Standing.{step_set_after, steps_of}
use Rattle.clock.specs.Repeats.{IsIdle}
use Rattle.clock.proofs.AgainRounds.{last-inside, last-is}
use Rattle.clock.proofs.clocks.Clock.last_set.Goals as goal

pub bounds-sets-self-inside : goal.bounds-sets-self-inside
bounds-sets-self-inside c =
    let i = c.self.inside in
    let h : ClockHistory = record { terms = i.terms; number = i.number; reports = i.past.reports } in
    let I : ClockOf → Type 0 = λ z. IsIdle z.history in
    let l = ap length c.sets.ensures in
    let b = last-inside h i.past i.left i.steps i.phase i.prices i.tables i.excess.0 i.account c.self.invariant.0 (subst I (sym c.self.view_is) c.requires) in
    omega (arith, l, b)

pub returns : goal.returns
returns c =
    let i = c.self.inside in
    let h : ClockHistory = record { terms = i.terms; number = i.number; reports = i.past.reports } in
    let I : ClockOf → Type 0 = λ z. IsIdle z.history in
    ap (λ (sets : List GoodSet). (get_or sets (i.steps - 1) (record { 0 = 0 })).0) c.sets.ensures
    ∙ last-is h i.past i.left i.steps i.phase i.prices i.tables i.excess.0 i.account c.self.invariant.0 (subst I (sym c.self.view_is) c.requires)
    ∙ ap (λ (z : ClockOf). step_set_after z.history (steps_of z.history - 1)) c.self.view_is
