use Rattle.std.proofs.Common.{◌*◌, ◌∙◌, ap, sym, subst, arith, length}
use Rattle.clock.specs.Reports.{ClockOf, ClockHistory}
use Rattle.clock.specs.Standing.{steps_of, leads_on}
use Rattle.clock.specs.Repeats.{IsIdle, with_round}
use Rattle.clock.proofs.Again.{steps-most}
use Rattle.clock.proofs.AgainRounds.{left-none}
use Rattle.clock.proofs.clocks.Clock.steps_left.Goals as goal

pub overflow_sub-result : goal.overflow_sub-result
overflow_sub-result c =
    let i = c.self.inside in
    let h : ClockHistory = record { terms = i.terms; number = i.number; reports = i.past.reports } in
    let m = steps-most h in
    let k = ap (λ n. n * i.terms.ceiling) c.count.ensures.length in
    omega (arith, m, k, c.self.invariant.0.standing.steps_are)

pub returns-clause-left : goal.returns-clause-left
returns-clause-left c =
    let i = c.self.inside in
    let h : ClockHistory = record { terms = i.terms; number = i.number; reports = i.past.reports } in
    let m = steps-most h in
    let k = ap (λ n. n * i.terms.ceiling) c.count.ensures.length in
    let s = ap (λ (z : ClockOf). steps_of z.history) c.self.view_is in
    let g = ap (λ (z : ClockOf). length z.history.terms.goods * z.history.terms.ceiling) c.self.view_is in
    omega (arith, m, k, s, g, c.self.invariant.0.standing.steps_are)

pub returns-clause-last : goal.returns-clause-last
returns-clause-last c = λ idle none.
    let i = c.self.inside in
    let h : ClockHistory = record { terms = i.terms; number = i.number; reports = i.past.reports } in
    let I : ClockOf → Type 0 = λ z. IsIdle z.history in
    let k = ap (λ n. n * i.terms.ceiling) c.count.ensures.length in
    let l = left-none h i.past i.left i.steps i.phase i.prices i.tables i.excess.0 i.account c.self.invariant.0 (subst I (sym c.self.view_is) idle) (omega (arith, k, none)) in
    sym (ap (λ (z : ClockOf). leads_on (with_round z.history) (steps_of z.history)) c.self.view_is) ∙ l
