use Rattle.std.proofs.Common.{◌≡◌, sym, subst, arith, length}
use Rattle.std.proofs.lemmas.Bool.Decides.{nat_tests}
use Rattle.clock.specs.Reports.{ClockOf, ClockHistory, members_of}
use Rattle.clock.specs.Repeats.{IsIdle}
use Rattle.clock.proofs.AgainRounds.{idle-empty, idle-none}
use Rattle.clock.proofs.clocks.Clock.is_idle.Goals as goal

pub returns-clause-idle : goal.returns-clause-idle
returns-clause-idle c = λ all.
    let i = c.self.inside in
    let h : ClockHistory = record { terms = i.terms; number = i.number; reports = i.past.reports } in
    let I : ClockOf → Type 0 = λ z. IsIdle z.history in
    let m = c.member_count.ensures in
    let left : i.left ≡ length (members_of h) = grind (arith, nat_tests) in
    subst I c.self.view_is (idle-empty h i.past i.left i.steps i.phase i.prices i.tables i.excess.0 i.account c.self.invariant.0 c.if-self-eq0.false left)

pub returns-clause-busy : goal.returns-clause-busy
returns-clause-busy c = λ idle.
    let i = c.self.inside in
    let h : ClockHistory = record { terms = i.terms; number = i.number; reports = i.past.reports } in
    let I : ClockOf → Type 0 = λ z. IsIdle z.history in
    let all = idle-none h i.past i.left i.steps i.phase i.prices i.tables i.excess.0 i.account c.self.invariant.0 (subst I (sym c.self.view_is) idle) in
    let m = c.member_count.ensures in
    grind (arith, nat_tests)
