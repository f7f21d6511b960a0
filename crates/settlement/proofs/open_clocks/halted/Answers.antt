-- The clock that was found has halted.
use Rattle.std.proofs.Common.{◌≡◌, Some, None, Option, sym, ◌∙◌, ap, subst}
use Rattle.std.specs.Prelude.{find, option_copied, MatchOption}
use Rattle.clock.specs.Standing.{phase_of}
use Rattle.settlement.specs.Clocks.{is_halted}
use Rattle.settlement.specs.Settling.{NoneIs, IsOutcomeOf}
use Rattle.settlement.specs.declared.outcome.Settlement.{Settlement}
use Rattle.clock.specs.Reports.{histories}
use Rattle.settlement.proofs.Histories.{found-histories}
use Rattle.settlement.proofs.Firsts.{of_first, halts-first, halts-not}
use Rattle.settlement.proofs.open_clocks.halted.Goals as goal

pub returns-in-Running : goal.returns-in-Running
returns-in-Running c =
    let found : find is_halted (histories c.args.clocks.now) ≡ Some c.in_ok-clock.clock.now.history =
    found-histories is_halted c.args.clocks.now (Some c.in_ok-clock.clock.now) (sym (ap option_copied c.in_ok-clock.was) ∙ c.first_halted.ensures) in
    let halts = halts-first (histories c.args.clocks.now) c.in_ok-clock.clock.now.history found in
    absurd (halts-not c.look.result.phase (phase_of c.in_ok-clock.clock.now.history) c.look.ensures.phase halts c.in-Running.is)

pub returns-in_err-clock-clause-outcome : goal.returns-in_err-clock-clause-outcome
returns-in_err-clock-clause-outcome c =
    let none : find is_halted (histories c.args.clocks.now) ≡ None = found-histories is_halted c.args.clocks.now None (sym (ap option_copied c.in_err-clock.was) ∙ c.first_halted.ensures) in
    let P : Option Settlement → Type 0 = λ o. MatchOption o (NoneIs is_halted (histories c.args.clocks.now)) (IsOutcomeOf (histories c.args.clocks.now)) in
    subst P (sym c.from_residual.ensures) none

pub returns-in-Halted-clause-outcome : goal.returns-in-Halted-clause-outcome
returns-in-Halted-clause-outcome c =
    let found = found-histories is_halted c.args.clocks.now (Some c.in_ok-clock.clock.now) (sym (ap option_copied c.in_ok-clock.was) ∙ c.first_halted.ensures) in (
      c.requires,
      of_first is_halted (histories c.args.clocks.now) _ c.in_ok-clock.clock.now.history found (c.number.ensures.value, sym c.look.ensures.phase ∙ c.in-Halted.is),
    )
