-- The history that is found is that of the clock that was found.
use Rattle.std.proofs.Common.{◌≡◌, Some, None, Option, sym, ◌∙◌, ap, subst}
use Rattle.std.specs.Prelude.{find, option_copied, MatchOption}
use Rattle.clock.specs.Reports.{histories}
use Rattle.settlement.specs.Clocks.{is_running}
use Rattle.settlement.specs.Settling.{NoneIs, IsOutcomeOf}
use Rattle.settlement.specs.declared.outcome.Settlement.{Settlement}
use Rattle.settlement.proofs.Firsts.{of_first}
use Rattle.settlement.proofs.Histories.{found-histories}
use Rattle.settlement.proofs.open_clocks.open.Goals as goal

pub returns-in_err-clock-clause-outcome : goal.returns-in_err-clock-clause-outcome
returns-in_err-clock-clause-outcome c =
    let none : find is_running (histories c.args.clocks.now) ≡ None = found-histories is_running c.args.clocks.now None (sym (ap option_copied c.in_err-clock.was) ∙ c.first_running.ensures) in
    let P : Option Settlement → Type 0 = λ o. MatchOption o (NoneIs is_running (histories c.args.clocks.now)) (IsOutcomeOf (histories c.args.clocks.now)) in
    subst P (sym c.from_residual.ensures) none

pub returns-clause-outcome : goal.returns-clause-outcome
returns-clause-outcome c =
    let found = found-histories is_running c.args.clocks.now (Some c.in_ok-clock.clock.now) (sym (ap option_copied c.in_ok-clock.was) ∙ c.first_running.ensures) in
    of_first is_running (histories c.args.clocks.now) _ c.in_ok-clock.clock.now.history found (c.number.ensures.value, c.look.ensures.round, c.missing.ensures)
