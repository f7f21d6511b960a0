-- What the steps of settling find.
use Rattle.std.specs.Prelude.{◌≡◌, List, Option, Some, None}
use Rattle.std.specs.List.{AllZip, AllByRecursion}
use Rattle.clock.specs.Reports.{ClockHistory}
use Rattle.clock.specs.Judging.{IsLegal}
use Rattle.clock.specs.Standing.{phase_of}
use Rattle.lot_base.specs.declared.phases.Phase.TheVariants.{Ended}
use Rattle.settlement.specs.Clocks.{choice_of, has_no_choice}
use Rattle.settlement.specs.Settling.{OfFirst, IsClockRow}
use Rattle.settlement.specs.declared.outcome.ClockRow.{ClockRow}
use Rattle.settlement.specs.declared.choosing.Choices.{Choices}
use Rattle.settlement.specs.declared.choosing.Choices.TheVariants.{All, NoneOf}

-- the row of a clock, or none where no choice clears
abbrev pub IsRowOf : ClockHistory → Option ClockRow → Type 0
IsRowOf c None = choice_of c ≡ None
IsRowOf c (Some row) = IsClockRow c row

-- what was found of a clock is its row, where it has ended
abbrev pub IsFoundOf : ClockHistory → Option ClockRow → Type 0
IsFoundOf c found = phase_of c ≡ Ended → IsRowOf c found

-- the rows of all clocks, whose histories are legal, or the number of the first of which no choice clears
abbrev pub AreChoicesOf : List ClockHistory → Choices → Type 0
AreChoicesOf clocks (All rows) = AllZip IsClockRow clocks rows × AllByRecursion IsLegal clocks
AreChoicesOf clocks (NoneOf clock) = OfFirst has_no_choice clocks (λ c. clock ≡ c.number)
