use Rattle.std.proofs.Common.{◌≡◌, ◌+◌, ◌-◌, not, nat_eq, false}
use Rattle.std.specs.Prelude.{find, filter, slice_index_or}
use Rattle.std.specs.List.{range_with_len}
use Rattle.clock.specs.Reports.{members}
use Rattle.clock.proofs.rounds.missing_in.Given as goal

abbrev pub invariant-loop-step : goal.invariant-loop-step
invariant-loop-step l =
    find (λ j. not (slice_index_or l.reported j false)) (filter (λ j. not (nat_eq j l.clock)) (range_with_len (1 + l.step) (l.bidders - l.step)))
    ≡ find (λ j. not (slice_index_or l.reported j false)) (members l.bidders l.clock)
