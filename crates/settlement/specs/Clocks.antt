-- The clocks of an auction: that of all bidders, with the number 0, and for each bidder that of all others, with the bidder's
-- number. So there is one clock more than there are bidders. Each has terms and reports of its own.
use Rattle.std.specs.Prelude.{◌≡◌, ◌+◌, ℕ, Bool, true, false, List, map, Option, Some, None, is_none, if◌then◌else◌, ◌==◌}
use Rattle.std.specs.List.{AllByRecursion, range_with_len}
use Rattle.lot_base.specs.Choices.{first_choice}
use Rattle.lot_base.specs.declared.auction_terms.Terms.{Terms}
use Rattle.lot_base.specs.declared.phases.Phase.{Phase}
use Rattle.lot_base.specs.declared.phases.Phase.TheVariants.{Running, Ended, Halted}
use Rattle.clock.specs.Reports.{ClockHistory, members_of}
use Rattle.clock.specs.Standing.{phase_of, prices_of, last_demands}

-- all clocks of an auction on these terms, in the order of their numbers
pub record AreClocksOf (terms : Terms) (clocks : List ClockHistory) : Type 0 where
  pub numbers : map (λ (c : ClockHistory). c.number) clocks ≡ range_with_len 0 (terms.bidders + 1)
  pub terms_are : AllByRecursion (λ (c : ClockHistory). c.terms ≡ terms) clocks

-- the opening prices as an outcome shows them: those that the seller has named, so none in the first version
abbrev pub opening_of : Terms → Option (List ℕ)
opening_of terms = if terms.version == 2 then Some terms.opening else None

-- whether a clock is running, and whether it has halted
abbrev pub runs : Phase → Bool
runs Running = true
runs Ended = false
runs (Halted good) = false

abbrev pub has_stopped : Phase → Bool
has_stopped Running = false
has_stopped Ended = false
has_stopped (Halted good) = true

abbrev pub is_running : ClockHistory → Bool
is_running c = runs (phase_of c)

abbrev pub is_halted : ClockHistory → Bool
is_halted c = has_stopped (phase_of c)

-- the first choice that clears, of what the members demand in the last round at its prices, if one does
unfoldable pub choice_of : ClockHistory → Option (List (List ℕ))
choice_of c = first_choice c.terms.goods c.terms.opening (prices_of c) (map (last_demands c) (members_of c))

abbrev pub has_no_choice : ClockHistory → Bool
has_no_choice c = is_none (choice_of c)
