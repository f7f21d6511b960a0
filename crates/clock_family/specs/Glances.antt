-- What a clock shows is told from one number of its history, which may be read without a turn at its desk.
-- It is twice the number of the last or current round, and one more where that round is the last: prices rise from one round to the next,
-- and a clock that has ended or is halted stays so.
use Rattle.std.specs.Prelude.{◌≡◌, ◌<◌, ℕ, ◌+◌, ◌*◌, List, length, Some}
use Rattle.lot_base.specs.declared.phases.Phase.{Phase}
use Rattle.lot_base.specs.declared.phases.Phase.TheVariants.{Running, Ended, Halted}
use Rattle.clock.specs.Reports.{ClockHistory}
use Rattle.clock.specs.Standing.{last_round, phase_of}
use Rattle.clock.specs.declared.clocks.Look.{Look}
use Rattle.clock_book.specs.declared.entries.Entry.{Entry}
use Rattle.clock_book.specs.declared.origins.Origin.{Origin}
use Rattle.clock_book.specs.Past.{owner_in}
use Rattle.turn_desk.specs.Histories.{StartsWith}
use Rattle.turn_desk.specs.Passes.{Known}
use Rattle.clock_family.specs.Turns.{Shows, clock_in}

-- 1 for a clock that goes no further
abbrev pub stopped : Phase → ℕ
stopped Running = 0
stopped Ended = 1
stopped (Halted good) = 1

-- the number of a round that stands like this
abbrev pub gauge_by : ℕ → Phase → ℕ
gauge_by round phase = 2 * round + stopped phase

-- the number of a clock, and of the clock of this origin with the reports of a desk's history
abbrev pub gauge_of : ClockHistory → ℕ
gauge_of c = gauge_by (last_round c) (phase_of c)

abbrev pub gauge_in : Origin → List Entry → ℕ
gauge_in origin history = gauge_of (clock_in (owner_in origin) history)

-- This is shown in the history that a pass has seen.
pub record IsShownTo (p : Known Entry Origin) (look : Look) : Type 0 where
  pub origin : Origin
  pub origin_is : p.origin ≡ Some origin
  pub shows : Shows (clock_in (owner_in origin) p.seen) look
  pub goods : length look.prices ≡ length origin.terms.goods
  pub halted : (good : ℕ) → look.phase ≡ Halted good → good < length origin.terms.goods

-- A pass that has seen more, and nothing else of it changed.
pub record SeesOn (old new : Known Entry Origin) : Type 0 where
  pub history : List Entry
  pub goes_on : StartsWith history old.seen
  pub sees : new ≡ record old { seen = history }
