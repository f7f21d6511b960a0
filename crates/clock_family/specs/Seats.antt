-- A seat of a house: what it keeps, and what may be asked there.
use Rattle.std.specs.Prelude.{List}
use Rattle.clock_book.specs.declared.entries.Entry.{Entry}
use Rattle.clock_book.specs.declared.origins.Origin.{Origin}
use Rattle.session.specs.declared.halls.Asked.{Asked}
use Rattle.session.specs.declared.halls.Asked.TheVariants as asked
use Rattle.turn_desk.specs.Passes.{Known}
use Rattle.clock_family.specs.Turns.{LooksAt, OffersAt}

-- what was asked, and what the pass has seen and made of each clock before and after
abbrev pub SeatAllows : List (Known Entry Origin) → Asked → List (Known Entry Origin) → Type 0
SeatAllows before (asked.Look clock look) after = LooksAt clock look before after
SeatAllows before (asked.Offer clock bidder round demand answer) after = OffersAt clock (record { bidder = bidder; round = round; demand = demand }) answer before after
