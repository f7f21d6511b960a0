-- The command `standing AUCTION JOURNALS`: how each clock of an auction stands.
use Rattle.std.specs.Prelude.{◌≡◌, ℕ, List, Some}
use Rattle.std.specs.List.{flat_map}
use Rattle.lot_base.specs.declared.auction_terms.Terms.{Terms}
use Rattle.clock.specs.Reports.{ClockHistory}
use Rattle.house_run.specs.Journals.{AreHistories}
use Rattle.house_run.specs.Needs.{Needs, nothing_needed}
use Rattle.house_run.specs.Seen.{ShelfSeen}
use Rattle.house_run.specs.Texts.{standing_of}

abbrev pub standing_needs : List ℕ → List ℕ → Needs
standing_needs auction journals = record nothing_needed { auction = Some auction; journals = Some journals }

-- the text has the standing line of each clock, in the order of their numbers
pub record StandingDone (auction journals : List ℕ) (shelf : ShelfSeen) (text : List ℕ) : Type 0 where
  pub terms : Terms
  pub histories : List ClockHistory
  pub are : AreHistories shelf auction journals terms histories
  pub text_is : text ≡ flat_map standing_of histories
