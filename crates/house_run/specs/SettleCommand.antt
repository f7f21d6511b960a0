-- The command `settle AUCTION JOURNALS [--json]`: what the clocks of an auction settle.
use Rattle.std.specs.Prelude.{◌≡◌, ℕ, Bool, true, List, Some}
use Rattle.settlement.specs.declared.outcome.Outcome.{Outcome}
use Rattle.settlement.specs.declared.outcome.Settlement.TheVariants.{Settled}
use Rattle.house_run.specs.Needs.{Needs, nothing_needed}
use Rattle.house_run.specs.Outcomes.{SettlesAs, text_of_outcome}
use Rattle.house_run.specs.Seen.{ShelfSeen}

abbrev pub settle_needs : List ℕ → List ℕ → Needs
settle_needs auction journals = record nothing_needed { auction = Some auction; journals = Some journals; settles = true }

-- the clocks settle with an outcome, which the text tells
pub record SettleDone (auction journals : List ℕ) (json : Bool) (shelf : ShelfSeen) (text : List ℕ) : Type 0 where
  pub outcome : Outcome
  pub settled : SettlesAs shelf auction journals (Settled outcome)
  pub text_is : text ≡ text_of_outcome json outcome
