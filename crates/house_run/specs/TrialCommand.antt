-- The command `trial AUCTION VALUES [--workers N]`: what the clocks of an auction settle where each bidder reports what it demands by its valuation.
-- The number of workers changes nothing of it.
use Rattle.std.specs.Prelude.{◌≡◌, ℕ, List, Some}
use Rattle.lot_base.specs.declared.auction_terms.Terms.{Terms}
use Rattle.settlement.specs.declared.outcome.Outcome.{Outcome}
use Rattle.outcome_text.specs.Plain.{plain_text}
use Rattle.house_run.specs.Markets.{IsMarketAt, TriesAs}
use Rattle.house_run.specs.Needs.{Needs, nothing_needed}
use Rattle.house_run.specs.Seen.{ShelfSeen}

abbrev pub trial_needs : List ℕ → List ℕ → Needs
trial_needs auction values = record nothing_needed { auction = Some auction; values = Some values }

-- the text is the outcome of the trial of the market that the two files say
pub record TrialDone (auction values : List ℕ) (shelf : ShelfSeen) (text : List ℕ) : Type 0 where
  pub terms : Terms
  pub valuations : List (List ℕ)
  pub market : IsMarketAt shelf auction values terms valuations
  pub outcome : Outcome
  pub tries : TriesAs terms valuations outcome
  pub text_is : text ≡ plain_text outcome
