-- What the clocks of an auction settle, by the histories that their journals have.
use Rattle.std.specs.Prelude.{ℕ, ℤ, List, Bool, IsTrue, if◌then◌else◌}
use Rattle.lot_base.specs.declared.auction_terms.Terms.{Terms}
use Rattle.clock.specs.Reports.{ClockHistory}
use Rattle.settlement.specs.Settling.{IsOutcomeOf, NoneIs}
use Rattle.settlement.specs.Clocks.{is_running, is_halted, has_no_choice}
use Rattle.settlement.specs.Efficient.{ExplainsAll, IsEfficientSettlement}
use Rattle.settlement.specs.Incentives.{IsAmongTruthful, IsChargedBy}
use Rattle.settlement.specs.declared.outcome.Outcome.{Outcome}
use Rattle.settlement.specs.declared.outcome.Settlement.{Settlement}
use Rattle.outcome_text.specs.Json.{json_text}
use Rattle.outcome_text.specs.Plain.{plain_text}
use Rattle.house_run.specs.Journals.{AreHistories}
use Rattle.house_run.specs.Needs.{Needs, Has}
use Rattle.house_run.specs.Seen.{ShelfSeen}

-- The histories of clocks on these terms settle so. Where one valuation for each bidder, with strong substitutes, explains the reports of
-- all clocks, an outcome is the bidders' equilibrium at the least such prices, with the payments of Vickrey, Clarke and Groves; each
-- clock has a choice that clears, and none halts whose ceiling is above all values. And whatever a bidder reports, where the reports of all
-- others are true it pays what these three ask, at least the reserve of its award and at most its price, and nothing for nothing.
pub record IsSettlement (terms : Terms) (histories : List ClockHistory) (s : Settlement) : Type 0 where
  pub outcome : IsOutcomeOf histories s
  pub efficient : (u : ℕ → List ℕ → ℤ) → ExplainsAll u histories → IsEfficientSettlement u terms s
  pub charged : (i : ℕ) (u : ℕ → List ℕ → ℤ) → IsAmongTruthful i u terms histories → IsChargedBy i u terms s

-- the histories that the journals of the auction have settle so
pub record SettlesAs (shelf : ShelfSeen) (auction journals : List ℕ) (s : Settlement) : Type 0 where
  pub terms : Terms
  pub histories : List ClockHistory
  pub are : AreHistories shelf auction journals terms histories
  pub settlement : IsSettlement terms histories s

-- a command that settles clocks finds this
abbrev pub Settles : Needs → ShelfSeen → Settlement → Type 0
Settles needs shelf s = IsTrue needs.settles × Has needs.auction (λ auction. Has needs.journals (λ journals. SettlesAs shelf auction journals s))

-- each clock has ended, with a choice that clears
pub record HaveClosed (histories : List ClockHistory) : Type 0 where
  pub none_running : NoneIs is_running histories
  pub none_halted : NoneIs is_halted histories
  pub none_without_choice : NoneIs has_no_choice histories

-- the text of an outcome
abbrev pub text_of_outcome : Bool → Outcome → List ℕ
text_of_outcome json outcome = if json then json_text outcome else plain_text outcome
