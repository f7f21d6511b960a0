-- Reports that repeat, taken from their payloads without a demand's being read.
use Rattle.std.specs.Prelude.{◌≡◌, ℕ, List}
use Rattle.lot_base.specs.declared.auction_terms.Terms.{Terms}
use Rattle.demand_set.specs.declared.reports.Report.{Report}
use Rattle.clock.specs.Reports.{ClockOf, applied}
use Rattle.clock.specs.Judging.{judgement_of}
use Rattle.clock.specs.declared.judging.Judgement.TheVariants.{Take}
use Rattle.recovery.specs.Entries.{Spells}
use Rattle.recovery.specs.Streams.{ReportsOf, Passes}

-- the report that a payload spells is taken and applied
pub record TakesPayload (old new : ClockOf) (terms : Terms) (payload : List ℕ) : Type 0 where
  pub report : Report
  pub spells : Spells terms payload report
  pub taken : judgement_of old.history report ≡ Take
  pub applied_is : new ≡ applied old report

-- the reader passes a report, which is taken and applied
pub record TakesNext (old new : ClockOf) (before after : ReportsOf) : Type 0 where
  pub report : Report
  pub passes : Passes before after report
  pub taken : judgement_of old.history report ≡ Take
  pub applied_is : new ≡ applied old report
