-- The command `fold SUPPLY BIDDERS CEILING LOG`: one clock over a log.
use Rattle.std.specs.Prelude.{◌≡◌, ℕ, List, Some}
use Rattle.lot_base.specs.declared.auction_terms.Terms.{Terms}
use Rattle.clock.specs.Reports.{ClockHistory}
use Rattle.report_log.specs.Logs.{IsLogOf, log_limit}
use Rattle.house_run.specs.Needs.{Needs, nothing_needed}
use Rattle.house_run.specs.Seen.{ShelfSeen, IsRead}
use Rattle.house_run.specs.Texts.{standing_of}

abbrev pub fold_needs : Terms → List ℕ → Needs
fold_needs terms log = record nothing_needed { log = Some (record { terms = terms; name = log }) }

-- the text is the standing line of the log's clock
pub record FoldDone (terms : Terms) (log : List ℕ) (shelf : ShelfSeen) (text : List ℕ) : Type 0 where
  pub read : List ℕ
  pub is_read : IsRead shelf log log_limit read
  pub history : ClockHistory
  pub is_log : IsLogOf terms history read
  pub text_is : text ≡ standing_of history
