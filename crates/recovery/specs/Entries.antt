-- The payload of a report, and what a payload is read as.
use Rattle.std.specs.Prelude.{◌≡◌, ◌<◌, ◌≤◌, ◌^◌, ℕ, List, length}
use Rattle.std.specs.List.{AllByRecursion, concat}
use Rattle.lot_base.specs.Demands.{IsDemand}
use Rattle.lot_base.specs.declared.auction_terms.Terms.{Terms}
use Rattle.demand_set.specs.declared.reports.Report.{Report}
use Rattle.report_wire.specs.Payloads.{report_payload}

-- numbers that fit two bytes
abbrev pub AreSmall : List ℕ → Type 0
AreSmall numbers = AllByRecursion (λ n. n < 2 ^ 16) numbers

-- the payload of a report, where so many goods are sold: the entry of its bidder, its round and the quantities of its bundles
unfoldable pub payload_of : ℕ → Report → List ℕ
payload_of goods r = report_payload r.bidder r.round goods (concat r.demand)

-- a report that an entry may hold: of a bidder, with a demand of the supply; a round has four bytes
pub record IsReportOf (terms : Terms) (r : Report) : Type 0 where
  pub from_one : 1 ≤ r.bidder
  pub to_last : r.bidder ≤ terms.bidders
  pub round : r.round < 2 ^ 32
  pub fits : IsDemand terms.goods r.demand

-- each is a report that an entry may hold
abbrev pub AreReportsOf : Terms → List Report → Type 0
AreReportsOf terms reports = AllByRecursion (IsReportOf terms) reports

-- the payload is that of this report
pub record Spells (terms : Terms) (payload : List ℕ) (r : Report) : Type 0 where
  pub report : IsReportOf terms r
  pub is : payload ≡ payload_of (length terms.goods) r

-- the payload is that of no report
abbrev pub SpellsNone : Terms → List ℕ → Type 0
SpellsNone terms payload = (r : Report) → Spells terms payload r → ⊥
