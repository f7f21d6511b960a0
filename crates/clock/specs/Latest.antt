-- The latest report of a bidder, and reports that say the same again.
use Rattle.std.specs.Prelude.{◌≡◌, ◌==◌, ℕ, List, take, reverse, find, Option, IsSomeAnd, slice_get}
use Rattle.demand_set.specs.declared.reports.Report.{Report}

-- the latest of the reports that is of this bidder
abbrev pub latest_of : List Report → ℕ → Option Report
latest_of reports bidder = find (λ (r : Report). r.bidder == bidder) (reverse reports)

-- There is a report of this number, from 0, and it demands what the latest report of its bidder before it demanded. The first report
-- of a bidder repeats none.
abbrev pub IsRepeat : List Report → ℕ → Type 0
IsRepeat reports number =
    IsSomeAnd (slice_get reports number)
    (λ (r : Report). IsSomeAnd (latest_of (take number reports) r.bidder) (λ (before : Report). before.demand ≡ r.demand))
