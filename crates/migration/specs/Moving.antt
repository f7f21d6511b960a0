-- What becomes of the reports of a clock that are moved to the journal of another auction file.
use Rattle.std.specs.Prelude.{◌≡◌, ◌≢◌, ◌⊎◌, ℕ, ◌+◌, ◌-◌, ◌<◌, ◌≤◌, List, length, take, slice_get, slice_index_or}
use Rattle.lot_base.specs.Goods.{zeros}
use Rattle.lot_base.specs.declared.auction_terms.Terms.{Terms}
use Rattle.demand_set.specs.declared.reports.Report.{Report}
use Rattle.auction_file.specs.declared.listing.Auction.{Auction}
use Rattle.house_io.specs.Moments.{Moments, Leaves, AtEach, synced_at}
use Rattle.clock.specs.Reports.{ClockHistory}
use Rattle.clock.specs.Judging.{judgement_of}
use Rattle.report_journal.specs.Format.{IsUnformed}
use Rattle.recovery.specs.Journaled.{Owner, StandsForReports, IsReadAs}

-- terms under which the clocks judge alike
pub record AreAlike (old new : Terms) : Type 0 where
  pub goods : new.goods ≡ old.goods
  pub bidders : new.bidders ≡ old.bidders
  pub ceiling : new.ceiling ≡ old.ceiling
  pub opening : new.opening ≡ old.opening

-- the clock judges every report as a clock of alike terms does
abbrev pub JudgesAlike : ClockHistory → Terms → Type 0
JudgesAlike c terms = AreAlike c.terms terms → (r : Report) → judgement_of (record c { terms = terms }) r ≡ judgement_of c r

-- The second terms are of the same goods, bidders and ceiling as the first ones. They are of version 2, and in both all goods open at 0.
pub record AreSameTerms (old new : Terms) : Type 0 where
  pub version : new.version ≡ 2
  pub goods : new.goods ≡ old.goods
  pub bidders : new.bidders ≡ old.bidders
  pub ceiling : new.ceiling ≡ old.ceiling
  pub opens : old.opening ≡ zeros old.goods
  pub opens_anew : new.opening ≡ zeros new.goods

-- The second file names the auction of the first one: the same terms, goods, bidders and tokens.
pub record IsSameAuction (old new : Auction) : Type 0 where
  pub terms : AreSameTerms old.terms new.terms
  pub good_names : new.good_names ≡ old.good_names
  pub bidder_names : new.bidder_names ≡ old.bidder_names
  pub token_digests : new.token_digests ≡ old.token_digests

-- the clocks, from clock 0 on, of an auction that judges as one of these terms does
pub record AreClocksAs (terms : Terms) (clocks : List ClockHistory) : Type 0 where
  pub count : length clocks ≡ terms.bidders + 1
  pub each : (k : ℕ) (c : ClockHistory) → k < length clocks → AreAlike (slice_index_or clocks k c).terms terms × ((slice_index_or clocks k c).number ≡ k)

-- the file stands for a front of the reports that has at least so many
pub record StandsForFront (owner : Owner) (reports : List Report) (least : ℕ) (file : List ℕ) : Type 0 where
  pub count : ℕ
  pub no_fewer : least ≤ count
  pub no_more : count ≤ length reports
  pub stands : StandsForReports owner (take count reports) file

-- What a crash may leave of a target that read so at the sync with which its opening began: that file; where it was unformed, an unformed
-- one or one of a front of the reports; where it stood for a front of them, one of that front or of a longer one.
abbrev pub IsTargetLeft : Owner → List Report → List ℕ → List ℕ → Type 0
IsTargetLeft owner reports read file =
    (file ≡ read)
    ⊎ ((IsUnformed read × (IsUnformed file ⊎ StandsForFront owner reports 0 file))
    ⊎ ((count : ℕ) × StandsForReports owner (take count reports) read × StandsForFront owner reports count file))

-- Nothing was written before the sync with which the opening began, and at each moment from then on the target is left so.
abbrev pub LeavesTarget : Owner → List Report → Moments → Moments → Type 0
LeavesTarget owner reports before after = (after ≡ before) ⊎ AtEach (IsTargetLeft owner reports before.now.read) (synced_at before) after

-- the file is unformed or stands for a front of the reports
abbrev pub IsFront : Owner → List Report → List ℕ → Type 0
IsFront owner reports file = (count : ℕ) × (count ≤ length reports) × IsReadAs owner (take count reports) file

-- The target, which stood for a front of the reports, now stands for all of them.
pub record IsMoved (owner : Owner) (reports : List Report) (before after : Moments) : Type 0 where
  pub front : IsFront owner reports before.now.read
  pub whole : Leaves (StandsForReports owner reports) after.now

-- The reports are no front of these others: the one of this number, counted from 1, is the first that differs or is too many.
pub record IsNoFrontAt (number : ℕ) (reports others : List Report) : Type 0 where
  pub from_one : 1 ≤ number
  pub within : number ≤ length reports
  pub same : take (number - 1) reports ≡ take (number - 1) others
  pub differs : slice_get reports (number - 1) ≢ slice_get others (number - 1)
