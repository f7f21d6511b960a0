-- The journals of an auction that are moved to another file of it: what they have, whose the targets are, and why they are not moved.
use Rattle.std.specs.Prelude.{◌≡◌, ◌≤◌, ◌<◌, ◌+◌, ℕ, List, length, slice_index_or, Ok, Some}
use Rattle.house_io.specs.Shelves.{NamedFile, IfTells}
use Rattle.lot_base.specs.Goods.{zeros}
use Rattle.lot_base.specs.declared.auction_terms.Terms.{Terms}
use Rattle.clock.specs.Reports.{ClockHistory}
use Rattle.auction_file.specs.AuctionFile.{Listing, auction_of}
use Rattle.recovery.specs.Journaled.{owner_of}
use Rattle.clock_book.specs.Opening.{StandsForHistory}
use Rattle.clock_book.specs.declared.faults.OpenFault.{OpenFault}
use Rattle.migration.specs.Moving.{IsFront, IsNoFrontAt}
use Rattle.migration.specs.Moves.{IsFullAt}
use Rattle.house_run.specs.Journals.{AreFromJournals, IsFirstRefused, IsTermsOf}
use Rattle.house_run.specs.Needs.{Moving, journal_name}
use Rattle.house_run.specs.Seen.{ShelfSeen, IsAuctionAt, auction_limit, content}

-- The two files are of one auction, and it can go on under the second: the same names, tokens, supplies and ceiling, the second of version
-- 2, and each good opens at 0 in both.
pub record IsSameListing (old new : Listing) : Type 0 where
  pub good_names : new.good_names ≡ old.good_names
  pub bidder_names : new.bidder_names ≡ old.bidder_names
  pub tokens : new.token_digests ≡ old.token_digests
  pub supply : new.supply ≡ old.supply
  pub ceiling : new.ceiling ≡ old.ceiling
  pub version : new.version ≡ 2
  pub opens_at_zero : old.opening ≡ zeros old.supply
  pub goes_on_at_zero : new.opening ≡ zeros new.supply

-- both files were read, and they are not so
pub record AreOtherTerms (shelf : ShelfSeen) (old new : List ℕ) : Type 0 where
  pub first : Listing
  pub second : Listing
  pub old_is : IsAuctionAt shelf old first
  pub new_is : IsAuctionAt shelf new second
  pub other : IsSameListing first second → ⊥

-- both files were read, and the auction can go on under the second
pub record IsOneAuction (shelf : ShelfSeen) (old new : List ℕ) : Type 0 where
  pub first : Listing
  pub second : Listing
  pub old_is : IsAuctionAt shelf old first
  pub new_is : IsAuctionAt shelf new second
  pub same : IsSameListing first second

-- Both files were read, the auction can go on under the second, and its journals have these histories. The targets are journals of these
-- terms and of this digest.
pub record IsMove (shelf : ShelfSeen) (old journals new : List ℕ) (histories : List ClockHistory) (terms : Terms) (digest : List ℕ) : Type 0 where
  -- what the two files say
  pub first : Listing
  pub second : Listing
  -- they were read, and are of one auction
  pub old_is : IsAuctionAt shelf old first
  pub new_is : IsAuctionAt shelf new second
  pub same : IsSameListing first second
  -- the terms of both, and the digest of the second
  pub before : Terms
  pub before_are : IsTermsOf first before
  pub terms_are : IsTermsOf second terms
  pub digest_is : digest ≡ second.digest
  -- the journals are of the first, and stand for these histories
  pub from_journals : AreFromJournals shelf.files before first.digest journals (before.bidders + 1) histories

-- each target stands for a legal history, or is unformed
abbrev pub AllOpen : List NamedFile → List ℕ → Terms → List ℕ → Type 0
AllOpen files target terms digest = (k : ℕ) → k ≤ terms.bidders → (c : ClockHistory) × StandsForHistory (owner_of terms k digest) c (content files (journal_name target k))

-- the target of this clock is unformed or stands for a front of its history
abbrev pub IsFrontAt : List NamedFile → List ℕ → Terms → List ℕ → List ClockHistory → ℕ → Type 0
IsFrontAt files target terms digest histories k = (c : ClockHistory) → IsFront (owner_of terms k digest) (slice_index_or histories k c).reports (content files (journal_name target k))

-- The journals were read, and this clock's target is the first that is refused.
pub record IsBadTarget (clock : ℕ) (fault : OpenFault) (shelf : ShelfSeen) (old journals new target : List ℕ) : Type 0 where
  pub histories : List ClockHistory
  pub terms : Terms
  pub digest : List ℕ
  pub move : IsMove shelf old journals new histories terms digest
  pub clock_is : clock ≤ terms.bidders
  pub first : IsFirstRefused shelf.files terms digest target clock fault

-- All targets open; this clock's is the first that is no front, and this its first record that differs or is too many.
pub record IsNotPrefix (clock number : ℕ) (shelf : ShelfSeen) (old journals new target : List ℕ) : Type 0 where
  pub histories : List ClockHistory
  pub terms : Terms
  pub digest : List ℕ
  pub move : IsMove shelf old journals new histories terms digest
  pub clock_is : clock ≤ terms.bidders
  pub all_open : IfTells shelf.files (λ told. AllOpen told target terms digest)
  pub earlier : IfTells shelf.files (λ told. (k : ℕ) → k < clock → IsFrontAt told target terms digest histories k)
  pub off : IfTells shelf.files (λ told. (c d : ClockHistory) → StandsForHistory (owner_of terms clock digest) c (content told (journal_name target clock)) → IsNoFrontAt number c.reports (slice_index_or histories clock d).reports)

-- All targets open and are fronts, and the next record of this clock's would end after the limit.
pub record IsFull (clock needed : ℕ) (shelf : ShelfSeen) (old journals new target : List ℕ) : Type 0 where
  pub histories : List ClockHistory
  pub terms : Terms
  pub digest : List ℕ
  pub move : IsMove shelf old journals new histories terms digest
  pub clock_is : clock ≤ terms.bidders
  pub all_open : IfTells shelf.files (λ told. AllOpen told target terms digest)
  pub fronts : IfTells shelf.files (λ told. (k : ℕ) → k ≤ terms.bidders → IsFrontAt told target terms digest histories k)
  pub full : (c : ClockHistory) → IsFullAt needed (owner_of terms clock digest) (slice_index_or histories clock c).reports

-- Nothing keeps journals from being moved: the auction can go on under the second file, each target is unformed or stands for a front of
-- its history, and has room for all of it.
pub record AreGoodTargets (files : List NamedFile) (auction journals : List ℕ) (m : Moving) : Type 0 where
  -- what the two files say; the second is within its limit, and of the same auction
  pub first : Listing
  pub second : Listing
  pub short : length (content files m.auction) ≤ auction_limit
  pub first_says : auction_of (content files auction) ≡ Ok first
  pub second_says : auction_of (content files m.auction) ≡ Ok second
  pub same : IsSameListing first second
  -- the terms of both
  pub before : Terms
  pub before_are : IsTermsOf first before
  pub terms : Terms
  pub terms_are : IsTermsOf second terms
  -- each target stands for a front of its clock's history, or for nothing yet
  pub fronts : (histories : List ClockHistory) → AreFromJournals (Some files) before first.digest journals (before.bidders + 1) histories
      → (k : ℕ) → k ≤ terms.bidders → IsFrontAt files m.journals terms second.digest histories k
  -- the record of each report fits into its target
  pub room : (histories : List ClockHistory) → AreFromJournals (Some files) before first.digest journals (before.bidders + 1) histories
      → (k needed : ℕ) (c : ClockHistory) → k ≤ terms.bidders → IsFullAt needed (owner_of terms k second.digest) (slice_index_or histories k c).reports → ⊥
