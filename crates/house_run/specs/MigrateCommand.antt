-- The command `migrate OLD JOURNALS NEW TARGET`: the journals of an auction are moved to another file of it. A migration that was stopped is run
-- again with the same words.
use Rattle.std.specs.Prelude.{◌≡◌, ◌<◌, ◌≤◌, ◌⊎◌, ◌+◌, ◌++◌, ⊤, ℕ, List, [], ◌∷◌, length, slice_index_or, Some, codes, decimal}
use Rattle.std.specs.List.{flat_map}
use Rattle.house_io.specs.Shelves.{IfTells, IfWasTold, file_of, moments_at}
use Rattle.outcome_text.specs.Lines.{line}
use Rattle.lot_base.specs.declared.auction_terms.Terms.{Terms}
use Rattle.clock.specs.Reports.{ClockHistory}
use Rattle.auction_file.specs.AuctionFile.{Listing}
use Rattle.demand_set.specs.declared.reports.Report.{Report}
use Rattle.house_io.specs.Moments.{Moments}
use Rattle.recovery.specs.Journaled.{Owner, owner_of}
use Rattle.clock_book.specs.Opened.{LeftUnopened}
use Rattle.clock_book.specs.declared.faults.OpenFault.{OpenFault}
use Rattle.migration.specs.Moving.{IsMoved, LeavesTarget}
use Rattle.house_run.specs.Causes.{Tells}
use Rattle.house_run.specs.Disks.{IsJournalBelow}
use Rattle.house_run.specs.Found.{found}
use Rattle.house_run.specs.Frame.{KeepsAll, OnlySynced, OpensInOrder, RisesAmong}
use Rattle.house_run.specs.Moves.{IsMove, IsOneAuction}
use Rattle.house_run.specs.Needs.{IsJournal, Needs, first_journals, journal_name, nothing_needed, with_names}
use Rattle.house_run.specs.Seen.{IsAuctionAt, Outside, ShelfSeen}
use Rattle.house_run.specs.declared.ends.Ended.{Ended}
use Rattle.house_run.specs.declared.ends.Ended.TheVariants as how

abbrev pub migrate_needs : List ℕ → List ℕ → List ℕ → List ℕ → Needs
migrate_needs old journals new target = record nothing_needed { auction = Some old; journals = Some journals; moving = Some (record { auction = new; journals = target }) }

-- the line of a clock: how many reports its journal has
abbrev pub moved_line : ClockHistory → List ℕ
moved_line c = line (codes "migrated" ∷ codes "clock" ∷ decimal c.number ∷ codes "reports" ∷ decimal (length c.reports) ∷ [])

-- Each target stood for a front of the history of its clock, and now stands for all of it. The text has a line for each clock.
pub record MigrateDone (old journals new target : List ℕ) (shelf : ShelfSeen) (text : List ℕ) : Type 0 where
  pub histories : List ClockHistory
  pub terms : Terms
  pub digest : List ℕ
  pub move : IsMove (found shelf) old journals new histories terms digest
  pub moved : IfTells shelf.files (λ after. IfWasTold shelf.files_before (λ before. (k : ℕ) (c : ClockHistory) → k ≤ terms.bidders
      → IsMoved (owner_of terms k digest) (slice_index_or histories k c).reports (moments_at before (journal_name target k)) (moments_at after (journal_name target k))))
  pub text_is : text ≡ flat_map moved_line histories

-- the old file, the new one, all journals, and then the targets of a front of the clocks were opened, in order
pub record OpensTargets (old journals new target : List ℕ) (shelf : ShelfSeen) : Type 0 where
  pub listing : Listing
  pub auction_is : IsAuctionAt shelf old listing
  pub front : ℕ
  pub few : front ≤ length listing.bidder_names + 1
  pub names : shelf.opened ≡ with_names (old ∷ new ∷ first_journals journals (length listing.bidder_names + 1) ++ first_journals target front) shelf.opened_before

-- the end tells of a fault of this target
abbrev pub TellsTarget : List ℕ → Ended → List ℕ → Type 0
TellsTarget target (how.DiskFault clock) name = name ≡ journal_name target clock
TellsTarget target end name = ⊥

-- What an end tells of this clock's target besides. Where the first target is told that is refused, or that is no front, nothing but an opening
-- was done to any. Where a full one is told, those of the smaller clocks now stand for all reports.
abbrev pub TellsLeft : Ended → Owner → ℕ → List Report → Moments → Moments → Type 0
TellsLeft (how.BadTarget clock refusal) owner k reports before after = LeftUnopened owner before after
TellsLeft (how.NotPrefix clock number) owner k reports before after = LeftUnopened owner before after
TellsLeft (how.TargetFull clock needed) owner k reports before after = k < clock → IsMoved owner reports before after
TellsLeft end owner k reports before after = ⊤

-- Journals were synced at most, each target was left so that a crash leaves what it read or a front of its clock's history that is no
-- shorter, and every other file is the same.
pub record MovesFiles (old journals new target : List ℕ) (end : Ended) (shelf : ShelfSeen) : Type 0 where
  pub histories : List ClockHistory
  pub terms : Terms
  pub digest : List ℕ
  pub move : IsMove (found shelf) old journals new histories terms digest
  pub others : IfTells shelf.files (λ after. IfWasTold shelf.files_before (λ before. (name : List ℕ)
      → (IsJournal journals name → ⊥) → (IsJournalBelow target (terms.bidders + 1) name → ⊥) → file_of after name ≡ file_of before name))
  pub synced : IfTells shelf.files (λ after. IfWasTold shelf.files_before (λ before. (name : List ℕ)
      → IsJournal journals name → OnlySynced (moments_at before name) (moments_at after name)))
  pub left : IfTells shelf.files (λ after. IfWasTold shelf.files_before (λ before. (k : ℕ) (c : ClockHistory) → k ≤ terms.bidders
      → LeavesTarget (owner_of terms k digest) (slice_index_or histories k c).reports (moments_at before (journal_name target k)) (moments_at after (journal_name target k))))
  pub told : IfTells shelf.files (λ after. IfWasTold shelf.files_before (λ before. (k : ℕ) (c : ClockHistory) → k ≤ terms.bidders
      → TellsLeft end (owner_of terms k digest) k (slice_index_or histories k c).reports (moments_at before (journal_name target k)) (moments_at after (journal_name target k))))

-- the end tells of a journal or of a target
abbrev pub TellsJournal : Ended → Type 0
TellsJournal end = (clock : ℕ) × ((end ≡ how.DiskFault clock) ⊎ ((fault : OpenFault) × (end ≡ how.BadJournal clock fault)))

-- A migration that ended so opened what it needs, in order, passed over no fault that its end does not tell, and wrote to its targets alone.
-- It came to no journal before the second file was read and named the auction.
pub record MigrateFrame (old journals new target : List ℕ) (end : Ended) (seen : Outside) : Type 0 where
  pub names : OpensInOrder (migrate_needs old journals new target) (found seen.shelf) ⊎ OpensTargets old journals new target (found seen.shelf)
  pub second : TellsJournal end → IsOneAuction (found seen.shelf) old new
  pub counts : RisesAmong (λ name. Tells (migrate_needs old journals new target) end name ⊎ TellsTarget target end name) seen.shelf.faults_before seen.shelf.faults
  pub files : KeepsAll (IsJournal journals) seen.shelf.files_before seen.shelf.files ⊎ MovesFiles old journals new target end seen.shelf
