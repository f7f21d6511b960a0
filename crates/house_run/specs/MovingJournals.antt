-- What moving the reports of clocks to the journals of another auction file leaves of these targets.
use Rattle.std.specs.Prelude.{◌≡◌, ◌≤◌, ◌<◌, ◌+◌, ⊤, ℕ, List, slice_index_or, Option, Result, Ok, Err}
use Rattle.house_io.specs.Shelves.{NamedFile, IfTells, IfWasTold, moments_at}
use Rattle.auction_file.specs.declared.listing.Auction.{Auction}
use Rattle.clock.specs.Reports.{ClockHistory}
use Rattle.recovery.specs.Journaled.{owner_of}
use Rattle.clock_book.specs.Opening.{StandsForHistory}
use Rattle.clock_book.specs.declared.faults.OpenFault.{OpenFault}
use Rattle.clock_book.specs.declared.faults.OpenFault.TheVariants as why
use Rattle.migration.specs.Moving.{IsMoved, IsNoFrontAt, LeavesTarget}
use Rattle.migration.specs.Moves.{IsFullAt}
use Rattle.migration.specs.declared.faults.MoveFault.{MoveFault}
use Rattle.migration.specs.declared.faults.MoveFault.TheVariants as fault
use Rattle.house_run.specs.Causes.{FailedAt}
use Rattle.house_run.specs.Disks.{KeepsOthers}
use Rattle.house_run.specs.Found.{told_first}
use Rattle.house_run.specs.Frame.{RisesAmong}
use Rattle.house_run.specs.Journals.{IsFirstRefused}
use Rattle.house_run.specs.MigrateCommand.{TellsLeft, TellsTarget}
use Rattle.house_run.specs.Moves.{AllOpen, IsFrontAt}
use Rattle.house_run.specs.Needs.{first_journals, journal_name, with_names}
use Rattle.house_run.specs.Seen.{ShelfSeen, content}
use Rattle.house_run.specs.declared.ends.Ended.{Ended}
use Rattle.house_run.specs.declared.ends.Ended.TheVariants as how

-- how a command ends that can't open the target of this clock
abbrev pub target_end : ℕ → OpenFault → Ended
target_end clock why.DiskFault = how.DiskFault clock
target_end clock why.NoMemory = how.NoMemory
target_end clock (why.Broken broken) = how.BadTarget clock (why.Broken broken)
target_end clock (why.NotAcceptable number judgement) = how.BadTarget clock (why.NotAcceptable number judgement)

-- how a command ends whose journals are not moved
abbrev pub move_end : MoveFault → Ended
move_end (fault.NotOpened clock refusal) = target_end clock refusal
move_end (fault.NotFront clock number) = how.NotPrefix clock number
move_end (fault.Full clock needed) = how.TargetFull clock needed
move_end (fault.DiskFault clock) = how.DiskFault clock
move_end fault.NoMemory = how.NoMemory

module _ (value : Auction) (histories : List ClockHistory) (target : List ℕ) (shelf : ShelfSeen) where
  -- The targets of a front of the clocks were opened, in order, and each was left so that a crash leaves what it read or a front of its
  -- clock's history. No other file was changed, and no count rose that the end does not tell.
  pub record KeepsTargets (end : Ended) : Type 0 where
    pub others : KeepsOthers target (value.terms.bidders + 1) shelf.files_before shelf.files
    pub left : IfTells shelf.files (λ after. IfWasTold shelf.files_before (λ before. (k : ℕ) (c : ClockHistory) → k ≤ value.terms.bidders
        → LeavesTarget (owner_of value.terms k value.digest) (slice_index_or histories k c).reports (moments_at before (journal_name target k)) (moments_at after (journal_name target k))))
    pub told : IfTells shelf.files (λ after. IfWasTold shelf.files_before (λ before. (k : ℕ) (c : ClockHistory) → k ≤ value.terms.bidders
        → TellsLeft end (owner_of value.terms k value.digest) k (slice_index_or histories k c).reports (moments_at before (journal_name target k)) (moments_at after (journal_name target k))))
    pub counts : RisesAmong (TellsTarget target end) shelf.faults_before shelf.faults
    pub front : ℕ
    pub few : front ≤ value.terms.bidders + 1
    pub names : shelf.opened ≡ with_names (first_journals target front) shelf.opened_before

  -- All targets were found open, and this clock's was the first that was no front of its history, from this record on.
  pub record IsFirstOff (clock number : ℕ) (files : Option (List NamedFile)) : Type 0 where
    pub within : clock ≤ value.terms.bidders
    pub all_open : IfTells files (λ told. AllOpen told target value.terms value.digest)
    pub earlier : IfTells files (λ told. (k : ℕ) → k < clock → IsFrontAt told target value.terms value.digest histories k)
    pub off : IfTells files (λ told. (c d : ClockHistory) → StandsForHistory (owner_of value.terms clock value.digest) c (content told (journal_name target clock))
        → IsNoFrontAt number c.reports (slice_index_or histories clock d).reports)

  -- All targets were found open and fronts of their clocks' histories, and this clock's has no room for all of its own.
  pub record IsTargetFull (clock needed : ℕ) (files : Option (List NamedFile)) : Type 0 where
    pub within : clock ≤ value.terms.bidders
    pub all_open : IfTells files (λ told. AllOpen told target value.terms value.digest)
    pub fronts : IfTells files (λ told. (k : ℕ) → k ≤ value.terms.bidders → IsFrontAt told target value.terms value.digest histories k)
    pub full : (c : ClockHistory) → IsFullAt needed (owner_of value.terms clock value.digest) (slice_index_or histories clock c).reports

  -- each target now stands for the history of its clock
  pub record JournalsMoved : Type 0 where
    pub keeps : KeepsTargets how.Done
    pub moved : IfTells shelf.files (λ after. IfWasTold shelf.files_before (λ before. (k : ℕ) (c : ClockHistory) → k ≤ value.terms.bidders
        → IsMoved (owner_of value.terms k value.digest) (slice_index_or histories k c).reports (moments_at before (journal_name target k)) (moments_at after (journal_name target k))))

  -- why the journals were not moved
  abbrev pub NotMoving : Ended → Type 0
  NotMoving (how.DiskFault clock) = (clock ≤ value.terms.bidders) × FailedAt shelf (journal_name target clock)
  NotMoving (how.BadTarget clock refusal) = (clock ≤ value.terms.bidders) × IsFirstRefused (told_first shelf.files_before shelf.files) value.terms value.digest target clock refusal
  NotMoving (how.NotPrefix clock number) = IsFirstOff clock number (told_first shelf.files_before shelf.files)
  NotMoving (how.TargetFull clock needed) = IsTargetFull clock needed (told_first shelf.files_before shelf.files)
  NotMoving how.NoMemory = ⊤
  NotMoving end = ⊥

  pub record JournalsNotMoved (end : Ended) : Type 0 where
    pub keeps : KeepsTargets end
    pub cause : NotMoving end

  abbrev pub MovesJournals : Result (Unit {0}) Ended → Type 0
  MovesJournals (Ok done) = JournalsMoved
  MovesJournals (Err end) = JournalsNotMoved end
