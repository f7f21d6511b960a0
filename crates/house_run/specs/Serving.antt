-- What serving an auction leaves of its journals and of the net.
use Rattle.std.specs.Prelude.{◌≡◌, ◌≤◌, ◌<◌, ◌⊎◌, ◌+◌, ◌++◌, ◌∷◌, ℕ, List, length, map, take, drop, slice_index_or, Option, Result, Ok, Err, IfSome, []}
use Rattle.std.specs.List.{AllByRecursion, flat_map}
use Rattle.house_io.specs.Doors.{DoorLinks}
use Rattle.house_io.specs.Faults.{raised_by}
use Rattle.house_io.specs.Told.{IfTold}
use Rattle.house_io.specs.Shelves.{IfTells, IfWasTold, moments_at}
use Rattle.auction_file.specs.declared.listing.Auction.{Auction}
use Rattle.recovery.specs.Journaled.{owner_of}
use Rattle.clock_book.specs.DeskHistories.{marks_in}
use Rattle.clock_book.specs.declared.faults.OpenFault.{OpenFault}
use Rattle.house_serve.specs.Houses.{DoorRun, IsRun, Joins, turns_of}
use Rattle.house_run.specs.Causes.{FailedAt}
use Rattle.house_run.specs.ClockRuns.{BeginNew, ClockRun, IsClockRun, IsJournalRun, LeavesJournal}
use Rattle.house_run.specs.Disks.{IsJournalBelow, KeepsOthers}
use Rattle.house_io.specs.NetsShown.{DoorShown, LinkShown}
use Rattle.house_run.specs.Found.{told_first}
use Rattle.house_run.specs.Frame.{RisesAmong}
use Rattle.house_run.specs.Hosting.{HouseEnd, ServedAnswer}
use Rattle.house_run.specs.Journals.{IsFirstRefused}
use Rattle.house_run.specs.Needs.{first_journals, journal_name, with_names}
use Rattle.command_line.specs.Parts.{Serving}
use Rattle.house_run.specs.Nets.{NetSeen, IsNetUntouched}
use Rattle.house_io.specs.NetsShown.{NetView}
use Rattle.house_run.specs.Seen.{ShelfSeen}
use Rattle.house_run.specs.declared.ends.Ended.{Ended}
use Rattle.house_run.specs.declared.ends.Ended.TheVariants as how
use Rattle.house_run.specs.declared.hosting.Hosted.{Hosted}

-- At this address the first doors to come were given, and, in place of those that are missing, doors without links. Each was given back, in
-- order.
pub record ServesAt (address : List ℕ) (count : ℕ) (given back : List DoorShown) (before after : NetView) : Type 0 where
  pub empty : List (Option (DoorLinks LinkShown))
  pub given_are : map (λ (door : DoorShown). door.told) given ≡ take count before.doors ++ empty
  pub are_empty : AllByRecursion (λ (door : Option (DoorLinks LinkShown)). IfSome door (λ (d : DoorLinks LinkShown). d.to_come ≡ [])) empty
  pub after_is : after ≡ record before { doors = drop count before.doors; closed = before.closed ++ map (λ (door : DoorShown). door.told) back; asked = before.asked ++ address ∷ [] }

-- The net is as it was, or it was asked for doors at this address: it refused them, or the doors that it gave went back as they came.
abbrev pub LeavesNetAt : List ℕ → ℕ → NetView → NetView → Type 0
LeavesNetAt address count before after =
    (after ≡ before)
    ⊎ ((after ≡ record before { asked = before.asked ++ address ∷ [] })
    ⊎ ((given : List DoorShown) × ServesAt address count given given before after))

-- The clocks of an auction came to these runs, and their journals to what these say. For each mark a fault was added to the count of the journal.
pub record ClocksRan (value : Auction) (journals : List ℕ) (shelf : ShelfSeen) (clocks : List ClockRun) : Type 0 where
  pub count_is : length clocks ≡ value.terms.bidders + 1
  pub clocks_are : (k : ℕ) (c : ClockRun) → k < length clocks → IsClockRun (owner_of value.terms k value.digest) (slice_index_or clocks k c)
  pub marks : (k : ℕ) (c : ClockRun) → k < length clocks → raised_by (shelf.faults_before (journal_name journals k)) (marks_in (slice_index_or clocks k c).closed.history) ≤ shelf.faults (journal_name journals k)
  pub journals_are : IfTells shelf.files (λ after. IfWasTold shelf.files_before (λ before. (k : ℕ) (c : ClockRun) → k < length clocks
      → IsJournalRun (owner_of value.terms k value.digest) (slice_index_or clocks k c) (moments_at before (journal_name journals k)) (moments_at after (journal_name journals k))))

-- So many doors of the net at the address that the command names served so many sessions each, or failed before.
pub record DoorsServing (value : Auction) (s : Serving) (net : NetSeen) (doors : List (DoorRun DoorShown LinkShown)) : Type 0 where
  pub count_is : length doors ≡ s.doors
  pub each : AllByRecursion (IsRun (λ (d : DoorShown). d.told) (λ (d : DoorShown). d.faults) (λ (l : LinkShown). l.told) (λ (l : LinkShown). l.faults) value s.sessions) doors
  pub lists : IfTold net.told_before net.told (ServesAt s.address s.doors (map (λ (d : DoorRun DoorShown LinkShown). d.door) doors) (map (λ (d : DoorRun DoorShown LinkShown). d.log.door) doors))

-- what the turns at all doors come to at each clock
abbrev pub JoinAll : List (DoorRun DoorShown LinkShown) → List ClockRun → Type 0
JoinAll doors clocks = (k : ℕ) (c : ClockRun) → k < length clocks → Joins (slice_index_or clocks k c).opening (slice_index_or clocks k c).closed.history (flat_map turns_of doors) k

-- An auction was served: its clocks came to these runs, and its doors to these, each of which began with new passes of the clocks.
pub record AuctionServed (value : Auction) (journals : List ℕ) (s : Serving) (shelf : ShelfSeen) (net : NetSeen) (clocks : List ClockRun) (doors : List (DoorRun DoorShown LinkShown)) : Type 0 where
  pub ran : ClocksRan value journals shelf clocks
  pub new : BeginNew clocks doors
  pub serving : DoorsServing value s net doors
  pub joins : JoinAll doors clocks

-- The journals of a front of the clocks were opened, in order. No other file was changed, and no count rose but theirs.
pub record KeepsJournals (journals : List ℕ) (count : ℕ) (shelf : ShelfSeen) : Type 0 where
  pub others : KeepsOthers journals count shelf.files_before shelf.files
  pub counts : RisesAmong (IsJournalBelow journals count) shelf.faults_before shelf.faults
  pub front : ℕ
  pub few : front ≤ count
  pub names : shelf.opened ≡ with_names (first_journals journals front) shelf.opened_before

-- an auction was served, and this is told of it
pub record JournalsServed (value : Auction) (journals : List ℕ) (s : Serving) (shelf : ShelfSeen) (net : NetSeen) (answer : Result Hosted Ended) : Type 0 where
  pub keeps : KeepsJournals journals (value.terms.bidders + 1) shelf
  pub clocks : List ClockRun
  pub doors : List (DoorRun DoorShown LinkShown)
  pub served : AuctionServed value journals s shelf net clocks doors
  pub answer_is : ServedAnswer (map (λ (c : ClockRun). c.closed.clock) clocks) doors answer net.faults_before net.faults

-- each journal was left as an opening that was refused leaves it, or as one does whose book was closed unused
abbrev pub LeavesAll : Auction → List ℕ → ShelfSeen → Type 0
LeavesAll value journals shelf = IfTells shelf.files (λ after. IfWasTold shelf.files_before (λ before. (k : ℕ) → k ≤ value.terms.bidders
    → LeavesJournal (owner_of value.terms k value.digest) (moments_at before (journal_name journals k)) (moments_at after (journal_name journals k))))

-- the journal of a clock failed, and nothing was done on the net
pub record JournalFails (value : Auction) (journals : List ℕ) (shelf : ShelfSeen) (net : NetSeen) (end : Ended) : Type 0 where
  pub clock : ℕ
  pub end_is : end ≡ how.DiskFault clock
  pub within : clock ≤ value.terms.bidders
  pub failed : FailedAt shelf (journal_name journals clock)
  pub untouched : IsNetUntouched net

-- the journal of a clock was the first that is refused, and nothing was done on the net
pub record JournalRefused (value : Auction) (journals : List ℕ) (shelf : ShelfSeen) (net : NetSeen) (end : Ended) : Type 0 where
  pub clock : ℕ
  pub fault : OpenFault
  pub end_is : end ≡ how.BadJournal clock fault
  pub within : clock ≤ value.terms.bidders
  pub first : IsFirstRefused (told_first shelf.files_before shelf.files) value.terms value.digest journals clock fault
  pub untouched : IsNetUntouched net

-- why no auction was served
abbrev pub NotServing : Auction → List ℕ → ShelfSeen → NetSeen → Ended → Type 0
NotServing value journals shelf net end = JournalFails value journals shelf net end ⊎ (JournalRefused value journals shelf net end ⊎ HouseEnd net.faults_before net.faults end)

-- no auction was served
pub record AuctionNotServed (value : Auction) (journals : List ℕ) (s : Serving) (shelf : ShelfSeen) (net : NetSeen) (end : Ended) : Type 0 where
  pub left : LeavesAll value journals shelf
  pub net_is : IfTold net.told_before net.told (LeavesNetAt s.address s.doors)
  pub cause : NotServing value journals shelf net end

pub record JournalsNotServed (value : Auction) (journals : List ℕ) (s : Serving) (shelf : ShelfSeen) (net : NetSeen) (end : Ended) : Type 0 where
  pub keeps : KeepsJournals journals (value.terms.bidders + 1) shelf
  pub not : AuctionNotServed value journals s shelf net end

abbrev pub ServesJournals : Auction → List ℕ → Serving → ShelfSeen → NetSeen → Result Hosted Ended → Type 0
ServesJournals value journals s shelf net (Ok hosted) = JournalsServed value journals s shelf net (Ok hosted)
ServesJournals value journals s shelf net (Err end) = JournalsServed value journals s shelf net (Err end) ⊎ JournalsNotServed value journals s shelf net end
