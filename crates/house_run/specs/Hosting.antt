-- What a house comes to that is opened on the disks of its journals, served at doors on a net, and closed.
use Rattle.std.specs.Prelude.{◌≡◌, ◌≤◌, ◌<◌, ◌⊎◌, ◌++◌, ◌∷◌, [], ◌-◌, ◌^◌, min, ℕ, false, List, length, map, take, drop, slice_index_or, IsTrue, Option, Result, Ok, Err, vec_capacity}
use Rattle.house_io.specs.Disks.{DiskShown, IfDiskTold}
use Rattle.std.specs.List.{AllByRecursion, flat_map}
use Rattle.house_io.specs.Doors.{DoorLinks, IsEmptyDoor}
use Rattle.house_io.specs.declared.doors.Door as doors
use Rattle.house_io.specs.declared.links.Link as links
use Rattle.house_io.specs.declared.nets.Net as nets
use Rattle.house_io.specs.Faults.{Rose}
use Rattle.house_io.specs.Links.{LinkBytes}
use Rattle.house_io.specs.Nets.{NetLists, GivesDoors}
use Rattle.house_io.specs.Told.{IfTold}
use Rattle.auction_file.specs.declared.listing.Auction.{Auction}
use Rattle.clock.specs.Reports.{ClockHistory, histories}
use Rattle.lot_base.specs.declared.auction_terms.Terms.{Terms}
use Rattle.recovery.specs.Journaled.{Owner, owner_of}
use Rattle.clock_book.specs.Books.{BookOf, IsKept}
use Rattle.clock_book.specs.DeskHistories.{marks_in}
use Rattle.clock_book.specs.Opened.{IsLeftUnlessClaimed, LeftUnopened}
use Rattle.clock_book.specs.declared.faults.OpenFault.{OpenFault}
use Rattle.clock_book.specs.declared.faults.OpenFault.TheVariants as why
use Rattle.clock_family.specs.Houses.{HousePassOf}
use Rattle.clock_family.specs.Opening.{IsNotOpen}
use Rattle.turn_desk.specs.Passes.{Opened}
use Rattle.house_serve.specs.Houses.{DoorRun, IsRun, Joins, turns_of}
use Rattle.house_run.specs.Journals.{IsRefusal}
use Rattle.house_run.specs.ClockRuns.{BeginNew, ClockRun, IsClockRun, IsJournalRun, IsUnused, NoneFailed}
use Rattle.house_run.specs.declared.ends.Ended.{Ended}
use Rattle.house_run.specs.declared.ends.Ended.TheVariants as how
use Rattle.house_run.specs.declared.hosting.Hosted.{Hosted}
use Rattle.house_run.specs.declared.hosting.Reserved.{Reserved}
use Rattle.house_serve.specs.declared.houses.DoorLog.{DoorLog}
use Rattle.house_io.specs.declared.shelves.Refusal.{Refusal}
use Rattle.house_io.specs.declared.shelves.Refusal.TheVariants as refusal

-- At this address the first doors to come were given, and, in place of those that are missing, doors without links. These were given back, in
-- order.
pub record DoorsServed {R L M : Type 0} (told : R → Option (DoorLinks M)) (address : List ℕ) (count : ℕ) (given back : List R) (before after : NetLists R L) : Type 0 where
  pub empty : List R
  pub given_are : given ≡ take count before.doors ++ empty
  pub are_empty : AllByRecursion (λ door. IsEmptyDoor (told door)) empty
  pub after_is : after ≡ record before { doors = drop count before.doors; closed = before.closed ++ back; asked = before.asked ++ address ∷ [] }

-- the books of a house, whose desks these were, once it was closed, and their disks
pub record BooksBack {D : Type 0} (shown : D → DiskShown) (desks : List (Opened (BookOf D))) (books : List (BookOf D)) (disks : List D) : Type 0 where
  pub count : length books ≡ length desks
  pub origins : (k : ℕ) (d : Opened (BookOf D)) (b : BookOf D) → k < length desks → (slice_index_or books k b).origin ≡ (slice_index_or desks k d).book.origin
  pub disks_are : disks ≡ map (λ (b : BookOf D). b.disk) books
  pub kept : AllByRecursion (λ (b : BookOf D). IsKept shown b) books

module _ {R L M : Type 0} (told : R → Option (DoorLinks M)) (faults : R → ℕ) (link_told : M → Option LinkBytes) (link_faults : M → ℕ) (auction : Auction) (address : List ℕ) (count sessions : ℕ) where
  -- So many doors of a net served so many sessions each, or failed before.
  pub record DoorsRan (runs : List (DoorRun R M)) (told_before told_after : Option (NetLists R L)) : Type 0 where
    pub count_is : length runs ≡ count
    pub each : AllByRecursion (IsRun told faults link_told link_faults auction sessions) runs
    pub lists : IfTold told_before told_after (DoorsServed told address count (map (λ (r : DoorRun R M). r.door) runs) (map (λ (r : DoorRun R M). r.log.door) runs))

-- the net failed, and its count rose
pub record IsNetEnd (before now : ℕ) (end : Ended) : Type 0 where
  pub end_is : end ≡ how.NetFault
  pub rose : Rose before now
  pub later : before ≤ now

-- memory ran out
pub record IsMemoryEnd (before now : ℕ) (end : Ended) : Type 0 where
  pub end_is : end ≡ how.NoMemory
  pub steady : now ≡ before

-- why a house that was opened was not served, by the counts of the net
abbrev pub HouseEnd : ℕ → ℕ → Ended → Type 0
HouseEnd before now end = IsNetEnd before now end ⊎ IsMemoryEnd before now end

-- The net is as it was, or it was asked for doors at this address: it refused them, or the doors that it gave went back as they came.
abbrev pub LeavesNet : {R L M : Type 0} → (R → Option (DoorLinks M)) → List ℕ → ℕ → NetLists R L → NetLists R L → Type 0
LeavesNet {R = R} told address count before after =
    (after ≡ before)
    ⊎ ((after ≡ record before { asked = before.asked ++ address ∷ [] })
    ⊎ ((given : List R) × DoorsServed told address count given given before after))

-- the books of a house, whose desks these were, once it was closed unused, and their disks
pub record HouseUnused {D : Type 0} (shown : D → DiskShown) (desks : List (Opened (BookOf D))) (disks : List D) : Type 0 where
  pub books : List (BookOf D)
  pub back : BooksBack shown desks books disks
  pub unused : (k : ℕ) (d : Opened (BookOf D)) (b : BookOf D) → k < length desks → (slice_index_or books k b).state.history ≡ (slice_index_or desks k d).book.state.history

-- What is told of doors that served, where none failed: how the sessions at each ended, and these clocks.
pub record TellsServed {R L : Type 0} (clocks : List ClockHistory) (doors : List (DoorRun R L)) (hosted : Hosted) (before now : ℕ) : Type 0 where
  pub none_failed : NoneFailed doors
  pub histories_are : histories hosted.clocks.items ≡ clocks
  pub ends_are : map (λ ends. ends.items) hosted.ends.items ≡ map (λ (d : DoorRun R L). d.log.ends.items) doors
  pub steady : now ≡ before

-- a door failed, and the net's count rose
pub record TellsFailed {R L : Type 0} (doors : List (DoorRun R L)) (end : Ended) (before now : ℕ) : Type 0 where
  pub some_failed : NoneFailed doors → ⊥
  pub cause : IsNetEnd before now end

abbrev pub ServedAnswer : {R L : Type 0} → List ClockHistory → List (DoorRun R L) → Result Hosted Ended → ℕ → ℕ → Type 0
ServedAnswer clocks doors (Ok hosted) before now = TellsServed clocks doors hosted before now
ServedAnswer clocks doors (Err end) before now = TellsFailed doors end before now

module _ {D R L M : Type 0} (shown : D → DiskShown) (told : R → Option (DoorLinks M)) (faults : R → ℕ) (link_told : M → Option LinkBytes) (link_faults : M → ℕ) (auction : Auction) (address : List ℕ) (count sessions : ℕ) where
  -- a house of these desks was served with these passes at doors of the net, and closed
  pub record HouseServed (desks : List (Opened (BookOf D))) (passes : List HousePassOf) (disks : List D) (answer : Result Hosted Ended) (told_before told_after : Option (NetLists R L)) (counted_before counted : ℕ) : Type 0 where
    pub books : List (BookOf D)
    pub back : BooksBack shown desks books disks
    pub runs : List (DoorRun R M)
    pub passes_are : passes ≡ map (λ (r : DoorRun R M). r.before) runs
    pub ran : DoorsRan {L = L} told faults link_told link_faults auction address count sessions runs told_before told_after
    pub joins : (k : ℕ) (d : Opened (BookOf D)) (b : BookOf D) → k < length desks
        → Joins (slice_index_or desks k d).book.state.history (slice_index_or books k b).state.history (flat_map turns_of runs) k
    pub answer_is : ServedAnswer (map (λ (b : BookOf D). b.state.clock) books) runs answer counted_before counted

  -- a house of these desks was closed unused
  pub record HouseNotServed (desks : List (Opened (BookOf D))) (disks : List D) (end : Ended) (told_before told_after : Option (NetLists R L)) (counted_before counted : ℕ) : Type 0 where
    pub closed : HouseUnused shown desks disks
    pub net_is : IfTold told_before told_after (LeavesNet told address count)
    pub cause : HouseEnd counted_before counted end

  abbrev pub HouseOutcome : List (Opened (BookOf D)) → List HousePassOf → Result Hosted Ended → List D → Option (NetLists R L) → Option (NetLists R L) → ℕ → ℕ → Type 0
  HouseOutcome desks passes (Ok hosted) disks told_before told_after counted_before counted = HouseServed desks passes disks (Ok hosted) told_before told_after counted_before counted
  HouseOutcome desks passes (Err end) disks told_before told_after counted_before counted =
      HouseServed desks passes disks (Err end) told_before told_after counted_before counted ⊎ HouseNotServed desks disks end told_before told_after counted_before counted

-- empty lists with room for so many clocks, their disks, and the ends at so many doors
pub record IsReserved {D : Type 0} (clocks doors : ℕ) (room : Reserved D) : Type 0 where
  pub no_clock : length room.clocks.items ≡ 0
  pub no_disk : length room.disks.items ≡ 0
  pub no_end : length room.ends.items ≡ 0
  pub for_clocks : clocks ≤ vec_capacity room.clocks
  pub for_disks : clocks ≤ vec_capacity room.disks
  pub for_ends : doors ≤ vec_capacity room.ends

-- what is told of doors that were served, whose logs these are, and of the closed books
abbrev pub LogsOutcome : {D R : Type 0} → List (BookOf D) → List (DoorLog R) → Result Hosted Ended → Type 0
LogsOutcome {D = D} {R = R} books logs (Ok hosted) =
    AllByRecursion (λ (log : DoorLog R). log.failed ≡ false) logs
    × (histories hosted.clocks.items ≡ map (λ (b : BookOf D). b.state.clock) books)
    × (map (λ ends. ends.items) hosted.ends.items ≡ map (λ (log : DoorLog R). log.ends.items) logs)
LogsOutcome {D = D} {R = R} books logs (Err end) = (end ≡ how.NetFault) × (AllByRecursion (λ (log : DoorLog R). log.failed ≡ false) logs → ⊥)

-- how a command ends to which the net refuses its doors, or its link
abbrev pub net_end : Refusal → Ended
net_end refusal.Failed = how.NetFault
net_end refusal.NoMemory = how.NoMemory

-- The disk of a clock was left as an opening that was refused leaves it, or as one does whose book was closed unused. What is said of its
-- moments is said where it tells.
abbrev pub LeavesDisk : {D : Type 0} → (D → DiskShown) → Owner → D → D → Type 0
LeavesDisk shown owner before after =
    IfDiskTold (shown before) (shown after) (LeftUnopened owner)
    ⊎ ((run : ClockRun) × IsClockRun owner run × IsUnused run × (IfDiskTold (shown before) (shown after) (IsJournalRun owner run)))

-- nothing was done on the net
pub record IsSameNet {N : Type 0} (told_before told_after : Option N) (counted_before counted : ℕ) : Type 0 where
  pub told_same : told_after ≡ told_before
  pub counted_same : counted ≡ counted_before

module _ {D R L M : Type 0} (shown : D → DiskShown) (told : R → Option (DoorLinks M)) (faults : R → ℕ) (link_told : M → Option LinkBytes) (link_faults : M → ℕ) (auction : Auction) (address : List ℕ) (count sessions : ℕ) where
  -- A house was opened on these disks, one for each clock, served at doors of the net, and closed. The disks came back in order.
  pub record IsHosted (old disks : List D) (answer : Result Hosted Ended) (told_before told_after : Option (NetLists R L)) (counted_before counted : ℕ) : Type 0 where
    -- a disk came back for each, and there is a clock for each
    pub disks_count : length disks ≡ length old
    pub clocks : List ClockRun
    pub count_is : length clocks ≡ length old
    -- what each clock and its journal came to, the journal where its disk tells
    pub clocks_are : (k : ℕ) (c : ClockRun) → k < length clocks → IsClockRun (owner_of auction.terms k auction.digest) (slice_index_or clocks k c)
    pub journals_are : (k : ℕ) (c : ClockRun) (d : D) → k < length clocks
        → IfDiskTold (shown (slice_index_or old k d)) (shown (slice_index_or disks k d)) (IsJournalRun (owner_of auction.terms k auction.digest) (slice_index_or clocks k c))
    -- each disk is claimed, and has counted a fault for each mark
    pub claimed : (k : ℕ) (d : D) → k < length clocks → IsTrue (shown (slice_index_or disks k d)).claimed
    pub marks : (k : ℕ) (c : ClockRun) (d : D) → k < length clocks → min (marks_in (slice_index_or clocks k c).closed.history) (2 ^ 64 - 1) ≤ (shown (slice_index_or disks k d)).faults
    -- each door began with new passes of the clocks' books, and served so many sessions, or failed
    pub runs : List (DoorRun R M)
    pub new : BeginNew clocks runs
    pub ran : DoorsRan {L = L} told faults link_told link_faults auction address count sessions runs told_before told_after
    -- what the turns at all doors come to at each clock
    pub joins : (k : ℕ) (c : ClockRun) → k < length clocks
        → Joins (slice_index_or clocks k c).opening (slice_index_or clocks k c).closed.history (flat_map turns_of runs) k
    -- what is answered
    pub answer_is : ServedAnswer (map (λ (c : ClockRun). c.closed.clock) clocks) runs answer counted_before counted

module _ {D N : Type 0} (shown : D → DiskShown) (terms : Terms) (digest : List ℕ) (old disks : List D) (told_before told_after : Option N) (counted_before counted : ℕ) (end : Ended) where
  -- the disk of a clock failed
  pub record IsDiskEnd : Type 0 where
    pub clock : ℕ
    pub end_is : end ≡ how.DiskFault clock
    pub not_open : IsNotOpen shown terms digest old disks clock why.DiskFault
    pub same : IsSameNet told_before told_after counted_before counted

  -- the journal of a clock was refused
  pub record IsRefusedEnd : Type 0 where
    pub clock : ℕ
    pub fault : OpenFault
    pub end_is : end ≡ how.BadJournal clock fault
    pub not_open : IsNotOpen shown terms digest old disks clock fault
    pub refusal : IsRefusal fault
    pub same : IsSameNet told_before told_after counted_before counted

  -- why no house was served: a book was not opened, and nothing was done on the net; memory ran out; or the net failed
  abbrev pub HostEnd : Type 0
  HostEnd = IsDiskEnd ⊎ (IsRefusedEnd ⊎ HouseEnd counted_before counted end)

module _ {D R L M : Type 0} (shown : D → DiskShown) (told : R → Option (DoorLinks M)) (faults : R → ℕ) (link_told : M → Option LinkBytes) (link_faults : M → ℕ) (auction : Auction) (address : List ℕ) (count sessions : ℕ) where
  -- no house was served on these disks: not all books were opened, or a house of them was closed unused
  pub record IsUnhosted (old disks : List D) (end : Ended) (told_before told_after : Option (NetLists R L)) (counted_before counted : ℕ) : Type 0 where
    pub disks_count : length disks ≡ length old
    pub left : (k : ℕ) (d : D) → k < length old → LeavesDisk shown (owner_of auction.terms k auction.digest) (slice_index_or old k d) (slice_index_or disks k d)
    pub unclaimed : (k : ℕ) (d : D) → k < length old → IsLeftUnlessClaimed (shown (slice_index_or old k d)) (shown (slice_index_or disks k d))
    pub net_is : IfTold told_before told_after (LeavesNet told address count)
    pub cause : HostEnd shown auction.terms auction.digest old disks told_before told_after counted_before counted end

  abbrev pub HostOutcome : List D → Result Hosted Ended → List D → Option (NetLists R L) → Option (NetLists R L) → ℕ → ℕ → Type 0
  HostOutcome old (Ok hosted) disks told_before told_after counted_before counted =
      IsHosted shown told faults link_told link_faults auction address count sessions old disks (Ok hosted) told_before told_after counted_before counted
  HostOutcome old (Err end) disks told_before told_after counted_before counted =
      IsHosted shown told faults link_told link_faults auction address count sessions old disks (Err end) told_before told_after counted_before counted
      ⊎ IsUnhosted old disks end told_before told_after counted_before counted

-- no call on these doors has failed
abbrev pub AreUnfailed : {R M : Type 0} → doors.Ghosts R M → List R → Type 0
AreUnfailed door given = AllByRecursion (λ d. door.faults d ≡ 0) given

-- The same by what a disk, the net, its doors and their links show.
module _ {D N R L M : Type 0} (shown : D → DiskShown) (net : nets.Ghosts N L R M) (door : doors.Ghosts R M) (link : links.Ghosts M) (auction : Auction) (address : List ℕ) (count sessions : ℕ) where
  -- what a house comes to that is served at doors of the net, and closed
  abbrev pub HouseOutcomeBy : List (Opened (BookOf D)) → List HousePassOf → Result Hosted Ended → List D → N → N → Type 0
  HouseOutcomeBy desks passes answer disks old new =
      HouseOutcome shown door.told door.faults link.told link.faults auction address count sessions desks passes answer disks (net.told old) (net.told new) (net.faults old) (net.faults new)

  -- the same of doors that the net gave at this address
  abbrev pub GivenOutcomeBy : List R → List (Opened (BookOf D)) → List HousePassOf → Result Hosted Ended → List D → N → N → Type 0
  GivenOutcomeBy given desks passes answer disks old new = (before : Option (NetLists R L)) → IfTold before (net.told old) (GivesDoors door.told address count given)
      → HouseOutcome shown door.told door.faults link.told link.faults auction address count sessions desks passes answer disks before (net.told new) (net.faults old) (net.faults new)

  -- what a house comes to that is opened on these disks, served at doors of the net, and closed
  abbrev pub HostOutcomeBy : List D → Result Hosted Ended → List D → N → N → Type 0
  HostOutcomeBy disks answer back old new =
      HostOutcome shown door.told door.faults link.told link.faults auction address count sessions disks answer back (net.told old) (net.told new) (net.faults old) (net.faults new)
