-- What all doors of a house did, each with a pass of the house, and what it comes to at each clock. An entry of a clock's desk history
-- is a report, noted as offered or as counted, or a mark of one, which stands for one answer of a disk's fault to its offer.
use Rattle.std.specs.Prelude.{◌≡◌, ◌≤◌, ◌<◌, ℕ, ◌+◌, ◌-◌, ◌==◌, true, false, List, [], ◌∷◌, length, map, take, Option, Some, None, slice_get, slice_index_or, if◌then◌else◌, Contains}
use Rattle.std.specs.List.{AllByRecursion, flat_map}
use Rattle.demand_set.specs.declared.reports.Report.{Report}
use Rattle.clock.specs.declared.judging.Offered.TheVariants as said
use Rattle.house_io.specs.Faults.{Rose}
use Rattle.house_io.specs.Told.{IfTold}
use Rattle.house_io.specs.Links.{LinkBytes}
use Rattle.house_io.specs.Doors.{DoorLinks}
use Rattle.house_io.specs.declared.doors.Door as doors
use Rattle.house_io.specs.declared.links.Link as links
use Rattle.auction_file.specs.declared.listing.Auction.{Auction}
use Rattle.clock_book.specs.Books.{BookOf}
use Rattle.clock_book.specs.DeskHistories.{reports_in, IsInDoubt}
use Rattle.clock_book.specs.declared.entries.Entry.{Entry}
use Rattle.clock_book.specs.declared.entries.Entry.TheVariants as entry
use Rattle.turn_desk.specs.Histories.{StartsWith}
use Rattle.turn_desk.specs.Passes.{Opened}
use Rattle.clock_family.specs.Houses.{HouseOf, HousePassOf, AreClosed}
use Rattle.clock_family.specs.Seats.{SeatAllows}
use Rattle.session.specs.declared.halls.Asked.{Asked}
use Rattle.session.specs.declared.halls.Asked.TheVariants as asked
use Rattle.session.specs.Turns.{Turn}
use Rattle.house_serve.specs.Doors.{Visit, AreVisits, DoorTells}
use Rattle.house_serve.specs.declared.houses.DoorLog.{DoorLog}

-- what may be asked of a house by one of its passes
abbrev pub PassAllows : HousePassOf → Asked → HousePassOf → Type 0
PassAllows before asked after = SeatAllows before.passes asked after.passes

-- what a pass has seen of a clock
abbrev pub seen_of : HousePassOf → ℕ → List Entry
seen_of p clock = slice_index_or (map (λ q. q.seen) p.passes) clock []

-- The report of what was asked in a turn, with the last place of what the pass has seen then, where it was an offer to this clock that was
-- answered Taken, or one that was answered by a fault of the disk.
abbrev pub taken_place : ℕ → HousePassOf → Option Asked → List (ℕ × Report)
taken_place clock now None = []
taken_place clock now (Some (asked.Look c look)) = []
taken_place clock now (Some (asked.Offer c bidder round demand said.Taken)) = if c == clock then (length (seen_of now clock) - 1, record { bidder = bidder; round = round; demand = demand }) ∷ [] else []
taken_place clock now (Some (asked.Offer c bidder round demand answer)) = []

abbrev pub mark_place : ℕ → HousePassOf → Option Asked → List (ℕ × Report)
mark_place clock now None = []
mark_place clock now (Some (asked.Look c look)) = []
mark_place clock now (Some (asked.Offer c bidder round demand said.DiskFault)) = if c == clock then (length (seen_of now clock) - 1, record { bidder = bidder; round = round; demand = demand }) ∷ [] else []
mark_place clock now (Some (asked.Offer c bidder round demand answer)) = []

abbrev pub taken_places : ℕ → List (Turn HousePassOf) → List (ℕ × Report)
taken_places clock turns = flat_map (λ (t : Turn HousePassOf). taken_place clock t.now t.asked) turns

abbrev pub mark_places : ℕ → List (Turn HousePassOf) → List (ℕ × Report)
mark_places clock turns = flat_map (λ (t : Turn HousePassOf). mark_place clock t.now t.asked) turns

-- how often a place stands in a list
abbrev pub times : ℕ → List (ℕ × Report) → ℕ
times k [] = 0
times k ((n, r) ∷ more) = (if n == k then 1 else 0) + times k more

-- a report of the history, noted as offered or as counted
abbrev pub Holds : Report → List Entry → Type 0
Holds r history = Contains (reports_in history) r

-- the report of an offer to this clock that was answered Taken or Again stands in the history
abbrev pub IsHeld : ℕ → List Entry → Option Asked → Type 0
IsHeld clock history None = Unit {0}
IsHeld clock history (Some (asked.Look c look)) = Unit {0}
IsHeld clock history (Some (asked.Offer c bidder round demand said.Taken)) = c ≡ clock → Holds (record { bidder = bidder; round = round; demand = demand }) history
IsHeld clock history (Some (asked.Offer c bidder round demand said.Again)) = c ≡ clock → Holds (record { bidder = bidder; round = round; demand = demand }) history
IsHeld clock history (Some (asked.Offer c bidder round demand answer)) = Unit {0}

-- What the turns of all doors come to at one clock, whose history was this at the opening and is that of the closed book.
pub record Joins (opening closed : List Entry) (turns : List (Turn HousePassOf)) (clock : ℕ) : Type 0 where
  pub opened : StartsWith closed opening
  -- each point at which the clock was asked was a front of the one history, and began with the opening
  pub points : AllByRecursion (λ (t : Turn HousePassOf). StartsWith (seen_of t.now clock) opening × StartsWith closed (seen_of t.now clock)) turns
  -- each offer that was answered Taken added its report, noted as offered, and each report that was added here and is noted so is that of just
  -- one of these offers
  pub took : AllByRecursion (λ (e : ℕ × Report). (length opening ≤ e.0) × (slice_get closed e.0 ≡ Some (entry.Offered e.1))) (taken_places clock turns)
  pub taken : (k : ℕ) (r : Report) → length opening ≤ k → slice_get closed k ≡ Some (entry.Offered r) → times k (taken_places clock turns) ≡ 1
  -- each offer that was answered by a fault of the disk added a mark of its report, and each mark that was added here is that of just one of
  -- these offers
  pub marked : AllByRecursion (λ (e : ℕ × Report). (length opening ≤ e.0) × (slice_get closed e.0 ≡ Some (entry.Mark e.1))) (mark_places clock turns)
  pub faulted : (k : ℕ) (r : Report) → length opening ≤ k → slice_get closed k ≡ Some (entry.Mark r) → times k (mark_places clock turns) ≡ 1
  -- each report that was added here and is noted as counted was in doubt: the history before it has a mark of it, and no report since
  pub counted : (k : ℕ) (r : Report) → length opening ≤ k → slice_get closed k ≡ Some (entry.Counted r) → IsInDoubt (take k closed) r
  -- what was answered Taken or Again is in the history
  pub held : AllByRecursion (λ (t : Turn HousePassOf). IsHeld clock closed t.asked) turns

-- one door: how its pass stood at first and at last, the door at first, what became of it, and its visits
pub record DoorRun (R L : Type 0) : Type 0 where
  pub before : HousePassOf
  pub after : HousePassOf
  pub door : R
  pub log : DoorLog R
  pub visits : List (Visit HousePassOf L)

abbrev pub turns_of : {R L : Type 0} → DoorRun R L → List (Turn HousePassOf)
turns_of run = flat_map (λ v. v.turns) run.visits

module _ {R L : Type 0} (told : R → Option (DoorLinks L)) (faults : R → ℕ) (link_told : L → Option LinkBytes) (link_faults : L → ℕ) (auction : Auction) (sessions : ℕ) where
  -- The door served so many sessions, or it failed before, and its count rose.
  pub record IsRun (run : DoorRun R L) : Type 0 where
    pub ends : run.log.ends.items ≡ map (λ (v : Visit HousePassOf L). v.end) run.visits
    pub held : AreVisits PassAllows link_told link_faults auction run.before run.visits run.after
    pub links : IfTold (told run.door) (told run.log.door) (DoorTells PassAllows link_told link_faults auction run.visits)
    pub done : run.log.failed ≡ false → (length run.log.ends.items ≡ sessions) × (faults run.log.door ≡ faults run.door)
    pub failed : run.log.failed ≡ true → (length run.log.ends.items < sessions) × Rose (faults run.door) (faults run.log.door)

  -- A house was served at these doors, a pass for each, and closed.
  pub record IsServed {D : Type 0} (house : HouseOf D) (passes : List HousePassOf) (doors : List R) (books : List (BookOf D)) (logs : List (DoorLog R)) : Type 0 where
    pub runs : List (DoorRun R L)
    pub passes_are : passes ≡ map (λ (r : DoorRun R L). r.before) runs
    pub doors_are : doors ≡ map (λ (r : DoorRun R L). r.door) runs
    pub logs_are : logs ≡ map (λ (r : DoorRun R L). r.log) runs
    pub each : AllByRecursion IsRun runs
    pub closed : AreClosed house.desks (map (λ (r : DoorRun R L). r.after) runs) books
    pub joins : (clock : ℕ) (d : Opened (BookOf D)) (b : BookOf D) → clock < length house.desks
        → Joins (slice_index_or house.desks clock d).book.state.history (slice_index_or books clock b).state.history (flat_map turns_of runs) clock

-- the same by what doors and links show
abbrev pub IsServedBy : {R L D : Type 0} → doors.Ghosts R L → links.Ghosts L → Auction → ℕ → HouseOf D → List HousePassOf → List R → List (BookOf D) → List (DoorLog R) → Type 0
IsServedBy door link auction sessions house passes doors books logs = IsServed door.told door.faults link.told link.faults auction sessions house passes doors books logs
