-- Lives of the house: runs of `serve` on one folder, one after another. Each ends or is cut off, and the next begins on what is left.
use Rattle.std.specs.Prelude.{◌≡◌, ◌≤◌, ◌⊎◌, ℕ, List, [], ◌∷◌, ◌++◌, Contains, Some, None, Ok}
use Rattle.demand_set.specs.declared.reports.Report.{Report}
use Rattle.house_io.specs.Moments.{IsImage, Moment, Moments}
use Rattle.house_io.specs.Shelves.{NamedFile, moments_at}
use Rattle.auction_file.specs.AuctionFile.{auction_of}
use Rattle.auction_file.specs.Listing.{listing_of}
use Rattle.auction_file.specs.declared.listing.Auction.{Auction}
use Rattle.clock.specs.declared.judging.Offered.{Offered}
use Rattle.clock.specs.declared.judging.Offered.TheVariants as said
use Rattle.clock_family.specs.Houses.{HousePassOf}
use Rattle.session.specs.declared.halls.Asked.TheVariants as asked
use Rattle.session.specs.Turns.{Turn, bidder_behind, frames_of}
use Rattle.house_serve.specs.Doors.{Visit}
use Rattle.house_serve.specs.Houses.{DoorRun}
use Rattle.command_line.specs.Commands.{Serve, Spells}
use Rattle.command_line.specs.Parts.{Serving}
use Rattle.house_run.specs.ClockRuns.{ClockRun}
use Rattle.house_io.specs.NetsShown.{DoorShown, LinkShown}
use Rattle.house_run.specs.Ends.{RunEnds}
use Rattle.house_run.specs.Needs.{journal_name}
use Rattle.house_run.specs.Nets.{NetSeen}
use Rattle.house_run.specs.Seen.{Outside, SinkSeen, content}
use Rattle.house_run.specs.Serving.{AuctionServed}
use Rattle.house_run.specs.declared.ends.Ended.{Ended}

-- A life, as the contract of the top call sees it: its words, what it did with the outside, the net and the sink, and what it answered;
-- the files with which it began and ended, and those with which the next one begins.
pub record Life : Type 0 where
  pub words : List (List ℕ)
  pub serving : Serving
  pub seen : Outside
  pub net : NetSeen
  pub sink : SinkSeen
  pub answer : Ended
  pub before : List NamedFile
  pub after : List NamedFile
  pub next : List NamedFile

-- The words are those of `serve` with this auction's file and these journals, the top call kept its contract, and the files are told.
pub record IsLife (value : Auction) (auction journals : List ℕ) (l : Life) : Type 0 where
  pub spelled : Spells (Serve auction journals l.serving) l.words
  pub ends : RunEnds l.words l.seen l.net l.sink l.answer
  pub told_before : l.seen.shelf.files_before ≡ Some l.before
  pub told : l.seen.shelf.files ≡ Some l.after
  pub says : auction_of (content l.before auction) ≡ Ok (listing_of value)

-- what a read gives of a file, or a crash may leave of it
abbrev pub MayBeLeft : Moment → List ℕ → Type 0
MayBeLeft m file = (file ≡ m.read) ⊎ IsImage m file

-- What is there of a file later was there before: whatever may be left of it now might have been left then. So it is where the power went
-- between, where the process died or ended, and where other commands ran.
abbrev pub LeadsTo : Moments → Moments → Type 0
LeadsTo before after = (file : List ℕ) → MayBeLeft after.now file → MayBeLeft before.now file

-- the same of each journal
abbrev pub Leads : Auction → List ℕ → List NamedFile → List NamedFile → Type 0
Leads value journals before after = (k : ℕ) → k ≤ value.terms.bidders → LeadsTo (moments_at before (journal_name journals k)) (moments_at after (journal_name journals k))

-- these lives lead from the first files to the last ones
abbrev pub AreLives : Auction → List ℕ → List ℕ → List NamedFile → List Life → List NamedFile → Type 0
AreLives value auction journals first [] last = last ≡ first
AreLives value auction journals first (l ∷ ls) last =
    (l.before ≡ first) × IsLife value auction journals l × Leads value journals l.after l.next × AreLives value auction journals l.next ls last

-- the turn is an offer of this report to this clock, and was answered so
abbrev pub IsOfferOf : ℕ → Report → Offered → Turn HousePassOf → Type 0
IsOfferOf clock r answer t = t.asked ≡ Some (asked.Offer clock r.bidder r.round r.demand answer)

-- The turn is one of a session at these doors, after these turns of it.
pub record IsTurnAt (doors : List (DoorRun DoorShown LinkShown)) (earlier : List (Turn HousePassOf)) (turn : Turn HousePassOf) : Type 0 where
  pub door : DoorRun DoorShown LinkShown
  pub at_door : Contains doors door
  pub visit : Visit HousePassOf LinkShown
  pub in_visit : Contains door.visits visit
  pub later : List (Turn HousePassOf)
  pub turns_are : visit.turns ≡ earlier ++ turn ∷ later

-- The report was acknowledged in this life: an auction was served, and a session had a turn in which it was answered Taken or Again.
pub record IsAcknowledged (value : Auction) (journals : List ℕ) (l : Life) (clock : ℕ) (r : Report) : Type 0 where
  pub clocks : List ClockRun
  pub doors : List (DoorRun DoorShown LinkShown)
  pub served : AuctionServed value journals l.serving l.seen.shelf l.net clocks doors
  pub earlier : List (Turn HousePassOf)
  pub turn : Turn HousePassOf
  pub at : IsTurnAt doors earlier turn
  pub answered : IsOfferOf clock r said.Taken turn ⊎ IsOfferOf clock r said.Again turn

-- The report was sent in this life, by a session whose bidder is the report's: it was answered Taken, or by a fault of the disk.
pub record IsSent (value : Auction) (journals : List ℕ) (l : Life) (clock : ℕ) (r : Report) : Type 0 where
  pub clocks : List ClockRun
  pub doors : List (DoorRun DoorShown LinkShown)
  pub served : AuctionServed value journals l.serving l.seen.shelf l.net clocks doors
  pub earlier : List (Turn HousePassOf)
  pub turn : Turn HousePassOf
  pub at : IsTurnAt doors earlier turn
  pub bidder : bidder_behind value None (frames_of earlier) ≡ Some r.bidder
  pub answered : IsOfferOf clock r said.Taken turn ⊎ IsOfferOf clock r said.DiskFault turn
