-- What the bytes of a link show of a report. A bidder who keeps what went over it has this in hand, and needs to know nothing of the house.
use Rattle.std.specs.Prelude.{◌≡◌, ◌<◌, ◌+◌, ◌++◌, ◌⊎◌, ℕ, List, [], ◌∷◌, length, map, Option, Some, None, slice_get, option_map}
use Rattle.std.specs.List.{AllByRecursion, concat}
use Rattle.demand_set.specs.declared.reports.Report.{Report}
use Rattle.house_io.specs.Doors.{DoorLinks}
use Rattle.house_io.specs.Links.{LinkBytes}
use Rattle.house_io.specs.NetsShown.{LinkShown, NetView}
use Rattle.auction_file.specs.declared.listing.Auction.{Auction}
use Rattle.report_wire.specs.Frames.{Direction, IsSent, Sent, stream_of}
use Rattle.report_wire.specs.Messages.{bidder_sent, house_sent, to_bidder, to_house}
use Rattle.report_wire.specs.declared.messages.ToBidder.{ToBidder}
use Rattle.report_wire.specs.declared.messages.ToBidder.TheVariants as bidder
use Rattle.report_wire.specs.declared.messages.ToHouse.{ToHouse}
use Rattle.report_wire.specs.declared.messages.ToHouse.TheVariants as house
use Rattle.recovery.specs.Entries.{IsReportOf}
use Rattle.session.specs.Turns.{bidder_behind}
use Rattle.house_run.specs.Nets.{NetSeen}
use Rattle.house_lives.specs.Lives.{Life}

-- the bytes begin with these messages of the direction
pub record BeginsWith (d : Direction) (bytes : List ℕ) (messages : List Sent) : Type 0 where
  pub rest : List ℕ
  pub whole : bytes ≡ stream_of messages rest
  pub each : AllByRecursion (IsSent d) messages

-- the frame of a report to a clock
abbrev pub report_frame : Auction → ℕ → Report → ToHouse
report_frame value clock r = house.Report clock r.round (record { goods = length value.terms.goods; quantities = concat r.demand })

-- The bytes that came begin with these frames and that of the report, and those that went with as many replies and one that is Taken or Again.
-- By the frames before, the session is one of the report's bidder.
pub record IsAnsweredOver (value : Auction) (clock : ℕ) (r : Report) (came went : LinkBytes) : Type 0 where
  pub report : IsReportOf value.terms r
  pub frames : List ToHouse
  pub replies : List ToBidder
  pub reply : ToBidder
  pub as_many : length replies ≡ length frames
  pub read : BeginsWith to_house came.left (map house_sent (frames ++ report_frame value clock r ∷ []))
  pub given : List ℕ
  pub written : went.written ≡ came.written ++ given
  pub replied : BeginsWith to_bidder given (map bidder_sent (replies ++ reply ∷ []))
  pub says : (reply ≡ bidder.Taken clock r.round) ⊎ (reply ≡ bidder.Again clock r.round)
  pub bidder : bidder_behind value None frames ≡ Some r.bidder

-- what the link of this number tells, if there is one and it tells
abbrev pub bytes_at : List LinkShown → ℕ → Option (Option LinkBytes)
bytes_at links number = option_map (λ (l : LinkShown). l.told) (slice_get links number)

-- At one of so many doors of the net a link came in that told this, and it was hung up and told that.
pub record IsLinkAt (doors : ℕ) (before after : NetView) (came went : LinkBytes) : Type 0 where
  pub place : ℕ
  pub few : place < doors
  pub door : DoorLinks LinkShown
  pub door_is : slice_get before.doors place ≡ Some (Some door)
  pub closed : DoorLinks LinkShown
  pub closed_is : slice_get after.closed (length before.closed + place) ≡ Some (Some closed)
  pub number : ℕ
  pub came_is : bytes_at door.to_come number ≡ Some (Some came)
  pub went_is : bytes_at closed.hung_up (length door.hung_up + number) ≡ Some (Some went)

-- the same of a net that tells
pub record IsLinkOf (doors : ℕ) (net : NetSeen) (came went : LinkBytes) : Type 0 where
  pub before : NetView
  pub after : NetView
  pub told_before : net.told_before ≡ Some before
  pub told : net.told ≡ Some after
  pub link : IsLinkAt doors before after came went

-- The report was acknowledged in this life, as the bytes of a link show that came in at one of the house's doors.
pub record IsShownAcknowledged (value : Auction) (l : Life) (clock : ℕ) (r : Report) : Type 0 where
  pub came : LinkBytes
  pub went : LinkBytes
  pub link : IsLinkOf l.serving.doors l.net came went
  pub answered : IsAnsweredOver value clock r came went
