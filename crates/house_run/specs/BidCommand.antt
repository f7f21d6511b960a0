-- The command `bid AUCTION VALUES BIDDER TOKEN ADDRESS [--looks N]`: an agent takes the part of a bidder over a link to ADDRESS, who demands by
-- his valuation in a file, and tells how each clock ended that it saw.
use Rattle.std.specs.Prelude.{◌≡◌, ◌⊎◌, ℕ, List, Result, Ok, Err, Some}
use Rattle.std.specs.List.{flat_map}
use Rattle.outcome_text.specs.Standing.{standing_line}
use Rattle.bidder_agent.specs.Talks.{Part}
use Rattle.bidder_agent.specs.declared.agents.AgentEnd.{AgentEnd}
use Rattle.bidder_agent.specs.declared.agents.Seen.{Seen}
use Rattle.bidder_agent.specs.declared.agents.SeenLook.{SeenLook}
use Rattle.house_run.specs.Dialling.{IsUndialled, PlaysIn, TalksOn, ended_by}
use Rattle.house_run.specs.Frame.{Frame}
use Rattle.house_run.specs.Needs.{Needs, nothing_needed}
use Rattle.command_line.specs.Parts.{Bidding}
use Rattle.house_run.specs.Nets.{NetSeen}
use Rattle.house_run.specs.Seen.{Outside, ShelfSeen}
use Rattle.house_run.specs.declared.ends.Ended.{Ended}
use Rattle.house_run.specs.declared.ends.Ended.TheVariants as how

abbrev pub bid_needs : List ℕ → List ℕ → Bidding → Needs
bid_needs auction values b = record nothing_needed { auction = Some auction; values = Some values; bidder = Some b.bidder; bid = Some b }

-- the standing line of a clock that was seen at its end
abbrev pub look_line : SeenLook → List ℕ
look_line seen = standing_line seen.clock seen.look.round seen.look.phase seen.look.prices 0

-- the part was played to its end, and the text has a standing line for each look at a clock's end
pub record BidDone (auction values : List ℕ) (b : Bidding) (shelf : ShelfSeen) (net : NetSeen) (text : List ℕ) : Type 0 where
  pub part : Part
  pub plays : PlaysIn shelf auction values b part
  pub seen : Seen
  pub talks : TalksOn net b.address part (Ok seen)
  pub text_is : text ≡ flat_map look_line seen.looks.items

-- How a command ends whose agent talked so: with the end of an agent that stopped; or the part was played to its end, and the text was made or
-- memory for it ran out.
abbrev pub TalkedSo : Result Seen AgentEnd → Ended → Type 0
TalkedSo (Ok seen) end = (end ≡ how.Done) ⊎ (end ≡ how.NoMemory)
TalkedSo (Err stop) end = end ≡ ended_by stop

-- The address that the command names was dialled, the part was played over the link, and the link was hung up.
pub record Talked (auction values : List ℕ) (b : Bidding) (end : Ended) (shelf : ShelfSeen) (net : NetSeen) : Type 0 where
  pub part : Part
  pub plays : PlaysIn shelf auction values b part
  pub answer : Result Seen AgentEnd
  pub talks : TalksOn net b.address part answer
  pub so : TalkedSo answer end

-- A bid that ended so opened what it needs, in order, changed no file, and passed over no fault that its end does not tell. It had no link,
-- or it talked over one.
pub record BidFrame (auction values : List ℕ) (b : Bidding) (end : Ended) (seen : Outside) (net : NetSeen) : Type 0 where
  pub frame : Frame (bid_needs auction values b) end seen
  pub talked : IsUndialled net b.address ⊎ Talked auction values b end seen.shelf net
