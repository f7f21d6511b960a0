-- How a run may end by the net, end by end, beside the ends by the shelf; and what an end leaves of the net.
use Rattle.std.specs.Prelude.{◌≡◌, ◌≢◌, ◌≤◌, ◌⊎◌, ⊤, ℕ, List, None, Err}
use Rattle.house_io.specs.Faults.{Rose}
use Rattle.bidder_agent.specs.Talks.{Part}
use Rattle.bidder_agent.specs.declared.agents.AgentEnd.{AgentEnd}
use Rattle.bidder_agent.specs.declared.agents.AgentEnd.TheVariants as agent
use Rattle.house_run.specs.Causes.{MayEnd}
use Rattle.house_run.specs.Dialling.{PlaysIn, TalksOn}
use Rattle.house_run.specs.MoveEnds.{EndsMoving}
use Rattle.house_run.specs.Needs.{Has, Needs}
use Rattle.command_line.specs.Parts.{Bidding}
use Rattle.house_run.specs.Nets.{NetSeen, IsNetUntouched}
use Rattle.house_run.specs.Seen.{Outside, ShelfSeen}
use Rattle.house_run.specs.declared.ends.Ended.{Ended}
use Rattle.house_run.specs.declared.ends.Ended.TheVariants as how

-- the command goes to the net
abbrev pub NeedsNet : Needs → Type 0
NeedsNet needs = Has needs.bid (λ b. ⊤) ⊎ Has needs.serve (λ s. ⊤)

-- the agent's talk ended so
pub record TalkEnds (shelf : ShelfSeen) (net : NetSeen) (auction values : List ℕ) (b : Bidding) (end : AgentEnd) : Type 0 where
  pub part : Part
  pub plays : PlaysIn shelf auction values b part
  pub talks : TalksOn net b.address part (Err end)

abbrev pub EndsTalking : Needs → ShelfSeen → NetSeen → AgentEnd → Type 0
EndsTalking needs shelf net end = Has needs.auction (λ auction. Has needs.values (λ values. Has needs.bid (λ b. TalkEnds shelf net auction values b end)))

-- when a job may end so by the net
abbrev pub EndsOnNet : Needs → ShelfSeen → NetSeen → Ended → Type 0
EndsOnNet needs shelf net how.NetFault = NeedsNet needs × Rose net.faults_before net.faults
EndsOnNet needs shelf net (how.Refused code detail value) = EndsTalking needs shelf net (agent.Refused code detail value)
EndsOnNet needs shelf net (how.LooksSpent clock) = EndsTalking needs shelf net (agent.LooksSpent clock)
EndsOnNet needs shelf net how.BadReply = EndsTalking needs shelf net agent.BadReply
EndsOnNet needs shelf net end = ⊥

-- when a job may end so
abbrev pub Ends : Needs → Outside → NetSeen → Ended → Type 0
Ends needs seen net end = MayEnd needs seen end ⊎ (EndsOnNet needs seen.shelf net end ⊎ EndsMoving needs seen.shelf end)

-- A job that ended so passed over no fault of the net that its end does not tell, and a command that does not go to the net left it as it was.
pub record NetFrame (needs : Needs) (end : Ended) (net : NetSeen) : Type 0 where
  pub quiet : end ≢ how.NetFault → net.faults ≡ net.faults_before
  pub later : net.faults_before ≤ net.faults
  pub untouched : needs.bid ≡ None → needs.serve ≡ None → IsNetUntouched net
  pub early : (clock : ℕ) → needs.bid ≡ None → end ≡ how.DiskFault clock → IsNetUntouched net
