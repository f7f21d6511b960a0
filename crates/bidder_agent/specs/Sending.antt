-- Sending a frame, and judging a reply.
use Rattle.std.specs.Prelude.{◌≡◌, ◌≤◌, ℕ, Bool, true, false, List, [], ◌++◌, Result, Ok, Err}
use Rattle.house_io.specs.Links.{LinkBytes}
use Rattle.house_io.specs.Faults.{Rose}
use Rattle.report_wire.specs.declared.messages.ToBidder.{ToBidder}
use Rattle.report_wire.specs.declared.messages.ToBidder.TheVariants as bidder
use Rattle.bidder_agent.specs.declared.agents.AgentEnd.{AgentEnd}
use Rattle.bidder_agent.specs.declared.agents.AgentEnd.TheVariants as ends
use Rattle.bidder_agent.specs.declared.talking.Cut.{Cut}
use Rattle.bidder_agent.specs.declared.talking.Cut.TheVariants as cut

-- these bytes were written, and nothing was taken
abbrev pub Adds : List ℕ → LinkBytes → LinkBytes → Type 0
Adds bytes before after = (after.left ≡ before.left) × (after.written ≡ before.written ++ bytes)

-- all was written; or a front, after which the link failed; or nothing, where memory ran out
abbrev pub IsSentBy : Result (Unit {0}) Cut → List ℕ → LinkBytes → LinkBytes → Type 0
IsSentBy (Ok done) bytes before after = Adds bytes before after
IsSentBy (Err cut.LinkFault) bytes before after = (given : List ℕ) × (more : List ℕ) × (bytes ≡ given ++ more) × Adds given before after
IsSentBy (Err cut.NoMemory) bytes before after = Adds [] before after

abbrev pub HasCutCause : ℕ → ℕ → Result (Unit {0}) Cut → Type 0
HasCutCause before now (Ok done) = now ≡ before
HasCutCause before now (Err cut.LinkFault) = Rose before now × (before ≤ now)
HasCutCause before now (Err cut.NoMemory) = now ≡ before

abbrev pub kept : Bool → ToBidder → Result ToBidder AgentEnd
kept true reply = Ok reply
kept false reply = Err ends.BadReply

-- what an exchange comes to, by whether the reply answers the frame
abbrev pub judged : Bool → ToBidder → Result ToBidder AgentEnd
judged good (bidder.Refused code detail value) = Err (ends.Refused code detail value)
judged good (bidder.Welcome goods clocks) = kept good (bidder.Welcome goods clocks)
judged good (bidder.Price clock round phase prices) = kept good (bidder.Price clock round phase prices)
judged good (bidder.Taken clock round) = kept good (bidder.Taken clock round)
judged good (bidder.Again clock round) = kept good (bidder.Again clock round)
judged good bidder.Bye = kept good bidder.Bye
