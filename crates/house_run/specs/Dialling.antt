-- The part that a bidder's agent plays in the market of two files, and its talk over a link of the net.
use Rattle.std.specs.Prelude.{◌≡◌, ◌⊎◌, ℕ, List, [], ◌∷◌, ◌++◌, length, Option, Result, Err}
use Rattle.std.specs.List.{concat}
use Rattle.house_io.specs.Doors.{IsEmptyLink}
use Rattle.house_io.specs.Links.{LinkBytes}
use Rattle.house_io.specs.Told.{IfTold}
use Rattle.lot_base.specs.Economy.{demand}
use Rattle.lot_base.specs.Goods.{IsRange}
use Rattle.lot_base.specs.declared.auction_terms.Terms.{Terms}
use Rattle.bidder_agent.specs.Talks.{Agrees, Part}
use Rattle.bidder_agent.specs.declared.agents.AgentEnd.{AgentEnd}
use Rattle.bidder_agent.specs.declared.agents.AgentEnd.TheVariants as agent
use Rattle.bidder_agent.specs.declared.agents.Seen.{Seen}
use Rattle.house_run.specs.Markets.{IsMarketAt, market_bidders}
use Rattle.command_line.specs.Parts.{Bidding}
use Rattle.house_run.specs.Nets.{NetSeen}
use Rattle.house_io.specs.NetsShown.{NetView}
use Rattle.house_run.specs.Seen.{ShelfSeen}
use Rattle.house_run.specs.declared.ends.Ended.{Ended}
use Rattle.house_run.specs.declared.ends.Ended.TheVariants as how

-- the part of a bidder of a market: at prices he demands all bundles of the greatest surplus
abbrev pub part_in : Terms → List (List ℕ) → Bidding → Part
part_in terms valuations b = record {
  goods = length terms.goods;
  bidders = terms.bidders;
  who = b.bidder;
  token = b.token;
  demands = λ prices. concat (demand terms.goods (market_bidders terms valuations b.bidder) prices);
  looks = b.looks;
}

-- the part that a bidder's agent plays in the market of two files
pub record PlaysIn (shelf : ShelfSeen) (auction values : List ℕ) (b : Bidding) (p : Part) : Type 0 where
  pub terms : Terms
  pub valuations : List (List ℕ)
  pub market : IsMarketAt shelf auction values terms valuations
  pub bidder_is : IsRange 1 terms.bidders b.bidder
  pub part_is : p ≡ part_in terms valuations b

-- The address was dialled. The link was the first of those to come, or one without bytes, where none was; and it is the last of those that were
-- hung up.
abbrev pub IsDialled : List ℕ → Option LinkBytes → Option LinkBytes → NetView → NetView → Type 0
IsDialled address before after b a =
    ((b.links ≡ before ∷ a.links) ⊎ ((b.links ≡ []) × (a.links ≡ []) × IsEmptyLink before))
    × (a ≡ record b { links = a.links; hung_up = b.hung_up ++ after ∷ []; dialled = b.dialled ++ address ∷ [] })

-- The address was dialled, the part was played over the link with this answer, and the link was hung up. It is seen as it came and as it was
-- hung up.
pub record TalksOn (net : NetSeen) (address : List ℕ) (p : Part) (answer : Result Seen AgentEnd) : Type 0 where
  pub before : Option LinkBytes
  pub after : Option LinkBytes
  pub agrees : Agrees p before after answer
  pub lists : IfTold net.told_before net.told (IsDialled address before after)

-- no link came: nothing was dialled, or the net refused this address
abbrev pub IsUndialled : NetSeen → List ℕ → Type 0
IsUndialled net address =
    IfTold net.told_before net.told (λ before after. (after ≡ before) ⊎ (after ≡ record before { dialled = before.dialled ++ address ∷ [] }))

-- how a command ends whose agent stopped
abbrev pub ended_by : AgentEnd → Ended
ended_by (agent.Refused code detail value) = how.Refused code detail value
ended_by agent.BadReply = how.BadReply
ended_by agent.LinkFault = how.NetFault
ended_by (agent.LooksSpent clock) = how.LooksSpent clock
ended_by agent.NoMemory = how.NoMemory

-- what a talk that gave no looks leaves of the net, where the command ends so
abbrev pub LeavesTalk : NetSeen → List ℕ → Part → Ended → Type 0
LeavesTalk net address p end = IsUndialled net address ⊎ ((stop : AgentEnd) × TalksOn net address p (Err stop) × (end ≡ ended_by stop))
