-- An agent on its way.
use Rattle.std.specs.Prelude.{◌≡◌, ◌≢◌, ◌<◌, ℕ, ◌+◌, List, false, Option, Some, None, Result, Ok, Err}
use Rattle.house_io.specs.Told.{IfTold}
use Rattle.house_io.specs.Links.{LinkBytes}
use Rattle.clock.specs.declared.clocks.Look.{Look}
use Rattle.report_wire.specs.declared.messages.ToBidder.{ToBidder}
use Rattle.report_wire.specs.declared.messages.ToHouse.{ToHouse}
use Rattle.report_wire.specs.declared.messages.ToHouse.TheVariants as house
use Rattle.report_wire.specs.declared.messages.ToBidder.TheVariants as bidder
use Rattle.bidder_agent.specs.Talks.{Part, Exchange, IsTalk, IsNext, EndsTalk, Carries, IsExchange, next_of, next_from, seen_in, repeats_last}
use Rattle.bidder_agent.specs.Knowing.{Knows, KnowsAll}
use Rattle.bidder_agent.specs.declared.agents.SeenLook.{SeenLook}
use Rattle.bidder_agent.specs.declared.agents.AgentEnd.{AgentEnd}
use Rattle.bidder_agent.specs.declared.knowing.Known.{Known}

-- the look that a price shows
abbrev pub shown : ToBidder → Option Look
shown (bidder.Price c round phase prices) = Some (record { round = round; phase = phase; prices = prices })
shown (bidder.Welcome goods clocks) = None
shown (bidder.Taken c round) = None
shown (bidder.Again c round) = None
shown (bidder.Refused code detail value) = None
shown bidder.Bye = None

-- a look as the price that showed it
abbrev pub priced : ℕ → Result Look AgentEnd → Result ToBidder AgentEnd
priced clock (Ok look) = Ok (bidder.Price clock look.round look.phase look.prices)
priced clock (Err end) = Err end

-- a frame was answered
abbrev pub IsDone : ℕ → ℕ → Option ℕ → ToHouse → Option LinkBytes → Option LinkBytes → Result (Unit {0}) AgentEnd → Type 0
IsDone goods bidders last frame told told_after (Ok done) = (reply : ToBidder) × IsExchange goods bidders last frame told told_after (Ok reply)
IsDone goods bidders last frame told told_after (Err end) = IsExchange goods bidders last frame told told_after (Err end)

-- A talk so far, with what was seen in it.
pub record Stands (p : Part) (talk : List Exchange) (seen : List SeenLook) (told now : Option LinkBytes) : Type 0 where
  pub follows : IsTalk p talk
  pub carried : IfTold told now (Carries talk)
  pub seen_is : seen ≡ seen_in talk

-- and the agent goes on from this clock
pub record Goes (p : Part) (talk : List Exchange) (clock : ℕ) (seen : List SeenLook) (told now : Option LinkBytes) : Type 0 where
  pub stands : Stands p talk seen told now
  pub next : next_of p talk ≡ Some (next_from p talk clock)
  pub bears : repeats_last talk < p.looks

-- a visit that went well
pub record Visited (p : Part) (talk : List Exchange) (clock : ℕ) (seen : List SeenLook) (told now : Option LinkBytes) (k : Known) : Type 0 where
  pub later : List Exchange
  pub goes : Goes p later (clock + 1) seen told now
  pub knows : Knows p.looks clock later k
  pub others : (c : ℕ) (other : Known) → c ≢ clock → Knows p.looks c talk other → Knows p.looks c later other

-- an end
pub record Stopped (p : Part) (told now : Option LinkBytes) (end : AgentEnd) : Type 0 where
  pub talk : List Exchange
  pub follows : IsTalk p talk
  pub ends : EndsTalk p talk told now end

abbrev pub VisitsBy : Part → List Exchange → ℕ → List SeenLook → Option LinkBytes → Option LinkBytes → Result Known AgentEnd → Type 0
VisitsBy p talk clock seen told now (Ok k) = Visited p talk clock seen told now k
VisitsBy p talk clock seen told now (Err end) = Stopped p told now end

-- A visit of a clock, after any talk that leads to it.
abbrev pub Visits : Part → ℕ → Known → List SeenLook → Option LinkBytes → List SeenLook → Option LinkBytes → Result Known AgentEnd → Type 0
Visits p clock k seen now seen_after now_after result =
    (talk : List Exchange) (told : Option LinkBytes) → Stands p talk seen told now → IsNext p talk (house.Look clock) → Knows p.looks clock talk k → k.closed ≡ false
    → VisitsBy p talk clock seen_after told now_after result

-- An agent between two visits: it goes on from this clock, with what it keeps of the clocks.
pub record Underway (p : Part) (from : ℕ) (seen : List SeenLook) (known : List Known) (told now : Option LinkBytes) : Type 0 where
  pub talk : List Exchange
  pub goes : Goes p talk from seen told now
  pub knows : KnowsAll p.looks 0 talk known
