-- The talk of an agent: the frames that it sent, each with the reply that it read, THE LAST ONE FIRST. Which frame comes next is read
-- from the whole talk so far. The agent says hello; then it goes round the clocks other than the bidder's own in ascending order,
-- again and again, and leaves out those that it has seen ended or halted. At each it looks, and where the clock runs in a round in
-- which the talk has no report yet, it reports the demand at the prices shown. When no clock is left it quits.
use Rattle.std.specs.Prelude.{◌≡◌, ◌≤◌, ◌<◌, ℕ, zero, suc, ◌+◌, ◌-◌, ◌==◌, nat_lt, Bool, true, false, not, ◌&&◌, ◌||◌, List, [], ◌∷◌, ◌++◌, length, Option, Some, None, Result, Ok, Err, ◌⊎◌, if◌then◌else◌}
use Rattle.house_io.specs.Told.{IfTold}
use Rattle.house_io.specs.Faults.{Rose}
use Rattle.house_io.specs.Links.{LinkBytes}
use Rattle.lot_base.specs.declared.phases.Phase.{Phase}
use Rattle.lot_base.specs.declared.phases.Phase.TheVariants.{Running, Ended, Halted}
use Rattle.clock.specs.declared.clocks.Look.{Look}
use Rattle.auction_file.specs.declared.listing.Auction.{Auction}
use Rattle.report_wire.specs.Frames.{IsSent, IsPartial, IsFault, spelled}
use Rattle.report_wire.specs.Messages.{to_bidder, house_sent, bidder_sent}
use Rattle.report_wire.specs.declared.frames.WireKind.{WireKind}
use Rattle.report_wire.specs.declared.messages.ToHouse.{ToHouse}
use Rattle.report_wire.specs.declared.messages.ToHouse.TheVariants as house
use Rattle.report_wire.specs.declared.messages.ToBidder.{ToBidder}
use Rattle.report_wire.specs.declared.messages.ToBidder.TheVariants as bidder
use Rattle.bidder_agent.specs.declared.agents.SeenLook.{SeenLook}
use Rattle.bidder_agent.specs.declared.agents.Seen.{Seen}
use Rattle.bidder_agent.specs.declared.agents.AgentEnd.{AgentEnd}
use Rattle.bidder_agent.specs.declared.agents.AgentEnd.TheVariants as ends
use Rattle.bidder_agent.specs.declared.hearing.Heard.{Heard}
use Rattle.bidder_agent.specs.declared.hearing.Heard.TheVariants as heard

-- the part that an agent plays: how many goods and bidders there are, whose part it is, his token, his demand at prices, and how many
-- equal looks it bears
pub record Part : Type 0 where
  pub goods : ℕ
  pub bidders : ℕ
  pub who : ℕ
  pub token : List ℕ
  pub demands : List ℕ → List ℕ
  pub looks : ℕ

abbrev pub part : Auction → ℕ → List ℕ → (List ℕ → List ℕ) → ℕ → Part
part auction who token demands looks =
    record { goods = length auction.terms.goods; bidders = auction.terms.bidders; who = who; token = token; demands = demands; looks = looks }

-- a frame that was sent, and the reply that was read
pub record Exchange : Type 0 where
  pub frame : ToHouse
  pub reply : ToBidder

abbrev pub is_running : Phase → Bool
is_running Running = true
is_running Ended = false
is_running (Halted good) = false

-- a reply with a look at this clock, before others
abbrev pub look_of : ℕ → ToBidder → List Look → List Look
look_of clock (bidder.Price c round phase prices) ls = if c == clock then record { round = round; phase = phase; prices = prices } ∷ ls else ls
look_of clock (bidder.Welcome goods clocks) ls = ls
look_of clock (bidder.Taken c round) ls = ls
look_of clock (bidder.Again c round) ls = ls
look_of clock (bidder.Refused code detail value) ls = ls
look_of clock bidder.Bye ls = ls

-- the looks at a clock, the last one first
abbrev pub looks_of : ℕ → List Exchange → List Look
looks_of clock [] = []
looks_of clock (e ∷ es) = look_of clock e.reply (looks_of clock es)

-- one of the looks shows the clock ended or halted
abbrev pub is_closed : List Look → Bool
is_closed [] = false
is_closed (l ∷ ls) = not (is_running l.phase) || is_closed ls

abbrev pub last_round : List Look → Option ℕ
last_round [] = None
last_round (l ∷ ls) = Some l.round

-- how many of the last looks, in a row, showed the same running round as the look before
abbrev pub repeats : List Look → ℕ
repeats [] = 0
repeats (l ∷ []) = 0
repeats (l ∷ m ∷ ls) = if (is_running l.phase && is_running m.phase) && (l.round == m.round) then 1 + repeats (m ∷ ls) else 0

-- the looks of clocks that have ended or are halted, in the order in which they were read
abbrev pub seen_by : ToBidder → List SeenLook
seen_by (bidder.Price c round phase prices) = if is_running phase then [] else record { clock = c; look = record { round = round; phase = phase; prices = prices } } ∷ []
seen_by (bidder.Welcome goods clocks) = []
seen_by (bidder.Taken c round) = []
seen_by (bidder.Again c round) = []
seen_by (bidder.Refused code detail value) = []
seen_by bidder.Bye = []

abbrev pub seen_in : List Exchange → List SeenLook
seen_in [] = []
seen_in (e ∷ es) = seen_in es ++ seen_by e.reply

-- the agent still goes to this clock
abbrev pub is_open : ℕ → List Exchange → ℕ → Bool
is_open who talk clock = not (clock == who) && not (is_closed (looks_of clock talk))

-- the first open clock of so many from one on
abbrev pub first_open : (ℕ → Bool) → ℕ → ℕ → Option ℕ
first_open goes clock zero = None
first_open goes clock (suc n) = if goes clock then Some clock else first_open goes (clock + 1) n

abbrev pub visit : Option ℕ → ToHouse
visit (Some clock) = house.Look clock
visit None = house.Quit

abbrev pub or_else : Option ℕ → Option ℕ → Option ℕ
or_else (Some clock) other = Some clock
or_else None other = other

-- the next open clock from one on, and round to the first
abbrev pub next_clock : Part → List Exchange → ℕ → Option ℕ
next_clock p talk clock =
    or_else (first_open (is_open p.who talk) clock (p.bidders + 1 - clock)) (first_open (is_open p.who talk) 0 (p.bidders + 1))

abbrev pub next_from : Part → List Exchange → ℕ → ToHouse
next_from p talk clock = visit (next_clock p talk clock)

abbrev pub is_report_at : ℕ → ℕ → ToHouse → Bool
is_report_at clock round (house.Report c r demand) = (c == clock) && (r == round)
is_report_at clock round (house.Hello claimed token) = false
is_report_at clock round (house.Look c) = false
is_report_at clock round house.Quit = false

abbrev pub has_reported : ℕ → ℕ → List Exchange → Bool
has_reported clock round [] = false
has_reported clock round (e ∷ es) = is_report_at clock round e.frame || has_reported clock round es

-- a report of the demand at prices
abbrev pub report_at : (List ℕ → List ℕ) → ℕ → ℕ → List ℕ → ToHouse
report_at demands clock round prices = house.Report clock round (record { goods = length prices; quantities = demands prices })

-- after a look at a clock: a report, or on to the next clock
abbrev pub behind_look : Part → List Exchange → ℕ → ToBidder → ToHouse
behind_look p talk clock (bidder.Price c round phase prices) =
    if is_running phase && not (has_reported clock round talk) then report_at p.demands clock round prices else next_from p talk (clock + 1)
behind_look p talk clock (bidder.Welcome goods clocks) = house.Quit
behind_look p talk clock (bidder.Taken c round) = house.Quit
behind_look p talk clock (bidder.Again c round) = house.Quit
behind_look p talk clock (bidder.Refused code detail value) = house.Quit
behind_look p talk clock bidder.Bye = house.Quit

-- the frame after a talk whose last exchange is this; none after a quit
abbrev pub behind : Part → List Exchange → ToHouse → ToBidder → Option ToHouse
behind p talk (house.Hello claimed token) reply = Some (next_from p talk 0)
behind p talk (house.Look clock) reply = Some (behind_look p talk clock reply)
behind p talk (house.Report clock round demand) reply = Some (next_from p talk (clock + 1))
behind p talk house.Quit reply = None

-- the frame that comes next; the first is a hello
abbrev pub next_of : Part → List Exchange → Option ToHouse
next_of p [] = Some (house.Hello p.who p.token)
next_of p (e ∷ es) = behind p (e ∷ es) e.frame e.reply

-- the round of the price before, of a clock that a frame looks at
abbrev pub last_of : List Exchange → ToHouse → Option ℕ
last_of talk (house.Look clock) = last_round (looks_of clock talk)
last_of talk (house.Hello claimed token) = None
last_of talk (house.Report clock round demand) = None
last_of talk house.Quit = None

abbrev pub is_earlier : ℕ → Option ℕ → Bool
is_earlier round None = false
is_earlier round (Some last) = nat_lt round last

-- a reply, other than a refusal, that answers a frame, where the price before had this round
abbrev pub answers_hello : ℕ → ℕ → ToBidder → Bool
answers_hello goods bidders (bidder.Welcome g clocks) = (g == goods) && (clocks == bidders + 1)
answers_hello goods bidders (bidder.Price c round phase prices) = false
answers_hello goods bidders (bidder.Taken c round) = false
answers_hello goods bidders (bidder.Again c round) = false
answers_hello goods bidders (bidder.Refused code detail value) = false
answers_hello goods bidders bidder.Bye = false

abbrev pub answers_look : ℕ → Option ℕ → ℕ → ToBidder → Bool
answers_look goods last clock (bidder.Price c round phase prices) = (c == clock) && ((length prices == goods) && not (is_earlier round last))
answers_look goods last clock (bidder.Welcome g clocks) = false
answers_look goods last clock (bidder.Taken c round) = false
answers_look goods last clock (bidder.Again c round) = false
answers_look goods last clock (bidder.Refused code detail value) = false
answers_look goods last clock bidder.Bye = false

abbrev pub answers_report : ℕ → ℕ → ToBidder → Bool
answers_report clock round (bidder.Taken c r) = (c == clock) && (r == round)
answers_report clock round (bidder.Again c r) = (c == clock) && (r == round)
answers_report clock round (bidder.Welcome g clocks) = false
answers_report clock round (bidder.Price c r phase prices) = false
answers_report clock round (bidder.Refused code detail value) = false
answers_report clock round bidder.Bye = false

abbrev pub answers_quit : ToBidder → Bool
answers_quit bidder.Bye = true
answers_quit (bidder.Welcome g clocks) = false
answers_quit (bidder.Price c r phase prices) = false
answers_quit (bidder.Taken c r) = false
answers_quit (bidder.Again c r) = false
answers_quit (bidder.Refused code detail value) = false

abbrev pub answers : ℕ → ℕ → Option ℕ → ToHouse → ToBidder → Bool
answers goods bidders last (house.Hello claimed token) reply = answers_hello goods bidders reply
answers goods bidders last (house.Look clock) reply = answers_look goods last clock reply
answers goods bidders last (house.Report clock round demand) reply = answers_report clock round reply
answers goods bidders last house.Quit reply = answers_quit reply

abbrev pub is_refused : ToBidder → Bool
is_refused (bidder.Refused code detail value) = true
is_refused (bidder.Welcome g clocks) = false
is_refused (bidder.Price c r phase prices) = false
is_refused (bidder.Taken c r) = false
is_refused (bidder.Again c r) = false
is_refused bidder.Bye = false

-- how many of the last looks at the clock of a talk's last exchange, in a row, were equal to the one before
abbrev pub repeats_by : ToBidder → List Exchange → ℕ
repeats_by (bidder.Price c round phase prices) talk = repeats (looks_of c talk)
repeats_by (bidder.Welcome g clocks) talk = 0
repeats_by (bidder.Taken c r) talk = 0
repeats_by (bidder.Again c r) talk = 0
repeats_by (bidder.Refused code detail value) talk = 0
repeats_by bidder.Bye talk = 0

abbrev pub repeats_last : List Exchange → ℕ
repeats_last [] = 0
repeats_last (e ∷ es) = repeats_by e.reply (e ∷ es)

-- the frame comes next, and the looks are not spent
pub record IsNext (p : Part) (talk : List Exchange) (frame : ToHouse) : Type 0 where
  pub next : next_of p talk ≡ Some frame
  pub bears : repeats_last talk < p.looks

-- each frame is the one that comes next after the exchanges before it, and each reply answers its frame
abbrev pub IsTalk : Part → List Exchange → Type 0
IsTalk p [] = Unit {0}
IsTalk p (e ∷ before) = IsNext p before e.frame × (answers p.goods p.bidders (last_of before e.frame) e.frame e.reply ≡ true) × IsTalk p before

-- the looks at the clock are spent with the last exchange
abbrev pub IsSpentAt : ℕ → ℕ → List Exchange → Type 0
IsSpentAt clock looks [] = ⊥
IsSpentAt clock looks (e ∷ es) = (e.frame ≡ house.Look clock) × (repeats (looks_of clock (e ∷ es)) ≡ looks)

abbrev pub sent_bytes : List Exchange → List ℕ
sent_bytes [] = []
sent_bytes (e ∷ es) = sent_bytes es ++ spelled (house_sent e.frame)

abbrev pub read_bytes : List Exchange → List ℕ
read_bytes [] = []
read_bytes (e ∷ es) = read_bytes es ++ spelled (bidder_sent e.reply)

abbrev pub AreReplies : List Exchange → Type 0
AreReplies [] = Unit {0}
AreReplies (e ∷ es) = IsSent to_bidder (bidder_sent e.reply) × AreReplies es

-- these bytes were taken, and these were written
pub record Moves (taken given : List ℕ) (before after : LinkBytes) : Type 0 where
  pub left : before.left ≡ taken ++ after.left
  pub written : after.written ≡ before.written ++ given

-- the frames of the talk were written, and its replies were taken
abbrev pub Carries : List Exchange → LinkBytes → LinkBytes → Type 0
Carries talk before after = AreReplies talk × Moves (read_bytes talk) (sent_bytes talk) before after

-- A frame was sent, and the next frame was taken and no byte more; or what is no frame, or less than one before the end. Where the link
-- failed, a front of the frame was sent and nothing was taken, or it was sent and less than a frame was taken. Where memory ran out,
-- nothing was sent and nothing was taken, or the frame was sent and some bytes were taken.
abbrev pub Converses : ToHouse → Heard → LinkBytes → LinkBytes → Type 0
Converses frame (heard.Reply reply) before after = IsSent to_bidder (bidder_sent reply) × Moves (spelled (bidder_sent reply)) (spelled (house_sent frame)) before after
Converses frame heard.Bad before after =
    (tail : List ℕ) × Moves tail (spelled (house_sent frame)) before after × ((IsPartial to_bidder tail × (after.left ≡ [])) ⊎ ((kind : WireKind) × IsFault to_bidder kind tail))
Converses frame heard.LinkFault before after =
    ((given : List ℕ) × (more : List ℕ) × (spelled (house_sent frame) ≡ given ++ more) × Moves [] given before after)
    ⊎ ((tail : List ℕ) × IsPartial to_bidder tail × Moves tail (spelled (house_sent frame)) before after)
Converses frame heard.NoMemory before after = Moves [] [] before after ⊎ ((tail : List ℕ) × Moves tail (spelled (house_sent frame)) before after)

-- and before it a talk
abbrev pub Behind : List Exchange → (LinkBytes → LinkBytes → Type 0) → LinkBytes → LinkBytes → Type 0
Behind talk R before after = (between : LinkBytes) × Carries talk before between × R between after

-- why the talk ends with this frame
abbrev pub EndsBy : ℕ → ℕ → Option ℕ → ToHouse → AgentEnd → ((LinkBytes → LinkBytes → Type 0) → Type 0) → Type 0
EndsBy goods bidders last frame (ends.Refused code detail value) says = says (Converses frame (heard.Reply (bidder.Refused code detail value)))
EndsBy goods bidders last frame ends.BadReply says =
    ((reply : ToBidder) × (answers goods bidders last frame reply ≡ false) × (is_refused reply ≡ false) × says (Converses frame (heard.Reply reply)))
    ⊎ says (Converses frame heard.Bad)
EndsBy goods bidders last frame ends.LinkFault says = says (Converses frame heard.LinkFault)
EndsBy goods bidders last frame (ends.LooksSpent clock) says = ⊥
EndsBy goods bidders last frame ends.NoMemory says = says (Converses frame heard.NoMemory)

-- one exchange over a link
abbrev pub IsExchange : ℕ → ℕ → Option ℕ → ToHouse → Option LinkBytes → Option LinkBytes → Result ToBidder AgentEnd → Type 0
IsExchange goods bidders last frame told told_after (Ok reply) =
    (answers goods bidders last frame reply ≡ true) × IfTold told told_after (Converses frame (heard.Reply reply))
IsExchange goods bidders last frame told told_after (Err end) = EndsBy goods bidders last frame end (λ R. IfTold told told_after R)

-- the talk ends with a frame that follows it, or with looks that are spent
abbrev pub EndsTalk : Part → List Exchange → Option LinkBytes → Option LinkBytes → AgentEnd → Type 0
EndsTalk p talk told told_after (ends.LooksSpent clock) = IsSpentAt clock p.looks talk × IfTold told told_after (Carries talk)
EndsTalk p talk told told_after end = (frame : ToHouse) × IsNext p talk frame × EndsBy p.goods p.bidders (last_of talk frame) frame end (λ R. IfTold told told_after (Behind talk R))

-- how the answer follows from a talk
abbrev pub Answers : Part → List Exchange → Option LinkBytes → Option LinkBytes → Result Seen AgentEnd → Type 0
Answers p talk told told_after (Ok seen) = (next_of p talk ≡ None) × (seen.looks.items ≡ seen_in talk) × IfTold told told_after (Carries talk)
Answers p talk told told_after (Err end) = EndsTalk p talk told told_after end

-- The whole.
pub record Agrees (p : Part) (told told_after : Option LinkBytes) (answer : Result Seen AgentEnd) : Type 0 where
  pub talk : List Exchange
  pub follows : IsTalk p talk
  pub ends : Answers p talk told told_after answer

abbrev pub HasCauseOf : {A : Type 0} → ℕ → ℕ → Result A AgentEnd → Type 0
HasCauseOf before now (Ok answer) = now ≡ before
HasCauseOf before now (Err ends.LinkFault) = Rose before now × (before ≤ now)
HasCauseOf before now (Err (ends.Refused code detail value)) = now ≡ before
HasCauseOf before now (Err ends.BadReply) = now ≡ before
HasCauseOf before now (Err (ends.LooksSpent clock)) = now ≡ before
HasCauseOf before now (Err ends.NoMemory) = now ≡ before
