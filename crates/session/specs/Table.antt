-- The table of a session: what a frame is answered, or what it asks of the hall. A session has no bidder at first.
-- The codes of refusals, and the details of a refused demand, are report_wire's `refusals`.
use Rattle.std.specs.Prelude.{ℕ, ◌+◌, ◌-◌, ◌==◌, nat_lt, nat_le, Bool, true, false, ◌&&◌, List, [], length, Option, Some, None, Result, Ok, Err, if◌then◌else◌, slice_index_or}
use Rattle.std.specs.Str.{bytes_eq}
use Rattle.sha2.specs.Sha256.{sha256}
use Rattle.demand_set.specs.Reading.{demand_of, bundles_of}
use Rattle.demand_set.specs.declared.reading.DemandFault.{DemandFault}
use Rattle.demand_set.specs.declared.reading.DemandFault.TheVariants as fault
use Rattle.clock.specs.declared.judging.Judgement.{Judgement}
use Rattle.clock.specs.declared.judging.Judgement.TheVariants.{Take, Again, NotMember, Early, Conflict, Over, NoRound}
use Rattle.clock.specs.declared.judging.Offered.{Offered}
use Rattle.clock.specs.declared.judging.Offered.TheVariants as offered
use Rattle.auction_file.specs.declared.listing.Auction.{Auction}
use Rattle.report_wire.specs.declared.messages.ToHouse.{ToHouse}
use Rattle.report_wire.specs.declared.messages.ToHouse.TheVariants as house
use Rattle.report_wire.specs.declared.messages.ToBidder.{ToBidder}
use Rattle.report_wire.specs.declared.messages.ToBidder.TheVariants as bidder
use Rattle.report_wire.specs.declared.refusals.TheConstants.{NO_HELLO, BAD_TOKEN, UNKNOWN_CLOCK, NOT_MEMBER, BAD_DEMAND, EARLY, CONFLICT, OVER, FULL, DISK_FAULT, NO_MEMORY, NO_ROUND, SECOND_HELLO, TOO_LONG, UNKNOWN_KIND, BAD_PAYLOAD, EMPTY, NOT_ASCENDING, OUTSIDE_SUPPLY, WRONG_GOODS}
use Rattle.report_wire.specs.declared.frames.WireKind.{WireKind}
use Rattle.report_wire.specs.declared.frames.WireKind.TheVariants.{TooLong, UnknownKind, BadPayload}
use Rattle.session.specs.declared.halls.Asked.{Asked}
use Rattle.session.specs.declared.halls.Asked.TheVariants as asked
use Rattle.session.specs.declared.halls.Question.TheVariants as question
use Rattle.session.specs.declared.table.Line.{Line}
use Rattle.session.specs.declared.table.Line.TheVariants.{Says, Asks}

abbrev pub refusal : ℕ → ℕ → ToBidder
refusal code value = bidder.Refused code 0 value

-- whether it is a bidder's number and that bidder's token
abbrev pub knows : Auction → ℕ → List ℕ → Bool
knows auction who token = (nat_le 1 who && nat_le who auction.terms.bidders) && bytes_eq (sha256 token) (slice_index_or auction.token_digests (who - 1) [])

-- the refusal of a demand
abbrev pub demand_refusal : DemandFault → ToBidder
demand_refusal fault.Empty = bidder.Refused BAD_DEMAND EMPTY 0
demand_refusal (fault.NotAscending place) = bidder.Refused BAD_DEMAND NOT_ASCENDING place
demand_refusal (fault.OutsideSupply place) = bidder.Refused BAD_DEMAND OUTSIDE_SUPPLY place
demand_refusal (fault.WrongGoods goods) = bidder.Refused BAD_DEMAND WRONG_GOODS goods
demand_refusal fault.NoMemory = refusal NO_MEMORY 0

-- a bidder asks at a clock of which it is a member
abbrev pub at_clock : ℕ → ℕ → ℕ → Line → Line
at_clock bidders who clock line =
    if nat_lt bidders clock then Says (refusal UNKNOWN_CLOCK clock) true
    else if clock == who then Says (refusal NOT_MEMBER clock) true
    else line

abbrev pub report_line : ℕ → ℕ → ℕ → Result (List (List ℕ)) DemandFault → Line
report_line who clock round (Ok demand) = Asks (question.Offer clock who round demand)
report_line who clock round (Err fault) = Says (demand_refusal fault) true

-- the line of the table for a frame, where the session has this bidder
abbrev pub line_of : Auction → Option ℕ → ToHouse → Line
line_of auction who house.Quit = Says bidder.Bye false
line_of auction (Some b) (house.Hello claimed token) = Says (refusal SECOND_HELLO 0) true
line_of auction None (house.Hello claimed token) =
    if knows auction claimed token then Says (bidder.Welcome (length auction.terms.goods) (auction.terms.bidders + 1)) true else Says (refusal BAD_TOKEN claimed) false
line_of auction None (house.Look clock) = Says (refusal NO_HELLO 0) true
line_of auction (Some b) (house.Look clock) = at_clock auction.terms.bidders b clock (Asks (question.Look clock))
line_of auction None (house.Report clock round demand) = Says (refusal NO_HELLO 0) true
line_of auction (Some b) (house.Report clock round demand) =
    at_clock auction.terms.bidders b clock (report_line b clock round (demand_of auction.terms.goods demand.goods (bundles_of demand.goods demand.quantities)))

-- whether the session goes on after a frame: this depends on the frame, the bidder and the digests alone
abbrev pub goes_on : Auction → Option ℕ → ToHouse → Bool
goes_on auction who house.Quit = false
goes_on auction (Some b) (house.Hello claimed token) = true
goes_on auction None (house.Hello claimed token) = knows auction claimed token
goes_on auction who (house.Look clock) = true
goes_on auction who (house.Report clock round demand) = true

-- the session's bidder after a frame
abbrev pub bidder_after : Auction → Option ℕ → ToHouse → Option ℕ
bidder_after auction None (house.Hello claimed token) = if knows auction claimed token then Some claimed else None
bidder_after auction (Some b) (house.Hello claimed token) = Some b
bidder_after auction who house.Quit = who
bidder_after auction who (house.Look clock) = who
bidder_after auction who (house.Report clock round demand) = who

-- the session's bidder after a frame, where a first hello is welcome
abbrev pub greeted : Option ℕ → ToHouse → Option ℕ
greeted None (house.Hello claimed token) = Some claimed
greeted (Some b) (house.Hello claimed token) = Some b
greeted who house.Quit = who
greeted who (house.Look clock) = who
greeted who (house.Report clock round demand) = who

-- the reply where the hall refused
abbrev pub judged_reply : ℕ → Judgement → ToBidder
judged_reply clock (Early round) = refusal EARLY round
judged_reply clock (Conflict round) = refusal CONFLICT round
judged_reply clock (Over round) = refusal OVER round
judged_reply clock NoRound = refusal NO_ROUND 0
judged_reply clock NotMember = refusal NOT_MEMBER clock
judged_reply clock Take = bidder.Taken clock 0
judged_reply clock Again = bidder.Again clock 0

abbrev pub offered_reply : ℕ → ℕ → Offered → ToBidder
offered_reply clock round offered.Taken = bidder.Taken clock round
offered_reply clock round offered.Again = bidder.Again clock round
offered_reply clock round (offered.Refused judgement) = judged_reply clock judgement
offered_reply clock round (offered.Full needed) = refusal FULL needed
offered_reply clock round offered.DiskFault = refusal DISK_FAULT 0
offered_reply clock round offered.NoMemory = refusal NO_MEMORY 0

-- the reply where the hall was asked
abbrev pub reply_of : Asked → ToBidder
reply_of (asked.Look clock look) = bidder.Price clock look.round look.phase look.prices
reply_of (asked.Offer clock who round demand offered) = offered_reply clock round offered

-- the reply to a fault of the stream
abbrev pub wire_reply : WireKind → ToBidder
wire_reply (TooLong length) = refusal TOO_LONG length
wire_reply (UnknownKind kind) = refusal UNKNOWN_KIND kind
wire_reply (BadPayload kind length) = refusal BAD_PAYLOAD kind
