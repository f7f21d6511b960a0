-- The messages of both directions, and how each is spelled.
use Rattle.std.specs.Prelude.{ℕ, ◌==◌, nat_le, Bool, true, ◌&&◌, ◌||◌, List, [], ◌∷◌, length, if◌then◌else◌}
use Rattle.byte_numbers.specs.Spelling.{big_bytes}
use Rattle.report_wire.specs.Frames.{Direction, Sent}
use Rattle.report_wire.specs.Payloads.{report_payload, price_payload, is_report_payload, is_price_payload, is_refused_payload, is_between}
use Rattle.report_wire.specs.declared.kinds.TheConstants.{HELLO, LOOK, REPORT, QUIT, WELCOME, PRICE, TAKEN, AGAIN, REFUSED, BYE}
use Rattle.report_wire.specs.declared.messages.ToHouse.{ToHouse}
use Rattle.report_wire.specs.declared.messages.ToHouse.TheVariants as house
use Rattle.report_wire.specs.declared.messages.ToBidder.{ToBidder}
use Rattle.report_wire.specs.declared.messages.ToBidder.TheVariants as bidder

-- the kind of a message to the house
abbrev pub house_kind : ToHouse → ℕ
house_kind (house.Hello who token) = HELLO
house_kind (house.Look clock) = LOOK
house_kind (house.Report clock round demand) = REPORT
house_kind house.Quit = QUIT

-- the payload of a message to the house
abbrev pub house_payload : ToHouse → List ℕ
house_payload (house.Hello who token) = who ∷ token
house_payload (house.Look clock) = clock ∷ []
house_payload (house.Report clock round demand) = report_payload clock round demand.goods demand.quantities
house_payload house.Quit = []

-- whether a kind to the house allows a payload of this length
abbrev pub house_allows : ℕ → ℕ → Bool
house_allows kind n = ((kind == HELLO && is_between 2 65 n) || (kind == LOOK && n == 1)) || (kind == REPORT || (kind == QUIT && n == 0))

-- whether bytes are a payload of a kind to the house
abbrev pub house_formed : ℕ → List ℕ → Bool
house_formed kind payload = house_allows kind (length payload) && (nat_le kind LOOK || (kind == QUIT || is_report_payload payload))

-- frames to the house
abbrev pub to_house : Direction
to_house = record { is_kind = is_between HELLO QUIT; allows = house_allows; is_payload = house_formed }

-- the kind of a message to a bidder
abbrev pub bidder_kind : ToBidder → ℕ
bidder_kind (bidder.Welcome goods clocks) = WELCOME
bidder_kind (bidder.Price clock round phase prices) = PRICE
bidder_kind (bidder.Taken clock round) = TAKEN
bidder_kind (bidder.Again clock round) = AGAIN
bidder_kind (bidder.Refused code detail value) = REFUSED
bidder_kind bidder.Bye = BYE

-- the payload of a message to a bidder
abbrev pub bidder_payload : ToBidder → List ℕ
bidder_payload (bidder.Welcome goods clocks) = goods ∷ clocks ∷ []
bidder_payload (bidder.Price clock round phase prices) = price_payload clock round phase prices
bidder_payload (bidder.Taken clock round) = clock ∷ big_bytes 4 round
bidder_payload (bidder.Again clock round) = clock ∷ big_bytes 4 round
bidder_payload (bidder.Refused code detail value) = code ∷ detail ∷ big_bytes 4 value
bidder_payload bidder.Bye = []

-- whether a kind to a bidder allows a payload of this length
abbrev pub bidder_allows : ℕ → ℕ → Bool
bidder_allows kind n =
    ((kind == WELCOME && n == 2) || kind == PRICE)
    || (((kind == TAKEN || kind == AGAIN) && n == 5) || ((kind == REFUSED && n == 6) || (kind == BYE && n == 0)))

-- whether bytes are a payload of a kind to a bidder
abbrev pub bidder_formed : ℕ → List ℕ → Bool
bidder_formed kind payload =
    bidder_allows kind (length payload)
    && (if kind == PRICE then is_price_payload payload else if kind == REFUSED then is_refused_payload payload else true)

-- frames to a bidder
abbrev pub to_bidder : Direction
to_bidder = record { is_kind = is_between WELCOME BYE; allows = bidder_allows; is_payload = bidder_formed }

-- what a message to the house says in its frame
abbrev pub house_sent : ToHouse → Sent
house_sent m = record { kind = house_kind m; payload = house_payload m }

-- what a message to a bidder says in its frame
abbrev pub bidder_sent : ToBidder → Sent
bidder_sent m = record { kind = bidder_kind m; payload = bidder_payload m }
