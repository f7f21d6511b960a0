-- Payloads. A report's is a first byte (the bidder in an entry, the clock in a frame), the round in four bytes, the number of goods in
-- one, the number of bundles in two, and then the quantities of the bundles, one after another, in two each. A price's is the
-- clock, the round in four bytes, the phase, the good at which the clock is halted, the number of goods, and the prices in four
-- bytes each.
use Rattle.std.specs.Prelude.{ℕ, ◌+◌, ◌*◌, ◌/◌, ◌==◌, nat_le, nat_lt, Bool, ◌&&◌, ◌||◌, List, ◌∷◌, ◌++◌, length, take, drop, slice_index, if◌then◌else◌}
use Rattle.byte_numbers.specs.Spelling.{big_bytes, big_number}
use Rattle.std.specs.List.{flat_map}
use Rattle.lot_base.specs.declared.phases.Phase.{Phase}
use Rattle.lot_base.specs.declared.phases.Phase.TheVariants.{Running, Ended, Halted}
use Rattle.report_wire.specs.declared.refusals.TheConstants.{NO_HELLO, BAD_DEMAND, BAD_PAYLOAD, EMPTY, WRONG_GOODS}

-- the payload of a report
abbrev pub report_payload : ℕ → ℕ → ℕ → List ℕ → List ℕ
report_payload first round goods quantities =
    first ∷ big_bytes 4 round ++ goods ∷ big_bytes 2 (length quantities / goods) ++ flat_map (big_bytes 2) quantities

-- how many goods a report's payload names
abbrev pub goods_in : List ℕ → ℕ
goods_in payload = slice_index payload 5

-- how many bundles it names
abbrev pub bundles_in : List ℕ → ℕ
bundles_in payload = big_number 2 (take 2 (drop 6 payload))

-- whether a number is one of low to high
abbrev pub is_between : ℕ → ℕ → ℕ → Bool
is_between low high n = nat_le low n && nat_le n high

-- whether bytes are a report's payload
abbrev pub is_report_payload : List ℕ → Bool
is_report_payload payload = (nat_le 8 (length payload) && is_between 1 6 (goods_in payload)) && (length payload == 8 + 2 * (goods_in payload * bundles_in payload))

-- the number of a phase
abbrev pub phase_number : Phase → ℕ
phase_number Running = 0
phase_number Ended = 1
phase_number (Halted good) = 2

-- the good at which a clock is halted, or else 0
abbrev pub halted_good : Phase → ℕ
halted_good Running = 0
halted_good Ended = 0
halted_good (Halted good) = good

-- the payload of a price
abbrev pub price_payload : ℕ → ℕ → Phase → List ℕ → List ℕ
price_payload clock round phase prices =
    clock ∷ big_bytes 4 round ++ phase_number phase ∷ halted_good phase ∷ length prices ∷ flat_map (big_bytes 4) prices

-- a phase in two numbers: only a halted clock has a good, one of the goods
abbrev pub is_phase : ℕ → ℕ → ℕ → Bool
is_phase phase good goods = (nat_lt phase 2 && good == 0) || (phase == 2 && nat_lt good goods)

-- whether bytes are a price's payload
abbrev pub is_price_payload : List ℕ → Bool
is_price_payload payload =
    (nat_le 8 (length payload) && is_between 1 6 (slice_index payload 7))
    && ((length payload == 8 + 4 * slice_index payload 7) && is_phase (slice_index payload 5) (slice_index payload 6) (slice_index payload 7))

-- whether these are the code of a refusal and its detail: only a refused demand has one, or else it is 0
abbrev pub is_refusal : ℕ → ℕ → Bool
is_refusal code detail = is_between NO_HELLO BAD_PAYLOAD code && (if code == BAD_DEMAND then is_between EMPTY WRONG_GOODS detail else detail == 0)

-- whether bytes are a refusal's payload
abbrev pub is_refused_payload : List ℕ → Bool
is_refused_payload payload = (length payload == 6) && is_refusal (slice_index payload 0) (slice_index payload 1)
