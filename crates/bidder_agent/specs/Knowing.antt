-- What the agent keeps of a clock, and what it says of the talk.
use Rattle.std.specs.Prelude.{◌≡◌, ◌<◌, ℕ, ◌+◌, ◌-◌, ◌*◌, ◌^◌, ◌==◌, Bool, true, false, not, ◌&&◌, List, [], ◌∷◌, Option, Some, None, if◌then◌else◌}
use Rattle.lot_base.specs.declared.phases.Phase.{Phase}
use Rattle.bidder_agent.specs.Talks.{Exchange, is_running, looks_of, is_closed, last_round, repeats, has_reported}
use Rattle.bidder_agent.specs.declared.knowing.Known.{Known}

-- the last round has this look's number
abbrev pub is_same : Option ℕ → ℕ → Bool
is_same None round = false
is_same (Some last) round = round == last

-- what is known after a look
abbrev pub known_behind : Known → ℕ → Phase → Known
known_behind k round phase = record {
  last = Some round;
  closed = not (is_running phase);
  reported = is_same k.last round && k.reported;
  repeats = if is_running phase && is_same k.last round then 1 + k.repeats else 0;
}

abbrev pub known_reported : Known → Known
known_reported k = record { last = k.last; closed = k.closed; reported = true; repeats = k.repeats }

abbrev pub unseen : Known
unseen = record { last = None; closed = false; reported = false; repeats = 0 }

abbrev pub ReportedBy : ℕ → List Exchange → Option ℕ → Bool → Type 0
ReportedBy clock talk None reported = (round : ℕ) → has_reported clock round talk ≡ false
ReportedBy clock talk (Some last) reported = (has_reported clock last talk ≡ reported) × ((round : ℕ) → last < round → has_reported clock round talk ≡ false)

pub record Knows (looks clock : ℕ) (talk : List Exchange) (k : Known) : Type 0 where
  pub closed : is_closed (looks_of clock talk) ≡ k.closed
  pub last : last_round (looks_of clock talk) ≡ k.last
  pub repeats : repeats (looks_of clock talk) ≡ k.repeats
  pub below : k.repeats < looks
  pub reported : ReportedBy clock talk k.last k.reported

-- of the clocks from one on
abbrev pub KnowsAll : ℕ → ℕ → List Exchange → List Known → Type 0
KnowsAll looks clock talk [] = Unit {0}
KnowsAll looks clock talk (k ∷ ks) = Knows looks clock talk k × KnowsAll looks (clock + 1) talk ks

-- the first clock that is open, of those from one on
abbrev pub open_in : ℕ → ℕ → List Known → Option ℕ
open_in who clock [] = None
open_in who clock (k ∷ ks) = if not (clock == who) && not k.closed then Some clock else open_in who (clock + 1) ks

-- how many visits there can be yet: the rounds that are left, and in each the equal looks
abbrev pub rounds_left : Option ℕ → ℕ
rounds_left None = (2 ^ 32 + 1) * 2 ^ 33
rounds_left (Some last) = (2 ^ 32 - last) * 2 ^ 33

abbrev pub weight : Known → ℕ
weight k = if k.closed then 0 else 1 + (rounds_left k.last + (2 ^ 32 - k.repeats))

abbrev pub weigh : List Known → ℕ
weigh [] = 0
weigh (k ∷ ks) = weight k + weigh ks
