-- What a hall shows and answers.
use Rattle.std.specs.Prelude.{◌≡◌, ◌≢◌, ◌≤◌, ◌<◌, ℕ, List, length, Option, IfSome}
use Rattle.lot_base.specs.declared.phases.Phase.{Phase}
use Rattle.lot_base.specs.declared.phases.Phase.TheVariants.{Running, Ended, Halted}
use Rattle.clock.specs.declared.clocks.Look.{Look}
use Rattle.clock.specs.declared.judging.Judgement.{Judgement}
use Rattle.clock.specs.declared.judging.Judgement.TheVariants.{Take, Again, NotMember, Early, Conflict, Over, NoRound}
use Rattle.clock.specs.declared.judging.Offered.{Offered}
use Rattle.clock.specs.declared.judging.Offered.TheVariants as offered
use Rattle.session.specs.declared.halls.Asked.{Asked}
use Rattle.session.specs.declared.halls.Asked.TheVariants as asked
use Rattle.session.specs.declared.halls.Question.{Question}
use Rattle.session.specs.declared.halls.Question.TheVariants as question
use Rattle.session.specs.declared.table.Line.{Line}
use Rattle.session.specs.declared.table.Line.TheVariants.{Says, Asks}
use Rattle.lot_base.specs.Demands.{IsDemand}
use Rattle.lot_base.specs.Goods.{IsRange}
use Rattle.auction_file.specs.declared.listing.Auction.{Auction}
use Rattle.report_wire.specs.Frames.{IsMessage}
use Rattle.report_wire.specs.Messages.{to_bidder, bidder_kind, bidder_payload}

-- a halted clock's good is one of the goods
abbrev pub IsGoodOf : ℕ → Phase → Type 0
IsGoodOf goods Running = Unit {0}
IsGoodOf goods Ended = Unit {0}
IsGoodOf goods (Halted good) = good < goods

-- a look has a price of each good
pub record IsShown (goods : ℕ) (look : Look) : Type 0 where
  pub prices : length look.prices ≡ goods
  pub halted : IsGoodOf goods look.phase

-- A report that is to be applied, or was applied, is not refused; one of no member is refused as that where it may be of none.
abbrev pub IsRefusal : Type 0 → Judgement → Type 0
IsRefusal OfNone Take = ⊥
IsRefusal OfNone Again = ⊥
IsRefusal OfNone NotMember = OfNone
IsRefusal OfNone NoRound = Unit {0}
IsRefusal OfNone (Early round) = Unit {0}
IsRefusal OfNone (Conflict round) = Unit {0}
IsRefusal OfNone (Over round) = Unit {0}

abbrev pub IsOffered : Type 0 → Offered → Type 0
IsOffered OfNone offered.Taken = Unit {0}
IsOffered OfNone offered.Again = Unit {0}
IsOffered OfNone (offered.Refused judgement) = IsRefusal OfNone judgement
IsOffered OfNone (offered.Full needed) = Unit {0}
IsOffered OfNone offered.DiskFault = Unit {0}
IsOffered OfNone offered.NoMemory = Unit {0}

-- an answer that the question may have: only at its own clock is a bidder no member
abbrev pub IsPossible : Asked → Type 0
IsPossible (asked.Look clock look) = Unit {0}
IsPossible (asked.Offer clock bidder round demand offered) = IsOffered (bidder ≡ clock) offered

-- the question of what was asked
abbrev pub question_of : Asked → Question
question_of (asked.Look clock look) = question.Look clock
question_of (asked.Offer clock bidder round demand offered) = question.Offer clock bidder round demand

-- a question that a hall of so many bidders and of this supply may be asked for a session
abbrev pub IsAskable : ℕ → List ℕ → Line → Type 0
IsAskable bidders supply (Says reply on) = Unit {0}
IsAskable bidders supply (Asks (question.Look clock)) = clock ≤ bidders
IsAskable bidders supply (Asks (question.Offer clock bidder round demand)) = (clock ≤ bidders) × IsRange 1 bidders bidder × (bidder ≢ clock) × IsDemand supply demand

-- a reply that a frame can spell
abbrev pub IsSayable : Line → Type 0
IsSayable (Says reply on) = IsMessage to_bidder (bidder_kind reply) (bidder_payload reply)
IsSayable (Asks question) = Unit {0}

-- the session's bidder, if it has one, is one of the auction
abbrev pub IsBidder : ℕ → Option ℕ → Type 0
IsBidder bidders who = IfSome who (IsRange 1 bidders)

-- a hall of this auction's supply and bidders
abbrev pub IsHallOf : Auction → List ℕ → ℕ → Type 0
IsHallOf auction supply bidders = (supply ≡ auction.terms.goods) × (bidders ≡ auction.terms.bidders)

-- a session of this bidder, or of none yet, at a hall that is in order: both are of this auction
pub record IsSeated (auction : Auction) (who : Option ℕ) (in_order : Type 0) (supply : List ℕ) (bidders : ℕ) : Type 0 where
  pub bidder : IsBidder auction.terms.bidders who
  pub order : in_order
  pub hall : IsHallOf auction supply bidders
