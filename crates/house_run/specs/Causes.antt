-- How a run may end, end by end: which line is written, when the end may come, and of which faults it tells. A row speaks of what a
-- command needs, so it serves every command, and an end that a command cannot have asks for what the command does not need.
use Rattle.std.specs.Prelude.{◌≡◌, ◌≢◌, ◌≤◌, ◌⊎◌, ◌++◌, ⊤, ℕ, List, [], ◌∷◌, length, Err, IfSome, Option, codes, decimal, None}
use Rattle.house_io.specs.Faults.{Rose}
use Rattle.lot_base.specs.declared.auction_terms.Terms.{Terms}
use Rattle.outcome_text.specs.Lines.{line, numerals}
use Rattle.auction_file.specs.AuctionFile.{Listing, auction_of}
use Rattle.auction_file.specs.declared.faults.AuctionFault.{AuctionFault}
use Rattle.auction_file.specs.declared.faults.AuctionFault.TheVariants as refused
use Rattle.settlement.specs.declared.outcome.Settlement.TheVariants as settlement
use Rattle.house_run.specs.Journals.{IsBadJournal}
use Rattle.report_log.specs.Logs.{IsFaultyAt, log_limit}
use Rattle.house_run.specs.Markets.{ComesToValues, IsBadValues, IsNoBidder, IsNotSubstitutesAt, IsOtherCount, StartsOutside}
use Rattle.house_run.specs.Needs.{Log, Needs, Has, IsSource, journal_name}
use Rattle.house_run.specs.Outcomes.{Settles}
use Rattle.house_run.specs.Seen.{Outside, ShelfSeen, IsAuctionAt, IsRead, IsTooLong, auction_limit, values_limit}
use Rattle.house_run.specs.Status.{number_of, record_of, refusal_number, values_number}
use Rattle.house_run.specs.declared.ends.Ended.{Ended}
use Rattle.house_run.specs.declared.ends.Ended.TheVariants as how
use Rattle.house_run.specs.declared.ends.File.TheVariants as which

-- the line of each end but Done
abbrev pub line_of : Ended → List ℕ
line_of how.Done = []
line_of how.NoMemory = []
line_of how.WriteFault = []
line_of how.Usage = codes "usage\n"
line_of how.ReadFault = codes "read fault\n"
line_of (how.DiskFault clock) = line (codes "disk" ∷ codes "fault" ∷ codes "clock" ∷ decimal clock ∷ [])
line_of (how.BadJournal clock fault) =
    line (codes "bad" ∷ codes "journal" ∷ codes "clock" ∷ decimal clock ∷ codes "record" ∷ decimal (record_of fault) ∷ codes "fault" ∷ decimal (refusal_number fault) ∷ [])
line_of (how.Open clock round missing) = line (codes "open" ∷ codes "clock" ∷ decimal clock ∷ codes "round" ∷ decimal round ∷ codes "missing" ∷ decimal missing ∷ [])
line_of (how.NoAward clock) = line (codes "no" ∷ codes "award" ∷ codes "clock" ∷ decimal clock ∷ [])
line_of (how.Halted clock good) = line (codes "halted" ∷ codes "clock" ∷ decimal clock ∷ codes "good" ∷ decimal good ∷ [])
line_of (how.TooLong which.Log) = codes "too long log\n"
line_of (how.TooLong which.Auction) = codes "too long auction\n"
line_of (how.BadLog place) = line (codes "bad" ∷ codes "log" ∷ codes "at" ∷ decimal place ∷ [])
line_of (how.TooLong which.Values) = codes "too long values\n"
line_of (how.BadValues fault) = line (codes "bad" ∷ codes "values" ∷ decimal (values_number fault) ∷ [])
line_of (how.NotSubstitutes bidder x y good) =
    line (codes "not" ∷ codes "substitutes" ∷ codes "bidder" ∷ decimal bidder ∷ codes "x" ∷ numerals x ++ (codes "y" ∷ numerals y ++ (codes "good" ∷ decimal good ∷ [])))
line_of (how.BadAuction fault) = line (codes "bad" ∷ codes "auction" ∷ decimal (number_of fault) ∷ [])
line_of how.NetFault = codes "net fault\n"
line_of (how.Refused code detail value) = line (codes "refused" ∷ codes "code" ∷ decimal code ∷ codes "detail" ∷ decimal detail ∷ codes "value" ∷ decimal value ∷ [])
line_of (how.LooksSpent clock) = line (codes "looks" ∷ codes "spent" ∷ codes "clock" ∷ decimal clock ∷ [])
line_of how.BadReply = codes "bad reply\n"
line_of (how.NoBidder bidder) = line (codes "no" ∷ codes "bidder" ∷ decimal bidder ∷ [])
line_of how.OtherTerms = codes "other terms\n"
line_of (how.NotPrefix clock number) = line (codes "not" ∷ codes "prefix" ∷ codes "clock" ∷ decimal clock ∷ codes "record" ∷ decimal number ∷ [])
line_of (how.TargetFull clock needed) = line (codes "target" ∷ codes "full" ∷ codes "clock" ∷ decimal clock ∷ codes "needed" ∷ decimal needed ∷ [])
line_of (how.BadTarget clock fault) =
    line (codes "bad" ∷ codes "target" ∷ codes "clock" ∷ decimal clock ∷ codes "record" ∷ decimal (record_of fault) ∷ codes "fault" ∷ decimal (refusal_number fault) ∷ [])
line_of (how.StartCount found) = line (codes "start" ∷ codes "count" ∷ decimal found ∷ [])
line_of (how.StartRange good value) = line (codes "start" ∷ codes "good" ∷ decimal good ∷ codes "value" ∷ decimal value ∷ [])

-- the line of the end has a number, so that it takes memory
abbrev pub HasNumber : Ended → Type 0
HasNumber how.Done = ⊥
HasNumber how.NoMemory = ⊥
HasNumber how.Usage = ⊥
HasNumber how.ReadFault = ⊥
HasNumber how.WriteFault = ⊥
HasNumber how.NetFault = ⊥
HasNumber how.BadReply = ⊥
HasNumber how.OtherTerms = ⊥
HasNumber (how.TooLong file) = ⊥
HasNumber end = ⊤

-- a call on the shelf failed under this name
abbrev pub FailedAt : ShelfSeen → List ℕ → Type 0
FailedAt shelf name = Rose (shelf.faults_before name) (shelf.faults name)

pub record SourceFailed (needs : Needs) (shelf : ShelfSeen) : Type 0 where
  pub name : List ℕ
  pub source : IsSource needs name
  pub failed : FailedAt shelf name

-- the journal of a clock of the auction that was read, which has the bidder that is needed, if one is
pub record JournalFailed (auction journals : List ℕ) (bidder : Option ℕ) (clock : ℕ) (shelf : ShelfSeen) : Type 0 where
  pub listing : Listing
  pub auction_is : IsAuctionAt shelf auction listing
  pub has_bidder : IfSome bidder (λ b. b ≤ length listing.bidder_names)
  pub clock_is : clock ≤ length listing.bidder_names
  pub failed : FailedAt shelf (journal_name journals clock)

pub record IsBadAuction (auction : List ℕ) (fault : AuctionFault) (shelf : ShelfSeen) : Type 0 where
  pub read : List ℕ
  pub is_read : IsRead shelf auction auction_limit read
  pub says : auction_of read ≡ Err fault
  pub other : fault ≢ refused.NoMemory

pub record IsBadLog (log : Log) (place : ℕ) (shelf : ShelfSeen) : Type 0 where
  pub read : List ℕ
  pub is_read : IsRead shelf log.name log_limit read
  pub faulty : IsFaultyAt log.terms read place

-- a command that needs valuations comes to them
abbrev pub MayReadValues : Needs → ShelfSeen → List ℕ → Type 0
MayReadValues needs shelf auction = (terms : Terms) × ComesToValues shelf auction needs.bidder needs.start terms

-- When a job may end so without a text, by what it found on the shelf. Usage and a write fault are no ends of a job, memory may run out at
-- any time, and the ends by the net, and those of moving journals, stand in tables of their own.
abbrev pub MayEnd : Needs → Outside → Ended → Type 0
MayEnd needs seen how.NoMemory = ⊤
MayEnd needs seen how.ReadFault = SourceFailed needs seen.shelf
MayEnd needs seen (how.DiskFault clock) = Has needs.auction (λ auction. Has needs.journals (λ journals. JournalFailed auction journals needs.bidder clock seen.shelf))
MayEnd needs seen (how.BadJournal clock fault) = Has needs.auction (λ auction. Has needs.journals (λ journals. IsBadJournal auction journals needs.bidder clock fault seen.shelf))
MayEnd needs seen (how.Open clock round missing) = Settles needs seen.shelf (settlement.Open clock round missing)
MayEnd needs seen (how.NoAward clock) = Settles needs seen.shelf (settlement.NoAward clock)
MayEnd needs seen (how.Halted clock good) = Settles needs seen.shelf (settlement.Halted clock good)
MayEnd needs seen (how.BadAuction fault) = Has needs.auction (λ auction. IsBadAuction auction fault seen.shelf)
MayEnd needs seen (how.TooLong which.Auction) = Has needs.auction (λ auction. IsTooLong seen.shelf auction auction_limit)
MayEnd needs seen (how.TooLong which.Log) = Has needs.log (λ log. IsTooLong seen.shelf log.name log_limit)
MayEnd needs seen (how.TooLong which.Values) = Has needs.auction (λ auction. Has needs.values (λ values. MayReadValues needs seen.shelf auction × IsTooLong seen.shelf values values_limit))
MayEnd needs seen (how.BadValues fault) = Has needs.auction (λ auction. Has needs.values (λ values. MayReadValues needs seen.shelf auction × IsBadValues seen.shelf auction values fault))
MayEnd needs seen (how.NotSubstitutes bidder x y good) = (needs.bid ≡ None)
    × Has needs.auction (λ auction. Has needs.values (λ values. IsNotSubstitutesAt seen.shelf auction values bidder x y good))
MayEnd needs seen (how.BadLog place) = Has needs.log (λ log. IsBadLog log place seen.shelf)
MayEnd needs seen (how.NoBidder bidder) = Has needs.auction (λ auction. Has needs.bidder (IsNoBidder seen.shelf auction bidder))
MayEnd needs seen (how.StartCount found) = Has needs.auction (λ auction. Has needs.start (IsOtherCount seen.shelf auction found))
MayEnd needs seen (how.StartRange good value) = Has needs.auction (λ auction. Has needs.start (StartsOutside seen.shelf auction good value))
MayEnd needs seen end = ⊥

-- the names whose faults the end tells; a fault under any other name is told by none
abbrev pub Tells : Needs → Ended → List ℕ → Type 0
Tells needs how.ReadFault name = IsSource needs name
Tells needs (how.DiskFault clock) name = Has needs.journals (λ journals. name ≡ journal_name journals clock)
Tells needs end name = ⊥
