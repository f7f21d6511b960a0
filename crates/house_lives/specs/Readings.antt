-- What runs of `settle`, `standing`, `explain` and `judge` tell on the last files, once they are done.
use Rattle.std.specs.Prelude.{◌≡◌, ◌+◌, ◌++◌, ℕ, Bool, List, Some, Ok}
use Rattle.std.specs.List.{flat_map}
use Rattle.house_io.specs.Shelves.{NamedFile}
use Rattle.house_io.specs.Told.{IfTold}
use Rattle.auction_file.specs.AuctionFile.{auction_of}
use Rattle.auction_file.specs.Listing.{listing_of}
use Rattle.auction_file.specs.declared.listing.Auction.{Auction}
use Rattle.clock.specs.Reports.{ClockHistory}
use Rattle.settlement.specs.declared.outcome.Outcome.{Outcome}
use Rattle.settlement.specs.declared.outcome.Settlement.TheVariants.{Settled}
use Rattle.command_line.specs.Commands.{Command, Explain, Judge, Settle, Spells, Standing}
use Rattle.house_run.specs.Ends.{RunEnds}
use Rattle.house_run.specs.ExplainCommand.{IsExplainedText}
use Rattle.house_run.specs.Journals.{AreFromJournals}
use Rattle.house_run.specs.JudgeCommand.{IsJudgedText}
use Rattle.house_run.specs.Nets.{NetSeen}
use Rattle.house_run.specs.Outcomes.{IsSettlement, text_of_outcome}
use Rattle.house_run.specs.Seen.{Outside, SinkSeen, content}
use Rattle.house_run.specs.Texts.{standing_of}
use Rattle.house_run.specs.declared.ends.Ended.TheVariants as how

-- The words are those of the command, the top call kept its contract, and it was done. It began with the last files, which are told as those
-- after it are, and the auction's file among them says this auction.
pub record IsDoneRun (command : Command) (value : Auction) (auction : List ℕ) (last after : List NamedFile) (words : List (List ℕ)) (seen : Outside) (net : NetSeen) (sink : SinkSeen) : Type 0 where
  pub spelled : Spells command words
  pub ends : RunEnds words seen net sink how.Done
  pub told_before : seen.shelf.files_before ≡ Some last
  pub told : seen.shelf.files ≡ Some after
  pub says : auction_of (content last auction) ≡ Ok (listing_of value)

-- The text of the outcome was written in which the histories settle that the journals have.
pub record SettlesHistories (value : Auction) (journals : List ℕ) (json : Bool) (last : List NamedFile) (sink : SinkSeen) : Type 0 where
  pub histories : List ClockHistory
  pub from_journals : AreFromJournals (Some last) value.terms value.digest journals (value.terms.bidders + 1) histories
  pub outcome : Outcome
  pub settlement : IsSettlement value.terms histories (Settled outcome)
  pub written : IfTold sink.written_before sink.written (λ before after. after ≡ before ++ text_of_outcome json outcome)

-- A line was written for each clock that tells how the history stands which its journal has.
pub record TellsHistories (value : Auction) (journals : List ℕ) (last : List NamedFile) (sink : SinkSeen) : Type 0 where
  pub histories : List ClockHistory
  pub from_journals : AreFromJournals (Some last) value.terms value.digest journals (value.terms.bidders + 1) histories
  pub written : IfTold sink.written_before sink.written (λ before after. after ≡ before ++ flat_map standing_of histories)

-- A text was written that tells what each clock has come to whose history its journal has.
pub record ExplainsHistories (value : Auction) (journals : List ℕ) (last : List NamedFile) (sink : SinkSeen) : Type 0 where
  pub histories : List ClockHistory
  pub from_journals : AreFromJournals (Some last) value.terms value.digest journals (value.terms.bidders + 1) histories
  pub text : List ℕ
  pub told : IsExplainedText histories text
  pub written : IfTold sink.written_before sink.written (λ before after. after ≡ before ++ text)

-- A text was written that tells a decision of all observations of the bidder in the histories that the journals have.
pub record JudgesHistories (value : Auction) (journals : List ℕ) (bidder : ℕ) (last : List NamedFile) (sink : SinkSeen) : Type 0 where
  pub histories : List ClockHistory
  pub from_journals : AreFromJournals (Some last) value.terms value.digest journals (value.terms.bidders + 1) histories
  pub text : List ℕ
  pub told : IsJudgedText value.terms histories bidder text
  pub written : IfTold sink.written_before sink.written (λ before after. after ≡ before ++ text)

-- what a `settle` that is done has written
abbrev pub SettleLaw : Type 0
SettleLaw = (value : Auction) (auction journals : List ℕ) (json : Bool) (last after : List NamedFile) (words : List (List ℕ)) (seen : Outside) (net : NetSeen) (sink : SinkSeen)
    → IsDoneRun (Settle auction journals json) value auction last after words seen net sink → SettlesHistories value journals json last sink

-- what a `standing` that is done has written
abbrev pub StandingLaw : Type 0
StandingLaw = (value : Auction) (auction journals : List ℕ) (last after : List NamedFile) (words : List (List ℕ)) (seen : Outside) (net : NetSeen) (sink : SinkSeen)
    → IsDoneRun (Standing auction journals) value auction last after words seen net sink → TellsHistories value journals last sink

-- what an `explain` that is done has written
abbrev pub ExplainLaw : Type 0
ExplainLaw = (value : Auction) (auction journals : List ℕ) (last after : List NamedFile) (words : List (List ℕ)) (seen : Outside) (net : NetSeen) (sink : SinkSeen)
    → IsDoneRun (Explain auction journals) value auction last after words seen net sink → ExplainsHistories value journals last sink

-- what a `judge` that is done has written
abbrev pub JudgeLaw : Type 0
JudgeLaw = (value : Auction) (auction journals : List ℕ) (bidder : ℕ) (last after : List NamedFile) (words : List (List ℕ)) (seen : Outside) (net : NetSeen) (sink : SinkSeen)
    → IsDoneRun (Judge auction journals bidder) value auction last after words seen net sink → JudgesHistories value journals bidder last sink
