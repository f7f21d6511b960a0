-- How a run ends: what it answers, what it wrote, and why. A job, the command's own work, is done and has a text, or it ends otherwise;
-- then the text or the line of that end is written, and only that may still fail.
use Rattle.std.specs.Prelude.{◌≡◌, ◌<◌, ◌≤◌, ◌-◌, ◌^◌, ◌⊎◌, ◌≢◌, ℕ, List, [], ◌++◌, length, take, Result, Ok, Err, IfSome, Vec, ◌+◌, Bool, Some, IsTrue, None}
use Rattle.std.specs.declared.alloc.Global.{Global}
use Rattle.house_io.specs.Faults.{Rose}
use Rattle.house_io.specs.Told.{IfTold}
use Rattle.house_io.specs.Shelves.{NamedFile}
use Rattle.lot_base.specs.declared.auction_terms.Terms.{Terms}
use Rattle.auction_file.specs.AuctionFile.{Listing, auction_of}
use Rattle.house_run.specs.BidCommand.{BidFrame}
use Rattle.house_run.specs.Causes.{HasNumber, MayEnd, line_of}
use Rattle.house_run.specs.Commands.{IsDone, needs_of}
use Rattle.command_line.specs.Commands.{Bid, Command, IsNoCommand, MayBeCommand, Migrate, Serve, Spells}
use Rattle.house_run.specs.Found.{as_found}
use Rattle.house_run.specs.Frame.{Frame}
use Rattle.house_run.specs.MigrateCommand.{MigrateFrame}
use Rattle.house_run.specs.Moves.{AreGoodTargets}
use Rattle.house_run.specs.ServeCommand.{ServeFrame}
use Rattle.house_run.specs.NetEnds.{Ends, EndsOnNet, NetFrame}
use Rattle.house_run.specs.Nets.{NetSeen, IsNetUntouched}
use Rattle.report_log.specs.Logs.{IsLogOf, log_limit}
use Rattle.house_run.specs.Journals.{AreFromJournals, IsTermsOf}
use Rattle.lot_base.specs.Economy.{AllStrongSubstitutes}
use Rattle.clock.specs.Reports.{ClockHistory, all_bidders}
use Rattle.valuation.specs.ValuesFile.{values_of}
use Rattle.two_way.specs.Histories.{IsStart}
use Rattle.house_run.specs.Markets.{market_bidders}
use Rattle.house_run.specs.Needs.{Has, IsSource, Needs, journal_name}
use Rattle.house_run.specs.Outcomes.{HaveClosed}
use Rattle.house_run.specs.Seen.{Outside, ShelfSeen, SinkSeen, auction_limit, content, values_limit}
use Rattle.house_run.specs.declared.ends.Ended.{Ended}
use Rattle.house_run.specs.declared.ends.Ended.TheVariants as how

-- nothing was done to the shelf
pub record IsUntouched (seen : Outside) : Type 0 where
  pub files_same : seen.shelf.files ≡ seen.shelf.files_before
  pub faults_same : (name : List ℕ) → seen.shelf.faults name ≡ seen.shelf.faults_before name
  pub opened_same : seen.shelf.opened ≡ seen.shelf.opened_before

-- how the job ended, and its text where it is done, or else the cause of its end
abbrev pub end_of : Result (Vec ℕ Global) Ended → Ended
end_of (Ok text) = how.Done
end_of (Err end) = end

-- what the causes of a command's ends speak of: a serve writes to its journals, and a migration to its targets, so they speak of the files
-- that it found
abbrev pub as_seen : Command → Outside → Outside
as_seen (Serve auction journals s) seen = as_found seen
as_seen (Migrate old journals new target) seen = as_found seen
as_seen command seen = seen

abbrev pub JobAnswer : Command → Outside → NetSeen → Result (Vec ℕ Global) Ended → Type 0
JobAnswer command seen net (Ok text) = IsDone command seen net text.items
JobAnswer command seen net (Err end) = Ends (needs_of command) (as_seen command seen) net end

-- the same of a job that goes to the shelf alone, with this text where it is done
abbrev pub ShelfAnswer : (ShelfSeen → List ℕ → Type 0) → Needs → Outside → Result (Vec ℕ Global) Ended → Type 0
ShelfAnswer Done needs seen (Ok text) = Done seen.shelf text.items
ShelfAnswer Done needs seen (Err end) = MayEnd needs seen end

-- what a job that ended so leaves of the shelf, and one that goes to the net of that too
abbrev pub CommandFrame : Command → Ended → Outside → NetSeen → Type 0
CommandFrame (Serve auction journals s) end seen net = ServeFrame auction journals s end seen net
CommandFrame (Bid auction values b) end seen net = BidFrame auction values b end seen net
CommandFrame (Migrate old journals new target) end seen net = MigrateFrame old journals new target end seen
CommandFrame command end seen net = Frame (needs_of command) end seen

-- The text was appended, and the answer is the job's end; or the sink's count rose, a front of the text was appended, and the
-- answer says so. A fault is passed over by no other answer.
pub record WroteWhole (sink : SinkSeen) (end : Ended) (text : List ℕ) (answer : Ended) : Type 0 where
  pub answer_is : answer ≡ end
  pub steady : sink.faults ≡ sink.faults_before
  pub appended : IfTold sink.written_before sink.written (λ before after. after ≡ before ++ text)

pub record WroteFront (sink : SinkSeen) (text : List ℕ) (answer : Ended) : Type 0 where
  pub answer_is : answer ≡ how.WriteFault
  pub later : sink.faults_before ≤ sink.faults
  pub cause : Rose sink.faults_before sink.faults
  pub appended : IfTold sink.written_before sink.written (λ before after. after ≡ before ++ take (length after - length before) text)

abbrev pub Wrote : SinkSeen → Ended → List ℕ → Ended → Type 0
Wrote sink end text answer = WroteWhole sink end text answer ⊎ WroteFront sink text answer

-- the line of an end was written; or memory for one with a number ran out, and nothing was written
abbrev pub WroteLine : SinkSeen → Ended → Ended → Type 0
WroteLine sink end answer = Wrote sink end (line_of end) answer ⊎ (HasNumber end × Wrote sink how.NoMemory [] answer)

-- the command's job was done, and its text was written
pub record DoneEnds (command : Command) (seen : Outside) (net : NetSeen) (sink : SinkSeen) (answer : Ended) : Type 0 where
  pub text : List ℕ
  pub done : IsDone command seen net text
  pub frame : CommandFrame command how.Done seen net
  pub net_frame : NetFrame (needs_of command) how.Done net
  pub wrote : Wrote sink how.Done text answer

-- the job ended otherwise, for a cause, and the line of its end was written
pub record OtherEnds (command : Command) (seen : Outside) (net : NetSeen) (sink : SinkSeen) (answer : Ended) : Type 0 where
  pub end : Ended
  pub cause : Ends (needs_of command) (as_seen command seen) net end
  pub frame : CommandFrame command end seen net
  pub net_frame : NetFrame (needs_of command) end net
  pub wrote : WroteLine sink end answer

abbrev pub CommandEnds : Command → Outside → NetSeen → SinkSeen → Ended → Type 0
CommandEnds command seen net sink answer = DoneEnds command seen net sink answer ⊎ OtherEnds command seen net sink answer

-- How a run ends: the words are no command, and it says so; or they are a command, and that ends; or memory ran out
-- before words that may be one were read, and nothing was written.
pub record UsageEnds (words : List (List ℕ)) (seen : Outside) (net : NetSeen) (sink : SinkSeen) (answer : Ended) : Type 0 where
  pub none : IsNoCommand words
  pub untouched : IsUntouched seen
  pub net_untouched : IsNetUntouched net
  pub wrote : Wrote sink how.Usage (line_of how.Usage) answer

pub record SomeCommandEnds (words : List (List ℕ)) (seen : Outside) (net : NetSeen) (sink : SinkSeen) (answer : Ended) : Type 0 where
  pub command : Command
  pub spelled : Spells command words
  pub ends : CommandEnds command seen net sink answer

pub record NoMemoryEnds (words : List (List ℕ)) (seen : Outside) (net : NetSeen) (sink : SinkSeen) (answer : Ended) : Type 0 where
  pub named : MayBeCommand words
  pub untouched : IsUntouched seen
  pub net_untouched : IsNetUntouched net
  pub wrote : Wrote sink how.NoMemory [] answer

abbrev pub RunEnds : List (List ℕ) → Outside → NetSeen → SinkSeen → Ended → Type 0
RunEnds words seen net sink answer = UsageEnds words seen net sink answer ⊎ (SomeCommandEnds words seen net sink answer ⊎ NoMemoryEnds words seen net sink answer)

-- the journal of a clock of the auction that the file says
pub record IsJournalIn (files : List NamedFile) (auction journals name : List ℕ) : Type 0 where
  pub listing : Listing
  pub says : auction_of (content files auction) ≡ Ok listing
  pub clock : ℕ
  pub clock_is : clock ≤ length listing.bidder_names
  pub name_is : name ≡ journal_name journals clock

-- a name that the command may open, where the files are these
abbrev pub MayOpen : Needs → List NamedFile → List ℕ → Type 0
MayOpen needs files name =
    IsSource needs name
    ⊎ (Has needs.auction (λ auction. Has needs.journals (λ journals. IsJournalIn files auction journals name)) ⊎ Has needs.moving (λ m. IsJournalIn files m.auction m.journals name))

-- No call failed on the sink, on the net or under a name that the command may open, and none of these counts stands at its last value. What
-- was found on the net ends no job.
pub record NothingFailed (needs : Needs) (files : List NamedFile) (seen : Outside) (net : NetSeen) (sink : SinkSeen) : Type 0 where
  pub shelf_same : (name : List ℕ) → MayOpen needs files name → seen.shelf.faults name ≡ seen.shelf.faults_before name
  pub shelf_room : (name : List ℕ) → MayOpen needs files name → seen.shelf.faults_before name < 2 ^ 64 - 1
  pub sink_same : sink.faults ≡ sink.faults_before
  pub sink_room : sink.faults_before < 2 ^ 64 - 1
  pub net_same : net.faults ≡ net.faults_before
  pub net_room : net.faults_before < 2 ^ 64 - 1
  pub net_well : (end : Ended) → end ≢ how.NetFault → EndsOnNet needs seen.shelf net end → ⊥

-- the log is not too long, and has no faulty entry
pub record IsGoodLog (terms : Terms) (bytes : List ℕ) : Type 0 where
  pub short : length bytes ≤ log_limit
  pub history : ClockHistory
  pub whole : IsLogOf terms history bytes

-- the auction file is not too long, and is one of an auction
pub record IsGoodAuction (bytes : List ℕ) : Type 0 where
  pub short : length bytes ≤ auction_limit
  pub listing : Listing
  pub read : auction_of bytes ≡ Ok listing

-- each journal of the auction has a legal history, and where these are settled, each clock has closed
pub record AreGoodJournals (settles : Bool) (files : List NamedFile) (auction journals : List ℕ) : Type 0 where
  pub listing : Listing
  pub says : auction_of (content files auction) ≡ Ok listing
  pub terms : Terms
  pub terms_are : IsTermsOf listing terms
  pub histories : List ClockHistory
  pub from_journals : AreFromJournals (Some files) terms listing.digest journals (terms.bidders + 1) histories
  pub closed : IsTrue settles → HaveClosed histories

-- the file has a valuation for each bidder of the auction, each with strong substitutes where these are tried
pub record AreGoodValues (tried : Type 0) (files : List NamedFile) (auction values : List ℕ) : Type 0 where
  pub listing : Listing
  pub says : auction_of (content files auction) ≡ Ok listing
  pub terms : Terms
  pub terms_are : IsTermsOf listing terms
  pub short : length (content files values) ≤ values_limit
  pub valuations : List (List ℕ)
  pub read : values_of terms.goods terms.bidders terms.ceiling (content files values) ≡ Ok valuations
  pub substitutes : tried → AllStrongSubstitutes terms.goods (market_bidders terms valuations) (all_bidders terms.bidders)

-- the auction has this bidder
pub record HasBidder (files : List NamedFile) (auction : List ℕ) (bidder : ℕ) : Type 0 where
  pub listing : Listing
  pub says : auction_of (content files auction) ≡ Ok listing
  pub few : bidder ≤ length listing.bidder_names

-- the clocks of the auction can start at these prices
pub record CanStart (files : List NamedFile) (auction start : List ℕ) : Type 0 where
  pub listing : Listing
  pub says : auction_of (content files auction) ≡ Ok listing
  pub terms : Terms
  pub terms_are : IsTermsOf listing terms
  pub starts : IsStart terms start

-- the files that are needed are good
pub record AreGood (needs : Needs) (files : List NamedFile) : Type 0 where
  pub auction : IfSome needs.auction (λ name. IsGoodAuction (content files name))
  pub log : IfSome needs.log (λ log. IsGoodLog log.terms (content files log.name))
  pub journals : IfSome needs.auction (λ auction. IfSome needs.journals (λ journals. AreGoodJournals needs.settles files auction journals))
  pub values : IfSome needs.auction (λ auction. IfSome needs.values (λ values. AreGoodValues (needs.bid ≡ None) files auction values))
  pub bidder : IfSome needs.auction (λ auction. IfSome needs.bidder (HasBidder files auction))
  pub start : IfSome needs.auction (λ auction. IfSome needs.start (CanStart files auction))
  pub targets : IfSome needs.auction (λ auction. IfSome needs.journals (λ journals. IfSome needs.moving (AreGoodTargets files auction journals)))

-- the answer is Done, or memory ran out
abbrev pub IsDoneOrNoMemory : Ended → Type 0
IsDoneOrNoMemory answer = (answer ≡ how.Done) ⊎ (answer ≡ how.NoMemory)
