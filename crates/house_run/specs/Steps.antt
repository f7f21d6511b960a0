-- What one step of a job does on the shelf. A job is a few of these in turn.
use Rattle.std.specs.Prelude.{◌≡◌, ◌≢◌, ◌≤◌, ◌⊎◌, ⊤, ℕ, Bool, List, [], ◌∷◌, length, Option, Some, Result, Ok, Err}
use Rattle.house_io.specs.Shelves.{ChangesNone, RisesOnly, with_name}
use Rattle.house_run.specs.Causes.{FailedAt, MayEnd, Tells}
use Rattle.lot_base.specs.declared.auction_terms.Terms.{Terms}
use Rattle.clock_book.specs.declared.faults.OpenFault.{OpenFault}
use Rattle.clock_book.specs.declared.faults.OpenFault.TheVariants as why
use Rattle.house_run.specs.Frame.{Frame, KeepsAll, RisesAmong}
use Rattle.house_run.specs.Journals.{IsFirstRefused, IsRefusedJournal}
use Rattle.house_run.specs.Needs.{Needs, IsJournal, first_journals, journal_name, sources, with_names}
use Rattle.house_run.specs.Seen.{Outside, ShelfSeen, IsRead, IsTooLong, values_limit}
use Rattle.clock.specs.Reports.{ClockHistory}
use Rattle.settlement.specs.declared.outcome.Outcome.{Outcome}
use Rattle.settlement.specs.declared.outcome.Settlement.TheVariants as settlement
use Rattle.house_run.specs.Outcomes.{IsSettlement, text_of_outcome}
use Rattle.house_run.specs.declared.ends.Ended.{Ended}
use Rattle.house_run.specs.declared.ends.Ended.TheVariants as how
use Rattle.house_run.specs.declared.ends.File.TheVariants as which
use Rattle.valuation.specs.ValuesFile.{values_of}
use Rattle.valuation.specs.declared.faults.ValuesFault.{ValuesFault}
use Rattle.valuation.specs.declared.faults.ValuesFault.TheVariants as refused
use Rattle.trial.specs.Refusals.{IsFirstWithout}
use Rattle.trial.specs.declared.faults.TrialFault.{TrialFault}
use Rattle.trial.specs.declared.faults.TrialFault.TheVariants as fault
use Rattle.lot_base.specs.Goods.{at}
use Rattle.two_way.specs.Histories.{IsFirstOutside}
use Rattle.two_way.specs.declared.floating.FloatFault.{FloatFault}
use Rattle.two_way.specs.declared.floating.FloatFault.TheVariants as floats
use Rattle.house_run.specs.Markets.{market_bidders}
use Rattle.house_io.specs.Faults.{Rose}
use Rattle.bidder_agent.specs.Talks.{Part}
use Rattle.bidder_agent.specs.declared.agents.AgentEnd.TheVariants as agent
use Rattle.bidder_agent.specs.declared.agents.Seen.{Seen}
use Rattle.house_run.specs.BidCommand.{bid_needs}
use Rattle.house_run.specs.Dialling.{TalksOn}
use Rattle.house_run.specs.NetEnds.{Ends}
use Rattle.command_line.specs.Parts.{Bidding}
use Rattle.house_run.specs.Nets.{NetSeen}

-- no name was opened but this one
abbrev pub OpensOnly : List ℕ → List (List ℕ) → List (List ℕ) → Type 0
OpensOnly name before now = (now ≡ before) ⊎ (now ≡ with_name name before)

-- no count rose
abbrev pub IsSteady : ShelfSeen → Type 0
IsSteady shelf = (name : List ℕ) → shelf.faults name ≡ shelf.faults_before name

-- no file was changed, only that of this name was opened, and only calls on it failed
pub record OnlyReads (name : List ℕ) (shelf : ShelfSeen) : Type 0 where
  pub unchanged : ChangesNone shelf.files_before shelf.files
  pub counts : RisesOnly name shelf.faults_before shelf.faults
  pub names : OpensOnly name shelf.opened_before shelf.opened

-- the end may come, and no fault rose that it does not tell
pub record EndsSo (needs : Needs) (seen : Outside) (end : Ended) : Type 0 where
  pub cause : MayEnd needs seen end
  pub counts : RisesAmong (Tells needs end) seen.shelf.faults_before seen.shelf.faults

-- an end that every command with this auction file may have
abbrev pub EndsAtAuction : List ℕ → Outside → Ended → Type 0
EndsAtAuction auction seen end = (needs : Needs) → needs.auction ≡ Some auction → EndsSo needs seen end

-- the journal of this name was synced at most, only it was opened, and only calls on it failed
pub record OnlySyncs (name : List ℕ) (shelf : ShelfSeen) : Type 0 where
  pub files : KeepsAll (λ other. other ≡ name) shelf.files_before shelf.files
  pub counts : RisesOnly name shelf.faults_before shelf.faults
  pub names : OpensOnly name shelf.opened_before shelf.opened

-- the journals of so many clocks were opened in order, and synced at most
pub record SyncsFirst (journals : List ℕ) (clocks : ℕ) (shelf : ShelfSeen) : Type 0 where
  pub files : KeepsAll (IsJournal journals) shelf.files_before shelf.files
  pub names : shelf.opened ≡ with_names (first_journals journals clocks) shelf.opened_before

pub record SyncsJournals (journals : List ℕ) (clocks : ℕ) (shelf : ShelfSeen) : Type 0 where
  pub count : ℕ
  pub few : count ≤ clocks
  pub synced : SyncsFirst journals count shelf

-- a call on the journal of this clock failed, and no other
pub record FailsAtJournal (journals : List ℕ) (clock : ℕ) (shelf : ShelfSeen) : Type 0 where
  pub failed : FailedAt shelf (journal_name journals clock)
  pub counts : RisesAmong (λ name. name ≡ journal_name journals clock) shelf.faults_before shelf.faults

-- why the journal of this name is not read
abbrev pub IsUnread : ShelfSeen → Terms → List ℕ → List ℕ → ℕ → OpenFault → Type 0
IsUnread shelf terms digest name clock why.DiskFault = FailedAt shelf name
IsUnread shelf terms digest name clock why.NoMemory = IsSteady shelf
IsUnread shelf terms digest name clock (why.Broken broken) = IsSteady shelf × IsRefusedJournal shelf.files terms digest name clock (why.Broken broken)
IsUnread shelf terms digest name clock (why.NotAcceptable number judgement) = IsSteady shelf × IsRefusedJournal shelf.files terms digest name clock (why.NotAcceptable number judgement)

-- why the journals are not all read, of which this clock's is the first that is not
abbrev pub EndsAtJournal : ShelfSeen → Terms → List ℕ → List ℕ → ℕ → OpenFault → Type 0
EndsAtJournal shelf terms digest journals clock why.DiskFault = FailsAtJournal journals clock shelf
EndsAtJournal shelf terms digest journals clock why.NoMemory = IsSteady shelf
EndsAtJournal shelf terms digest journals clock (why.Broken broken) = IsSteady shelf × IsFirstRefused shelf.files terms digest journals clock (why.Broken broken)
EndsAtJournal shelf terms digest journals clock (why.NotAcceptable number judgement) = IsSteady shelf × IsFirstRefused shelf.files terms digest journals clock (why.NotAcceptable number judgement)

-- every command with this auction file and these journals, that needs this bidder or none, may end so, and leaves what it should
pub record LeavesSo (needs : Needs) (seen : Outside) (end : Ended) : Type 0 where
  pub cause : MayEnd needs seen end
  pub frame : Frame needs end seen

abbrev pub EndsAtJournals : List ℕ → List ℕ → Option ℕ → Outside → Ended → Type 0
EndsAtJournals auction journals bidder seen end =
    (needs : Needs) → needs.auction ≡ Some auction → sources needs ≡ auction ∷ [] → needs.journals ≡ Some journals → needs.bidder ≡ bidder → LeavesSo needs seen end

-- whatever a command with this auction file and these journals ends with, it leaves what it should
abbrev pub ReadsJournals : List ℕ → List ℕ → Outside → Type 0
ReadsJournals auction journals seen = (needs : Needs) (end : Ended) → needs.auction ≡ Some auction → sources needs ≡ auction ∷ [] → needs.journals ≡ Some journals → Frame needs end seen

-- why the valuations of the file of this name are not read
pub record AreRefusedValues (terms : Terms) (values : List ℕ) (fault : ValuesFault) (shelf : ShelfSeen) : Type 0 where
  pub read : List ℕ
  pub is_read : IsRead shelf values values_limit read
  pub says : values_of terms.goods terms.bidders terms.ceiling read ≡ Err fault
  pub other : fault ≢ refused.NoMemory

abbrev pub EndsAtValues : Terms → List ℕ → ShelfSeen → Ended → Type 0
EndsAtValues terms values shelf how.ReadFault = FailedAt shelf values
EndsAtValues terms values shelf how.NoMemory = IsSteady shelf
EndsAtValues terms values shelf (how.TooLong which.Values) = IsSteady shelf × IsTooLong shelf values values_limit
EndsAtValues terms values shelf (how.BadValues refusal) = IsSteady shelf × AreRefusedValues terms values refusal shelf
EndsAtValues terms values shelf end = ⊥

-- how the trial of a market ends that has no outcome
abbrev pub IsTrialEnd : Terms → List (List ℕ) → Ended → Type 0
IsTrialEnd terms valuations how.NoMemory = ⊤
IsTrialEnd terms valuations (how.NotSubstitutes bidder x y good) = IsFirstWithout terms (market_bidders terms valuations) bidder x y good
IsTrialEnd terms valuations end = ⊥

abbrev pub end_by : TrialFault → Ended
end_by (fault.NotSubstitutes bidder x y good) = how.NotSubstitutes bidder x y good
end_by fault.NoMemory = how.NoMemory

-- how a command ends whose market does not float
abbrev pub float_end : FloatFault → Ended
float_end (floats.NotSubstitutes bidder x y good) = how.NotSubstitutes bidder x y good
float_end floats.NoMemory = how.NoMemory

-- how a command ends whose clocks can't start at these prices
abbrev pub IsStartEnd : Terms → List ℕ → Ended → Type 0
IsStartEnd terms start (how.StartCount found) = (found ≡ length start) × (length start ≢ length terms.goods)
IsStartEnd terms start (how.StartRange good value) =
    (length start ≡ length terms.goods) × (value ≡ at start good) × IsFirstOutside terms start good
IsStartEnd terms start end = ⊥

-- the text of the outcome that the histories settle with
pub record IsSettledText (terms : Terms) (histories : List ClockHistory) (json : Bool) (text : List ℕ) : Type 0 where
  pub outcome : Outcome
  pub settlement : IsSettlement terms histories (settlement.Settled outcome)
  pub text_is : text ≡ text_of_outcome json outcome

-- the end of a command by what the histories settle, where it has no outcome
abbrev pub IsSettledEnd : Terms → List ClockHistory → Ended → Type 0
IsSettledEnd terms histories how.NoMemory = ⊤
IsSettledEnd terms histories (how.Open clock round missing) = IsSettlement terms histories (settlement.Open clock round missing)
IsSettledEnd terms histories (how.NoAward clock) = IsSettlement terms histories (settlement.NoAward clock)
IsSettledEnd terms histories (how.Halted clock good) = IsSettlement terms histories (settlement.Halted clock good)
IsSettledEnd terms histories end = ⊥

-- a bid ends so before it goes to the net
pub record StopsBidding (auction values : List ℕ) (b : Bidding) (seen : Outside) (end : Ended) : Type 0 where
  pub cause : (net : NetSeen) → Ends (bid_needs auction values b) seen net end
  pub frame : Frame (bid_needs auction values b) end seen

-- why the talk of an agent gives no looks
abbrev pub IsTalkEnd : NetSeen → List ℕ → Part → Ended → Type 0
IsTalkEnd net address p how.NoMemory = ⊤
IsTalkEnd net address p how.NetFault = Rose net.faults_before net.faults
IsTalkEnd net address p (how.Refused code detail value) = TalksOn net address p (Err (agent.Refused code detail value))
IsTalkEnd net address p (how.LooksSpent clock) = TalksOn net address p (Err (agent.LooksSpent clock))
IsTalkEnd net address p how.BadReply = TalksOn net address p (Err agent.BadReply)
IsTalkEnd net address p end = ⊥

abbrev pub talk_end : Result Seen Ended → Ended
talk_end (Ok seen) = how.Done
talk_end (Err end) = end

-- the count of the net's faults never falls, and rises only where the end tells it
pub record NetCounts (end : Ended) (net : NetSeen) : Type 0 where
  pub quiet : end ≢ how.NetFault → net.faults ≡ net.faults_before
  pub later : net.faults_before ≤ net.faults
