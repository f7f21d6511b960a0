-- What the clause of the top call says of a run that is done and reads the journals.
use Rattle.std.proofs.Common.{◌≡◌, ◌+◌, ◌++◌, inl, inr, ℕ, Bool, List, [], Option, Some, Ok, refl, sym, ◌∙◌, ap, subst}
use Rattle.lot_base.specs.declared.auction_terms.Terms.{Terms}
use Rattle.house_io.specs.Shelves.{NamedFile}
use Rattle.house_io.specs.Told.{IfTold}
use Rattle.auction_file.specs.AuctionFile.{Listing, auction_of}
use Rattle.auction_file.specs.Listing.{listing_of}
use Rattle.auction_file.specs.declared.listing.Auction.{Auction}
use Rattle.clock.specs.Reports.{ClockHistory}
use Rattle.settlement.specs.declared.outcome.Settlement.TheVariants.{Settled}
use Rattle.command_line.specs.Commands.{Command, Explain, Judge, Settle, Spells, Standing}
use Rattle.command_line.proofs.Once.{spelled-once}
use Rattle.house_run.specs.Causes.{line_of}
use Rattle.house_run.specs.Commands.{IsDone, needs_of}
use Rattle.house_run.specs.Ends.{CommandEnds, CommandFrame, OtherEnds, RunEnds, Wrote, WroteLine, as_seen}
use Rattle.house_run.specs.ExplainCommand.{ExplainDone}
use Rattle.house_run.specs.Frame.{KeepsAll, KeepsContents}
use Rattle.house_run.specs.Journals.{AreFromJournals, AreHistories, IsTermsOf}
use Rattle.house_run.specs.JudgeCommand.{IsJudgedText, JudgeDone}
use Rattle.house_run.specs.Needs.{IsJournal}
use Rattle.house_run.specs.NetEnds.{Ends}
use Rattle.house_run.specs.Nets.{NetSeen}
use Rattle.house_run.specs.Outcomes.{IsSettlement}
use Rattle.house_run.specs.Seen.{Outside, SinkSeen, content}
use Rattle.house_run.specs.SettleCommand.{SettleDone}
use Rattle.house_run.specs.StandingCommand.{StandingDone}
use Rattle.house_run.specs.declared.ends.Ended.{Ended}
use Rattle.house_run.specs.declared.ends.Ended.TheVariants as how
use Rattle.house_run.proofs.Framing.{content-same}
use Rattle.house_run.proofs.GoodJournals.{listed-once, says-told}
use Rattle.house_run.proofs.Rereading.{journals-reads}
use Rattle.house_lives.specs.Readings.{ExplainsHistories, IsDoneRun, JudgesHistories, SettlesHistories, TellsHistories}

-- a run that is done, whatever its command

-- what a command wrote that is done, and what it leaves
pub record WasDone (command : Command) (seen : Outside) (net : NetSeen) (sink : SinkSeen) : Type 0 where
  pub text : List ℕ
  pub done : IsDone command seen net text
  pub frame : CommandFrame command how.Done seen net
  pub written : IfTold sink.written_before sink.written (λ before after. after ≡ before ++ text)

-- an answer tells how the job ended
not-done : (sink : SinkSeen) (end : Ended) (text : List ℕ) → (how.Done ≡ end → ⊥) → Wrote sink end text how.Done → ⊥
not-done sink end text other (inl whole) = other whole.answer_is
not-done sink end text other (inr front) = let e : how.Done ≡ how.WriteFault = front.answer_is in (let no : ⊥ = cc in no)

done-whole : (sink : SinkSeen) (text : List ℕ) → Wrote sink how.Done text how.Done → IfTold sink.written_before sink.written (λ before after. after ≡ before ++ text)
done-whole sink text (inl whole) = whole.appended
done-whole sink text (inr front) = absurd (let e : how.Done ≡ how.WriteFault = front.answer_is in (let no : ⊥ = cc in no))

no-cause : (command : Command) (seen : Outside) (net : NetSeen) (end : Ended) → how.Done ≡ end → Ends (needs_of command) (as_seen command seen) net end → ⊥
no-cause command seen net end e cause = of (subst (λ x. Ends (needs_of command) (as_seen command seen) net x) (sym e) cause)
  where
    of : Ends (needs_of command) (as_seen command seen) net how.Done → ⊥
    of (inl none) = none
    of (inr (inl none)) = none
    of (inr (inr none)) = none

other-not-done : (command : Command) (seen : Outside) (net : NetSeen) (sink : SinkSeen) → OtherEnds command seen net sink how.Done → ⊥
other-not-done command seen net sink other = of other.wrote
  where
    of : WroteLine sink other.end how.Done → ⊥
    of (inl line) = not-done sink other.end (line_of other.end) (λ e. no-cause command seen net other.end e other.cause) line
    of (inr short) = not-done sink how.NoMemory [] (λ e. (let no : ⊥ = cc in no)) short.1

by-command : (command : Command) (seen : Outside) (net : NetSeen) (sink : SinkSeen) → CommandEnds command seen net sink how.Done → WasDone command seen net sink
by-command command seen net sink (inl done) = record { text = done.text; done = done.done; frame = done.frame; written = done-whole sink done.text done.wrote }
by-command command seen net sink (inr other) = absurd (other-not-done command seen net sink other)

pub was-done : (command : Command) (words : List (List ℕ)) (seen : Outside) (net : NetSeen) (sink : SinkSeen) → Spells command words → RunEnds words seen net sink how.Done → WasDone command seen net sink
was-done command words seen net sink spelled (inl usage) = absurd (not-done sink how.Usage (line_of how.Usage) (λ e. (let no : ⊥ = cc in no)) usage.wrote)
was-done command words seen net sink spelled (inr (inl some)) =
    let same : some.command ≡ command = spelled-once some.command command words some.spelled spelled in
    by-command command seen net sink (subst (λ (c : Command). CommandEnds c seen net sink how.Done) same some.ends)
was-done command words seen net sink spelled (inr (inr short)) = absurd (not-done sink how.NoMemory [] (λ e. (let no : ⊥ = cc in no)) short.wrote)

-- the histories that it read

pub own-terms : (value : Auction) → IsTermsOf (listing_of value) value.terms
own-terms value = record { version_is = refl; goods_are = refl; bidders_are = sym value.named_bidders; ceiling_is = refl; opening_is = refl }

-- the terms are the auction's, and the histories those that the journals had when the run began
record WereThere (value : Auction) (journals : List ℕ) (last : List NamedFile) (terms : Terms) (histories : List ClockHistory) : Type 0 where
  terms_are : terms ≡ value.terms
  from_journals : AreFromJournals (Some last) value.terms value.digest journals (value.terms.bidders + 1) histories

module _ (value : Auction) (auction journals : List ℕ) (last after : List NamedFile) (seen : Outside) (told_before : seen.shelf.files_before ≡ Some last) (told : seen.shelf.files ≡ Some after) (says : auction_of (content last auction) ≡ Ok (listing_of value)) where
  were-there : (terms : Terms) (histories : List ClockHistory) → KeepsAll (IsJournal journals) seen.shelf.files_before seen.shelf.files → AreHistories seen.shelf auction journals terms histories
      → WereThere value journals last terms histories
  were-there terms histories kept are =
      let same : KeepsContents (IsJournal journals) last after = subst (λ o. KeepsAll (IsJournal journals) o (Some after)) told_before (subst (λ o. KeepsAll (IsJournal journals) seen.shelf.files_before o) told kept) in
      let read : Ok are.on.listing ≡ Ok (listing_of value) =
      sym (says-told seen.shelf after auction are.on.listing told are.on.auction_is) ∙ ap auction_of (sym (content-same (IsJournal journals) last after auction same)) ∙ says in
      let listing : are.on.listing ≡ listing_of value = cc in
      let terms_are : terms ≡ value.terms = listed-once are.on.listing (listing_of value) terms value.terms listing are.on.terms_are (own-terms value) in
      let digest : are.digest ≡ value.digest = are.on.digest_is ∙ ap (λ (l : Listing). l.digest) listing in
      let From : Option (List NamedFile) → Terms → List ℕ → Type 0 = λ o t d. AreFromJournals o t d journals (t.bidders + 1) histories in
      let now : From (Some after) value.terms value.digest =
      subst (From (Some after) value.terms) digest (subst (λ t. From (Some after) t are.digest) terms_are (subst (λ o. From o terms are.digest) told are.from_journals)) in
      record {
        terms_are = terms_are;
        from_journals = journals-reads (Some after) (Some last) value.terms value.digest journals (value.terms.bidders + 1) histories (λ name. content-same (IsJournal journals) last after name same) now;
      }

pub settle-law : (value : Auction) (auction journals : List ℕ) (json : Bool) (last after : List NamedFile) (words : List (List ℕ)) (seen : Outside) (net : NetSeen) (sink : SinkSeen)
    → IsDoneRun (Settle auction journals json) value auction last after words seen net sink → SettlesHistories value journals json last sink
settle-law value auction journals json last after words seen net sink is =
    let was = was-done (Settle auction journals json) words seen net sink is.spelled is.ends in
    let settles : SettleDone auction journals json seen.shelf was.text = was.done in
    let there = were-there value auction journals last after seen is.told_before is.told is.says settles.settled.terms settles.settled.histories was.frame.files settles.settled.are in
    record {
      histories = settles.settled.histories;
      from_journals = there.from_journals;
      outcome = settles.outcome;
      settlement = subst (λ t. IsSettlement t settles.settled.histories (Settled settles.outcome)) there.terms_are settles.settled.settlement;
      written = subst (λ text. IfTold sink.written_before sink.written (λ before now. now ≡ before ++ text)) settles.text_is was.written;
    }

pub standing-law : (value : Auction) (auction journals : List ℕ) (last after : List NamedFile) (words : List (List ℕ)) (seen : Outside) (net : NetSeen) (sink : SinkSeen)
    → IsDoneRun (Standing auction journals) value auction last after words seen net sink → TellsHistories value journals last sink
standing-law value auction journals last after words seen net sink is =
    let was = was-done (Standing auction journals) words seen net sink is.spelled is.ends in
    let tells : StandingDone auction journals seen.shelf was.text = was.done in
    let there = were-there value auction journals last after seen is.told_before is.told is.says tells.terms tells.histories was.frame.files tells.are in
    record {
      histories = tells.histories;
      from_journals = there.from_journals;
      written = subst (λ text. IfTold sink.written_before sink.written (λ before now. now ≡ before ++ text)) tells.text_is was.written;
    }

pub explain-law : (value : Auction) (auction journals : List ℕ) (last after : List NamedFile) (words : List (List ℕ)) (seen : Outside) (net : NetSeen) (sink : SinkSeen)
    → IsDoneRun (Explain auction journals) value auction last after words seen net sink → ExplainsHistories value journals last sink
explain-law value auction journals last after words seen net sink is =
    let was = was-done (Explain auction journals) words seen net sink is.spelled is.ends in
    let explains : ExplainDone auction journals seen.shelf was.text = was.done in
    let there = were-there value auction journals last after seen is.told_before is.told is.says explains.terms explains.histories was.frame.files explains.are in
    record { histories = explains.histories; from_journals = there.from_journals; text = was.text; told = explains.told; written = was.written }

pub judge-law : (value : Auction) (auction journals : List ℕ) (bidder : ℕ) (last after : List NamedFile) (words : List (List ℕ)) (seen : Outside) (net : NetSeen) (sink : SinkSeen)
    → IsDoneRun (Judge auction journals bidder) value auction last after words seen net sink → JudgesHistories value journals bidder last sink
judge-law value auction journals bidder last after words seen net sink is =
    let was = was-done (Judge auction journals bidder) words seen net sink is.spelled is.ends in
    let judges : JudgeDone auction journals bidder seen.shelf was.text = was.done in
    let there = were-there value auction journals last after seen is.told_before is.told is.says judges.terms judges.histories was.frame.files judges.are in
    record {
      histories = judges.histories;
      from_journals = there.from_journals;
      text = was.text;
      told = subst (λ t. IsJudgedText t judges.histories bidder was.text) there.terms_are judges.told;
      written = was.written;
    }
