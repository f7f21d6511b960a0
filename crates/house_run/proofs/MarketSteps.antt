-- An auction is read, and then the valuations of its bidders: how a command that needs both ends, and what it leaves.
use Rattle.std.proofs.Common.{◌≡◌, ◌∙◌, ◌<◌, ℕ, List, [], ◌∷◌, Option, Some, None, Ok, Err, inl, inr, arith, refl, sym, ap, subst, take}
use Rattle.std.specs.Prelude.{Result, IfOk, IfErr, Vec}
use Rattle.std.specs.declared.alloc.Global.{Global}
use Rattle.house_run.specs.FloatCommand.{float_needs}
use Rattle.house_io.specs.Faults.{Rose}
use Rattle.house_io.specs.Shelves.{NamedFile, ChangesNone, with_name}
use Rattle.lot_base.specs.declared.auction_terms.Terms.{Terms}
use Rattle.settlement.specs.declared.outcome.Outcome.{Outcome}
use Rattle.outcome_text.specs.Plain.{plain_text}
use Rattle.clock.specs.Reports.{ClockHistory}
use Rattle.settlement.specs.declared.outcome.Settlement.{Settlement}
use Rattle.settlement.specs.declared.outcome.Settlement.TheVariants.{Settled}
use Rattle.auction_file.specs.AuctionFile.{Listing}
use Rattle.house_run.specs.Journals.{IsTermsOf}
use Rattle.trial.specs.Making.{IsMade}
use Rattle.trial.specs.Trials.{IsTried, IsSettledWell}
use Rattle.trial.specs.Refusals.{IsRefusal}
use Rattle.trial.specs.declared.faults.TrialFault.{TrialFault}
use Rattle.trial.specs.declared.faults.TrialFault.TheVariants as fault
use Rattle.house_run.specs.Causes.{MayEnd, MayReadValues, Tells}
use Rattle.house_run.specs.Ends.{ShelfAnswer}
use Rattle.house_run.specs.Frame.{Frame, KeepsFiles, OpensSources, RisesAmong}
use Rattle.house_run.specs.Markets.{ComesToValues, HasTerms, HasValues, IsBadValues, IsMarketAt, TriesAs, market_bidders}
use Rattle.house_run.specs.MakeCommand.{make_needs}
use Rattle.house_run.specs.Needs.{Has, IsJournal, IsSource, Needs, sources, with_names}
use Rattle.command_line.specs.Parts.{Bidding}
use Rattle.house_run.specs.Seen.{Outside, ShelfSeen, IsAuctionAt, IsTooLong, values_limit}
use Rattle.house_run.specs.Steps.{EndsAtValues, EndsSo, IsStartEnd, IsSteady, IsTrialEnd, LeavesSo, OnlyReads, OpensOnly, StopsBidding, end_by}
use Rattle.house_run.specs.BidCommand.{bid_needs}
use Rattle.house_run.specs.TrialCommand.{TrialDone, trial_needs}
use Rattle.house_run.specs.declared.ends.Ended.{Ended}
use Rattle.house_run.specs.declared.ends.Ended.TheVariants as how
use Rattle.house_run.specs.declared.ends.File.TheVariants as which
use Rattle.house_run.proofs.Closing.{none-changed}
use Rattle.house_run.proofs.Framing.{auction-then, has, none-kept, one-counts, steady-counts, counts-then}
use Rattle.house_run.proofs.JournalSteps.{later}
use Rattle.house_run.proofs.GoodMarkets.{none-without}
use Rattle.trial.proofs.MadeStrong.{made-strong}

-- what is known where the auction was read and no count rose so far
pub record AuctionRead (auction : List ℕ) (seen : Outside) (terms : Terms) (files : Option (List NamedFile)) (faults : List ℕ → ℕ) (names : List (List ℕ)) : Type 0 where
  pub terms_are : HasTerms (record seen.shelf { files = files; faults = faults; opened = names }) auction terms
  pub read : ChangesNone seen.shelf.files_before files
  pub first : names ≡ with_name auction seen.shelf.opened_before
  pub steady : (name : List ℕ) → faults name ≡ seen.shelf.faults_before name

-- a command that reads an auction and then valuations, and no journal
pub record ReadsTwo (needs : Needs) (auction values : List ℕ) : Type 0 where
  pub auction_is : needs.auction ≡ Some auction
  pub values_are : needs.values ≡ Some values
  pub sources_are : sources needs ≡ auction ∷ values ∷ []
  pub no_journals : needs.journals ≡ None

pub trial-two : (auction values : List ℕ) → ReadsTwo (trial_needs auction values) auction values
trial-two auction values = record { auction_is = refl; values_are = refl; sources_are = refl; no_journals = refl }

pub bid-two : (auction values : List ℕ) (b : Bidding) → ReadsTwo (bid_needs auction values b) auction values
bid-two auction values b = record { auction_is = refl; values_are = refl; sources_are = refl; no_journals = refl }

pub float-two : (auction values start : List ℕ) → ReadsTwo (float_needs auction values start) auction values
float-two auction values start = record { auction_is = refl; values_are = refl; sources_are = refl; no_journals = refl }

unjournaled : (needs : Needs) (auction values : List ℕ) (before now : Option (List NamedFile)) → ReadsTwo needs auction values → ChangesNone before now → KeepsFiles needs.journals before now
unjournaled needs auction values before now two same = let P : Option (List ℕ) → Type 0 = λ o. KeepsFiles o before now in subst P (sym two.no_journals) same

-- only the auction was opened, at most
pub auction-opened : (needs : Needs) (auction values : List ℕ) (shelf : ShelfSeen) → ReadsTwo needs auction values → OpensOnly auction shelf.opened_before shelf.opened → OpensSources needs shelf
auction-opened needs auction values shelf two (inl e) = record { count = 0; names = e }
auction-opened needs auction values shelf two (inr e) =
    let P : List (List ℕ) → Type 0 = λ names. shelf.opened ≡ with_names (take 1 names) shelf.opened_before in
    record { count = 1; names = subst P (sym two.sources_are) e }

-- the auction was read or refused, and nothing else
pub auction-frame : (needs : Needs) (auction values : List ℕ) (seen : Outside) (end : Ended) → ReadsTwo needs auction values → OnlyReads auction seen.shelf → RisesAmong (Tells needs end) seen.shelf.faults_before seen.shelf.faults → Frame needs end seen
auction-frame needs auction values seen end two reads counts = record {
  names = inl (auction-opened needs auction values seen.shelf two reads.names);
  counts = counts;
  files = unjournaled needs auction values seen.shelf.files_before seen.shelf.files two reads.unchanged;
}

-- the auction was refused
pub auction-ends : (needs : Needs) (auction values : List ℕ) (seen : Outside) (end : Ended) → ReadsTwo needs auction values → OnlyReads auction seen.shelf → EndsSo needs seen end → LeavesSo needs seen end
auction-ends needs auction values seen end two reads so = record { cause = so.cause; frame = auction-frame needs auction values seen end two reads so.counts }

both-opened : (needs : Needs) (auction values : List ℕ) (seen : Outside) (names : List (List ℕ)) → ReadsTwo needs auction values → names ≡ with_name auction seen.shelf.opened_before → OpensOnly values names seen.shelf.opened → OpensSources needs seen.shelf
both-opened needs auction values seen names two first (inl e) =
    let P : List (List ℕ) → Type 0 = λ all. seen.shelf.opened ≡ with_names (take 1 all) seen.shelf.opened_before in
    record { count = 1; names = subst P (sym two.sources_are) (e ∙ first) }
both-opened needs auction values seen names two first (inr e) =
    let P : List (List ℕ) → Type 0 = λ all. seen.shelf.opened ≡ with_names (take 2 all) seen.shelf.opened_before in
    record { count = 2; names = subst P (sym two.sources_are) (e ∙ ap (with_name values) first) }

pub market-frame : (needs : Needs) (auction values : List ℕ) (seen : Outside) (terms : Terms) (files : Option (List NamedFile)) (faults : List ℕ → ℕ) (names : List (List ℕ)) (end : Ended) → ReadsTwo needs auction values → AuctionRead auction seen terms files faults names
    → OnlyReads values (later seen.shelf files faults names) → RisesAmong (Tells needs end) faults seen.shelf.faults → Frame needs end seen
market-frame needs auction values seen terms files faults names end two known reads counts = record {
  names = inl (both-opened needs auction values seen names two known.first reads.names);
  counts = counts-then (Tells needs end) seen.shelf faults known.steady counts;
  files = unjournaled needs auction values seen.shelf.files_before seen.shelf.files two (none-changed seen.shelf.files_before files seen.shelf.files known.read reads.unchanged);
}

pub known-by : (auction : List ℕ) (seen : Outside) (terms : Terms) (listing : Listing) (files : Option (List NamedFile)) (faults : List ℕ → ℕ) (names : List (List ℕ)) → IsAuctionAt (record seen.shelf { files = files; faults = faults; opened = names }) auction listing → IsTermsOf listing terms
    → ChangesNone seen.shelf.files_before files → names ≡ with_name auction seen.shelf.opened_before → ((name : List ℕ) → faults name ≡ seen.shelf.faults_before name) → AuctionRead auction seen terms files faults names
known-by auction seen terms listing files faults names is are read first steady = record { terms_are = record { listing = listing; auction_is = is; terms_are = are }; read = read; first = first; steady = steady }

pub terms-then : (auction : List ℕ) (seen : Outside) (terms : Terms) (files : Option (List NamedFile)) (faults : List ℕ → ℕ) (names : List (List ℕ)) → AuctionRead auction seen terms files faults names → ChangesNone files seen.shelf.files → HasTerms seen.shelf auction terms
terms-then auction seen terms files faults names known same =
    let first : ShelfSeen = record seen.shelf { files = files; faults = faults; opened = names } in
    record {
      listing = known.terms_are.listing;
      auction_is = auction-then (λ _. ⊥) first seen.shelf auction known.terms_are.listing (none-kept (λ _. ⊥) files seen.shelf.files same) known.terms_are.auction_is;
      terms_are = known.terms_are.terms_are;
    }

pub market-read : (auction values : List ℕ) (seen : Outside) (terms : Terms) (valuations : List (List ℕ)) (files : Option (List NamedFile)) (faults : List ℕ → ℕ) (names : List (List ℕ)) → AuctionRead auction seen terms files faults names
    → OnlyReads values (later seen.shelf files faults names) → HasValues (later seen.shelf files faults names) terms values valuations → IsMarketAt seen.shelf auction values terms valuations
market-read auction values seen terms valuations files faults names known reads has = record {
  terms_are = terms-then auction seen terms files faults names known (reads.unchanged);
  values_are = record { read = has.read; is_read = record { whole = has.is_read.whole; short = has.is_read.short; bytes = has.is_read.bytes }; says = has.says };
}

-- the valuations were refused
pub values-ends : (end : Ended) (needs : Needs) (auction values : List ℕ) (seen : Outside) (terms : Terms) (files : Option (List NamedFile)) (faults : List ℕ → ℕ) (names : List (List ℕ)) → ReadsTwo needs auction values → AuctionRead auction seen terms files faults names
    → ComesToValues seen.shelf auction needs.bidder needs.start terms → OnlyReads values (later seen.shelf files faults names) → EndsAtValues terms values (later seen.shelf files faults names) end → LeavesSo needs seen end
values-ends how.ReadFault needs auction values seen terms files faults names two known comes reads ends =
    let P : ℕ → Type 0 = λ before. Rose before (seen.shelf.faults values) in
    let source : IsSource needs values = inr (inr (inl (has needs.values values (λ v. values ≡ v) two.values_are refl))) in
    record {
      cause = record { name = values; source = source; failed = subst P (known.steady values) ends };
      frame = market-frame needs auction values seen terms files faults names how.ReadFault two known reads (one-counts (Tells needs how.ReadFault) values (later seen.shelf files faults names) reads.counts source);
    }
values-ends how.NoMemory needs auction values seen terms files faults names two known comes reads ends = record {
  cause = tt;
  frame = market-frame needs auction values seen terms files faults names how.NoMemory two known reads (steady-counts (Tells needs how.NoMemory) (later seen.shelf files faults names) ends);
}
values-ends (how.TooLong which.Values) needs auction values seen terms files faults names two known comes reads ends = record {
  cause = has needs.auction auction _ two.auction_is (has needs.values values (λ v. MayReadValues needs seen.shelf auction × IsTooLong seen.shelf v values_limit) two.values_are ((terms, comes), ends.1));
  frame = market-frame needs auction values seen terms files faults names (how.TooLong which.Values) two known reads (steady-counts (Tells needs (how.TooLong which.Values)) (later seen.shelf files faults names) ends.0);
}
values-ends (how.BadValues refusal) needs auction values seen terms files faults names two known comes reads ends =
    let refused = ends.1 in
    let bad : IsBadValues seen.shelf auction values refusal = record {
      terms = terms;
      terms_are = comes.terms_are;
      read = refused.read;
      is_read = record { whole = refused.is_read.whole; short = refused.is_read.short; bytes = refused.is_read.bytes };
      says = refused.says;
      other = refused.other;
    } in
    record {
      cause = has needs.auction auction (λ a. Has needs.values (λ v. MayReadValues needs seen.shelf a × IsBadValues seen.shelf a v refusal)) two.auction_is (has needs.values values (λ v. MayReadValues needs seen.shelf auction × IsBadValues seen.shelf auction v refusal) two.values_are ((terms, comes), bad));
      frame = market-frame needs auction values seen terms files faults names (how.BadValues refusal) two known reads (steady-counts (Tells needs (how.BadValues refusal)) (later seen.shelf files faults names) ends.0);
    }
values-ends end needs auction values seen terms files faults names two known comes reads ends = absurd ends

-- the auction that was read has too few bidders
pub no-bidder : (auction values : List ℕ) (b : Bidding) (seen : Outside) (bidder : ℕ) (terms : Terms) (listing : Listing) → b.bidder ≡ bidder → OnlyReads auction seen.shelf → IsSteady seen.shelf → IsAuctionAt seen.shelf auction listing → IsTermsOf listing terms
    → terms.bidders < bidder → StopsBidding auction values b seen (how.NoBidder bidder)
no-bidder auction values b seen bidder terms listing same reads steady is are few = record {
  cause = λ net. inl (record { listing = listing; auction_is = is; bidder_is = sym same; above = (let e = are.bidders_are in omega arith) });
  frame = auction-frame (bid_needs auction values b) auction values seen (how.NoBidder bidder) (bid-two auction values b) reads (steady-counts (Tells (bid_needs auction values b) (how.NoBidder bidder)) seen.shelf steady);
}

-- the clocks of the auction that was read can't start at these prices
pub start-ends : (end : Ended) (auction values start : List ℕ) (seen : Outside) (terms : Terms) (listing : Listing) → OnlyReads auction seen.shelf → IsSteady seen.shelf → IsAuctionAt seen.shelf auction listing → IsTermsOf listing terms
    → IsStartEnd terms start end → LeavesSo (float_needs auction values start) seen end
start-ends (how.StartCount found) auction values start seen terms listing reads steady is are ends = record {
  cause = record { terms = terms; terms_are = record { listing = listing; auction_is = is; terms_are = are }; found_is = ends.0; other = ends.1 };
  frame = auction-frame (float_needs auction values start) auction values seen (how.StartCount found) (float-two auction values start) reads (steady-counts (Tells (float_needs auction values start) (how.StartCount found)) seen.shelf steady);
}
start-ends (how.StartRange good value) auction values start seen terms listing reads steady is are ends = record {
  cause = record {
    terms = terms;
    terms_are = record { listing = listing; auction_is = is; terms_are = are };
    count = ends.0;
    value_is = ends.1;
    first = ends.2;
  };
  frame = auction-frame (float_needs auction values start) auction values seen (how.StartRange good value) (float-two auction values start) reads (steady-counts (Tells (float_needs auction values start) (how.StartRange good value)) seen.shelf steady);
}
start-ends end auction values start seen terms listing reads steady is are ends = absurd ends

-- the trial of the market has no outcome
pub trial-ends : (end : Ended) (auction values : List ℕ) (seen : Outside) (terms : Terms) (valuations : List (List ℕ)) → IsMarketAt seen.shelf auction values terms valuations → IsTrialEnd terms valuations end → MayEnd (trial_needs auction values) seen end
trial-ends how.NoMemory auction values seen terms valuations market ends = tt
trial-ends (how.NotSubstitutes bidder x y good) auction values seen terms valuations market ends = (refl, record { terms = terms; valuations = valuations; market = market; first = ends })
trial-ends end auction values seen terms valuations market ends = absurd ends

-- nor do its clocks float
pub float-ends : (end : Ended) (auction values start : List ℕ) (seen : Outside) (terms : Terms) (valuations : List (List ℕ)) → IsMarketAt seen.shelf auction values terms valuations → IsTrialEnd terms valuations end → MayEnd (float_needs auction values start) seen end
float-ends how.NoMemory auction values start seen terms valuations market ends = tt
float-ends (how.NotSubstitutes bidder x y good) auction values start seen terms valuations market ends = (refl, record { terms = terms; valuations = valuations; market = market; first = ends })
float-ends end auction values start seen terms valuations market ends = absurd ends

pub make-ends : (end : Ended) (number : ℕ) (seen : Outside) (terms : Terms) (valuations : List (List ℕ)) → IsMade number terms valuations → IsTrialEnd terms valuations end → MayEnd make_needs seen end
make-ends how.NoMemory number seen terms valuations made ends = tt
make-ends (how.NotSubstitutes bidder x y good) number seen terms valuations made ends = absurd (none-without terms (market_bidders terms valuations) bidder x y good ends (made-strong number terms valuations made))
make-ends end number seen terms valuations made ends = absurd ends

-- a command that opens no file leaves all as it was
pub nothing-opened : (needs : Needs) (seen : Outside) (end : Ended) → seen.shelf.files ≡ seen.shelf.files_before → seen.shelf.faults ≡ seen.shelf.faults_before → seen.shelf.opened ≡ seen.shelf.opened_before → Frame needs end seen
nothing-opened needs seen end files faults opened = record {
  names = inl (record { count = 0; names = opened });
  counts = steady-counts (Tells needs end) seen.shelf (λ name. ap (λ f. f name) faults);
  files = kept needs.journals;
}
  where
    same : (o : Option (List NamedFile)) → ChangesNone o o
    same None = tt
    same (Some files) = refl

    kept : (journals : Option (List ℕ)) → KeepsFiles journals seen.shelf.files_before seen.shelf.files
    kept None = subst (ChangesNone seen.shelf.files_before) (sym files) (same seen.shelf.files_before)
    kept (Some journals) = none-kept (IsJournal journals) seen.shelf.files_before seen.shelf.files (subst (ChangesNone seen.shelf.files_before) (sym files) (same seen.shelf.files_before))

-- what a trial that has no outcome ends a command with
pub refused-end : (terms : Terms) (valuations : List (List ℕ)) (fault : TrialFault) → IsRefusal terms (market_bidders terms valuations) fault → IsTrialEnd terms valuations (end_by fault)
refused-end terms valuations (fault.NotSubstitutes bidder x y good) is = is
refused-end terms valuations fault.NoMemory is = tt

-- a trial is settled
pub tries-as : (terms : Terms) (valuations : List (List ℕ)) (clocks : List ClockHistory) (settlement : Settlement) (outcome : Outcome) → IsTried terms (market_bidders terms valuations) clocks settlement → settlement ≡ Settled outcome → TriesAs terms valuations outcome
tries-as terms valuations clocks settlement outcome tried is = record { clocks = clocks; tried = subst (IsTried terms (market_bidders terms valuations) clocks) is tried }

pub never-other : (terms : Terms) (valuations : List (List ℕ)) (clocks : List ClockHistory) (settlement other : Settlement) → IsTried terms (market_bidders terms valuations) clocks settlement → settlement ≡ other
    → (IsSettledWell (market_bidders terms valuations) terms other → ⊥) → ⊥
never-other terms valuations clocks settlement other tried is bad = bad (subst (IsSettledWell (market_bidders terms valuations) terms) is tried.well)

-- the answer of a command
pub trial-answer : (result : Result (Vec ℕ Global) Ended) (auction values : List ℕ) (seen : Outside) (terms : Terms) (valuations : List (List ℕ)) (outcome : Outcome) → IsMarketAt seen.shelf auction values terms valuations → TriesAs terms valuations outcome
    → IfOk result (λ text. text.items ≡ plain_text outcome) → IfErr result (λ end. end ≡ how.NoMemory) → ShelfAnswer (TrialDone auction values) (trial_needs auction values) seen result
trial-answer (Ok text) auction values seen terms valuations outcome market tries is none = record { terms = terms; valuations = valuations; market = market; outcome = outcome; tries = tries; text_is = is }
trial-answer (Err end) auction values seen terms valuations outcome market tries is none = subst (MayEnd (trial_needs auction values) seen) (sym none) tt
