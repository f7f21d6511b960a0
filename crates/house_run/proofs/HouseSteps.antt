-- An auction is read, and then its journals: how a command that needs both ends, and what it leaves.
use Rattle.std.proofs.Common.{◌≡◌, ◌∙◌, ◌<◌, ◌≤◌, ◌+◌, ◌++◌, ℕ, Bool, List, [], ◌∷◌, length, Option, Some, arith, inr, refl, sym, ap, subst}
use Rattle.std.proofs.Common.{Vec, Global, Ok, Err}
use Rattle.std.specs.Prelude.{Result, IfOk, IfErr, IfSome, ℤ}
use Rattle.std.specs.List.{AllByRecursion}
use Rattle.house_io.specs.Faults.{Rose}
use Rattle.house_io.specs.Shelves.{NamedFile, ChangesNone, with_name}
use Rattle.lot_base.specs.declared.auction_terms.Terms.{Terms}
use Rattle.clock.specs.Reports.{ClockHistory, ClockOf, histories}
use Rattle.settlement.specs.Settling.{IsOutcomeOf}
use Rattle.settlement.specs.Efficient.{ExplainsAll, IsEfficientSettlement}
use Rattle.settlement.specs.Incentives.{IsAmongTruthful, IsChargedBy}
use Rattle.settlement.specs.declared.outcome.Settlement.{Settlement}
use Rattle.settlement.specs.Clocks.{AreClocksOf}
use Rattle.auction_file.specs.AuctionFile.{Listing}
use Rattle.auction_file.specs.Listing.{listing_of}
use Rattle.auction_file.specs.declared.listing.Auction.{Auction}
use Rattle.recovery.specs.Journaled.{owner_of}
use Rattle.clock_book.specs.declared.faults.OpenFault.{OpenFault}
use Rattle.clock_book.specs.declared.faults.OpenFault.TheVariants as why
use Rattle.house_run.specs.Causes.{JournalFailed, MayEnd, Tells}
use Rattle.house_run.specs.Ends.{ShelfAnswer}
use Rattle.house_run.specs.Outcomes.{IsSettlement}
use Rattle.house_run.specs.Frame.{Frame, KeepsAll, KeepsFiles, OpensJournals, RisesAmong}
use Rattle.house_run.specs.Journals.{AreFromJournals, AreHistories, IsAuctionOn, IsFromJournal, IsTermsOf}
use Rattle.house_run.specs.Markets.{IsNoBidder}
use Rattle.house_run.specs.Needs.{Needs, IsJournal, first_journals, journal_name, sources, with_names}
use Rattle.house_run.specs.Seen.{Outside, ShelfSeen, IsAuctionAt}
use Rattle.house_run.specs.SettleCommand.{SettleDone, settle_needs}
use Rattle.house_run.specs.Status.{end_at}
use Rattle.house_run.specs.Steps.{EndsAtJournal, EndsAtJournals, IsSettledEnd, IsSettledText, IsSteady, LeavesSo, OnlyReads, SyncsFirst, SyncsJournals}
use Rattle.house_run.specs.declared.ends.Ended.{Ended}
use Rattle.house_run.specs.declared.ends.Ended.TheVariants as how
use Rattle.house_run.proofs.Framing.{auction-then, counts-then, has, kept-then, none-kept, refused-frame, steady-counts}
use Rattle.house_run.proofs.JournalSteps.{later, terms-are}

pub sources-are : (needs : Needs) (auction : List ℕ) → needs.auction ≡ Some auction → sources needs ≡ auction ∷ [] → sources needs ≡ auction ∷ []
sources-are needs auction a l = l

wider : (P Q : List ℕ → Type 0) (before now : List ℕ → ℕ) → ((name : List ℕ) → P name → Q name) → RisesAmong P before now → RisesAmong Q before now
wider P Q before now f rises = record { later = rises.later; others = λ name not. rises.others name (λ p. not (f name p)) }

-- the auction was read, and then the journals of so many clocks
pub journals-frame : (needs : Needs) (auction journals : List ℕ) (end : Ended) (seen : Outside) (listing : Listing) (clocks : ℕ) (files : Option (List NamedFile)) (faults : List ℕ → ℕ) (names : List (List ℕ))
    → needs.auction ≡ Some auction → sources needs ≡ auction ∷ [] → needs.journals ≡ Some journals → IsAuctionAt seen.shelf auction listing → clocks ≤ length listing.bidder_names + 1
    → ChangesNone seen.shelf.files_before files → names ≡ with_name auction seen.shelf.opened_before
    → SyncsFirst journals clocks (later seen.shelf files faults names)
    → RisesAmong (Tells needs end) seen.shelf.faults_before seen.shelf.faults → Frame needs end seen
journals-frame needs auction journals end seen listing clocks files faults names a l j is few read first synced counts =
    let are = sources-are needs auction a l in
    let whole : seen.shelf.opened ≡ with_names (sources needs ++ first_journals journals clocks) seen.shelf.opened_before =
    synced.names ∙ ap (with_names (first_journals journals clocks)) first ∙ sym (ap (λ s. with_names (s ++ first_journals journals clocks) seen.shelf.opened_before) are) in
    let order : OpensJournals needs seen.shelf auction journals = record { listing = listing; auction_is = is; clocks = clocks; clocks_are = few; names = whole } in
    let P : Option (List ℕ) → Type 0 = λ o. KeepsFiles o seen.shelf.files_before seen.shelf.files in
    record {
      names = inr (has needs.auction auction _ a (has needs.journals journals _ j order));
      counts = counts;
      files = subst P (sym j) (kept-then (IsJournal journals) (IsJournal journals) seen.shelf.files_before files seen.shelf.files (λ name k. k) (none-kept (IsJournal journals) seen.shelf.files_before files read) synced.files);
    }

-- what is known where the auction was read and no count rose so far
pub record Opened (auction : List ℕ) (seen : Outside) (terms : Terms) (digest : List ℕ) (listing : Listing) (files : Option (List NamedFile)) (faults : List ℕ → ℕ) (names : List (List ℕ)) : Type 0 where
  pub is : IsAuctionAt seen.shelf auction listing
  pub terms_are : IsTermsOf listing terms
  pub digest_is : digest ≡ listing.digest
  pub read : ChangesNone seen.shelf.files_before files
  pub first : names ≡ with_name auction seen.shelf.opened_before
  pub steady : (name : List ℕ) → faults name ≡ seen.shelf.faults_before name

on : (auction : List ℕ) (seen : Outside) (terms : Terms) (digest : List ℕ) (listing : Listing) (files : Option (List NamedFile)) (faults : List ℕ → ℕ) (names : List (List ℕ)) → Opened auction seen terms digest listing files faults names → IsAuctionOn seen.shelf auction terms digest
on auction seen terms digest listing files faults names opened = record { listing = listing; auction_is = opened.is; terms_are = opened.terms_are; digest_is = opened.digest_is }

pub read-histories : (auction journals : List ℕ) (seen : Outside) (terms : Terms) (digest : List ℕ) (listing : Listing) (files : Option (List NamedFile)) (faults : List ℕ → ℕ) (names : List (List ℕ)) (cs : List ClockHistory)
    → Opened auction seen terms digest listing files faults names → SyncsFirst journals (terms.bidders + 1) (later seen.shelf files faults names)
    → AreFromJournals seen.shelf.files terms digest journals (terms.bidders + 1) cs → AreHistories seen.shelf auction journals terms cs
read-histories auction journals seen terms digest listing files faults names cs opened synced are = record {
  digest = digest;
  on = on auction seen terms digest listing files faults names opened;
  from_journals = are;
  opened = synced.names ∙ ap (with_names (first_journals journals (terms.bidders + 1))) opened.first;
}

pub read-frame : (auction journals : List ℕ) (seen : Outside) (terms : Terms) (digest : List ℕ) (listing : Listing) (files : Option (List NamedFile)) (faults : List ℕ → ℕ) (names : List (List ℕ))
    → Opened auction seen terms digest listing files faults names → SyncsFirst journals (terms.bidders + 1) (later seen.shelf files faults names) → IsSteady (later seen.shelf files faults names)
    → (needs : Needs) (end : Ended) → needs.auction ≡ Some auction → sources needs ≡ auction ∷ [] → needs.journals ≡ Some journals → Frame needs end seen
read-frame auction journals seen terms digest listing files faults names opened synced steady needs end a l j =
    journals-frame needs auction journals end seen listing (terms.bidders + 1) files faults names a l j opened.is (let e = opened.terms_are.bidders_are in omega arith) opened.read opened.first synced
    (steady-counts (Tells needs end) seen.shelf (λ name. steady name ∙ opened.steady name))

-- what an end with these counts leaves
left : (auction journals : List ℕ) (seen : Outside) (terms : Terms) (digest : List ℕ) (listing : Listing) (files : Option (List NamedFile)) (faults : List ℕ → ℕ) (names : List (List ℕ))
    → Opened auction seen terms digest listing files faults names → SyncsJournals journals (terms.bidders + 1) (later seen.shelf files faults names)
    → (needs : Needs) (end : Ended) → needs.auction ≡ Some auction → sources needs ≡ auction ∷ [] → needs.journals ≡ Some journals → RisesAmong (Tells needs end) seen.shelf.faults_before seen.shelf.faults → Frame needs end seen
left auction journals seen terms digest listing files faults names opened synced needs end a l j counts =
    journals-frame needs auction journals end seen listing synced.count files faults names a l j opened.is (let e = opened.terms_are.bidders_are in let f = synced.few in omega arith) opened.read opened.first synced.synced counts

pub house-ends : (fault : OpenFault) (auction journals : List ℕ) (seen : Outside) (terms : Terms) (digest : List ℕ) (clock : ℕ) (listing : Listing) (files : Option (List NamedFile)) (faults : List ℕ → ℕ) (names : List (List ℕ))
    → Opened auction seen terms digest listing files faults names → clock ≤ terms.bidders → SyncsJournals journals (terms.bidders + 1) (later seen.shelf files faults names)
    → EndsAtJournal (later seen.shelf files faults names) terms digest journals clock fault
    → (needs : Needs) → needs.auction ≡ Some auction → sources needs ≡ auction ∷ [] → needs.journals ≡ Some journals → IfSome needs.bidder (λ b. b ≤ terms.bidders) → LeavesSo needs seen (end_at clock fault)
house-ends why.DiskFault auction journals seen terms digest clock listing files faults names opened few synced ends needs a l j comes =
    let P : ℕ → Type 0 = λ before. Rose before (seen.shelf.faults (journal_name journals clock)) in
    let failed : JournalFailed auction journals needs.bidder clock seen.shelf = record {
      listing = listing;
      auction_is = opened.is;
      has_bidder = subst (λ n. IfSome needs.bidder (λ b. b ≤ n)) opened.terms_are.bidders_are comes;
      clock_is = let e = opened.terms_are.bidders_are in omega arith;
      failed = subst P (opened.steady (journal_name journals clock)) ends.failed;
    } in
    record {
      cause = has needs.auction auction _ a (has needs.journals journals _ j failed);
      frame = left auction journals seen terms digest listing files faults names opened synced needs (how.DiskFault clock) a l j
          (wider (λ name. name ≡ journal_name journals clock) (Tells needs (how.DiskFault clock)) seen.shelf.faults_before seen.shelf.faults (λ name e. has needs.journals journals (λ k. name ≡ journal_name k clock) j e)
          (counts-then (λ name. name ≡ journal_name journals clock) seen.shelf faults opened.steady ends.counts));
    }
house-ends why.NoMemory auction journals seen terms digest clock listing files faults names opened few synced ends needs a l j comes = record {
  cause = tt;
  frame = left auction journals seen terms digest listing files faults names opened synced needs how.NoMemory a l j (steady-counts (Tells needs how.NoMemory) seen.shelf (λ name. ends name ∙ opened.steady name));
}
house-ends (why.Broken broken) auction journals seen terms digest clock listing files faults names opened few synced ends needs a l j comes = record {
  cause = has needs.auction auction _ a (has needs.journals journals _ j (record {
    terms = terms;
    digest = digest;
    on = on auction seen terms digest listing files faults names opened;
    has_bidder = comes;
    clock_is = few;
    first = ends.1;
  }));
  frame = left auction journals seen terms digest listing files faults names opened synced needs (how.BadJournal clock (why.Broken broken)) a l j
      (steady-counts (Tells needs (how.BadJournal clock (why.Broken broken))) seen.shelf (λ name. ends.0 name ∙ opened.steady name));
}
house-ends (why.NotAcceptable number judgement) auction journals seen terms digest clock listing files faults names opened few synced ends needs a l j comes = record {
  cause = has needs.auction auction _ a (has needs.journals journals _ j (record {
    terms = terms;
    digest = digest;
    on = on auction seen terms digest listing files faults names opened;
    has_bidder = comes;
    clock_is = few;
    first = ends.1;
  }));
  frame = left auction journals seen terms digest listing files faults names opened synced needs (how.BadJournal clock (why.NotAcceptable number judgement)) a l j
      (steady-counts (Tells needs (how.BadJournal clock (why.NotAcceptable number judgement))) seen.shelf (λ name. ends.0 name ∙ opened.steady name));
}

-- the auction that was read has no such bidder
pub no-bidder : (auction journals : List ℕ) (bidder : Option ℕ) (seen : Outside) (number : ℕ) (terms : Terms) (listing : Listing) → bidder ≡ Some number → OnlyReads auction seen.shelf → IsSteady seen.shelf → IsAuctionAt seen.shelf auction listing → IsTermsOf listing terms
    → terms.bidders < number → EndsAtJournals auction journals bidder seen (how.NoBidder number)
no-bidder auction journals bidder seen number terms listing is reads steady read are few needs a l j b =
    let none : IsNoBidder seen.shelf auction number number = record { listing = listing; auction_is = read; bidder_is = refl; above = (let e = are.bidders_are in omega arith) } in
    record {
      cause = has needs.auction auction _ a (has needs.bidder number (IsNoBidder seen.shelf auction number) (b ∙ is) none);
      frame = refused-frame needs auction (how.NoBidder number) seen (sources-are needs auction a l) reads (steady-counts (Tells needs (how.NoBidder number)) seen.shelf steady);
    }

-- settling

pub each-terms : (files : Option (List NamedFile)) (terms : Terms) (digest journals : List ℕ) (cs : List ClockHistory) → AllByRecursion (IsFromJournal files terms digest journals) cs → AllByRecursion (λ (c : ClockHistory). c.terms ≡ terms) cs
each-terms files terms digest journals [] all = tt
each-terms files terms digest journals (c ∷ cs) all = (terms-are (owner_of terms c.number digest) c all.0.history, each-terms files terms digest journals cs all.1)

pub clocks-of : (shelf : ShelfSeen) (auction journals : List ℕ) (terms : Terms) (cs : List ClockHistory) → AreHistories shelf auction journals terms cs → AreClocksOf terms cs
clocks-of shelf auction journals terms cs are = record { numbers = are.from_journals.numbers; terms_are = each-terms shelf.files terms are.digest journals cs are.from_journals.each }

pub settled-done : (auction journals : List ℕ) (json : Bool) (shelf : ShelfSeen) (terms : Terms) (cs : List ClockHistory) (text : List ℕ) → AreHistories shelf auction journals terms cs → IsSettledText terms cs json text
    → SettleDone auction journals json shelf text
settled-done auction journals json shelf terms cs text are is =
    record { outcome = is.outcome; settled = record { terms = terms; histories = cs; are = are; settlement = is.settlement }; text_is = is.text_is }

pub settled-end : (end : Ended) (auction journals : List ℕ) (seen : Outside) (terms : Terms) (cs : List ClockHistory) → AreHistories seen.shelf auction journals terms cs → IsSettledEnd terms cs end → MayEnd (settle_needs auction journals) seen end
settled-end how.NoMemory auction journals seen terms cs are is = tt
settled-end (how.Open clock round missing) auction journals seen terms cs are is = (refl, record { terms = terms; histories = cs; are = are; settlement = is })
settled-end (how.NoAward clock) auction journals seen terms cs are is = (refl, record { terms = terms; histories = cs; are = are; settlement = is })
settled-end (how.Halted clock good) auction journals seen terms cs are is = (refl, record { terms = terms; histories = cs; are = are; settlement = is })
settled-end end auction journals seen terms cs are is = absurd is

-- the settlement of clocks that a call was lent
pub settled-by : (terms : Terms) (cs ds : List ClockOf) (s t : Settlement) → ds ≡ cs → s ≡ t → IsOutcomeOf (histories ds) s
    → ((u : ℕ → List ℕ → ℤ) → ExplainsAll u (histories ds) → IsEfficientSettlement u terms s)
    → ((i : ℕ) (u : ℕ → List ℕ → ℤ) → IsAmongTruthful i u terms (histories ds) → IsChargedBy i u terms s) → IsSettlement terms (histories cs) t
settled-by terms cs ds s t same is outcome efficient charged =
    let P : List ClockOf → Type 0 = λ ks. IsSettlement terms (histories ks) s in
    let Q : Settlement → Type 0 = λ x. IsSettlement terms (histories cs) x in
    subst Q is (subst P same (record { outcome = outcome; efficient = efficient; charged = charged }))

pub settled-answer : (result : Result (Vec ℕ Global) Ended) (auction journals : List ℕ) (json : Bool) (seen : Outside) (terms : Terms) (cs : List ClockHistory) → AreHistories seen.shelf auction journals terms cs
    → IfOk result (λ text. IsSettledText terms cs json text.items) → IfErr result (IsSettledEnd terms cs) → ShelfAnswer (SettleDone auction journals json) (settle_needs auction journals) seen result
settled-answer (Ok text) auction journals json seen terms cs are done ends = settled-done auction journals json seen.shelf terms cs text.items are done
settled-answer (Err end) auction journals json seen terms cs are done ends = settled-end end auction journals seen terms cs are ends

pub opened-by : (auction journals : List ℕ) (first : ShelfSeen) (seen : Outside) (terms : Terms) (digest : List ℕ) (listing : Listing) (faults : List ℕ → ℕ) (names : List (List ℕ))
    → IsAuctionAt first auction listing → KeepsAll (IsJournal journals) first.files seen.shelf.files → IsTermsOf listing terms → digest ≡ listing.digest
    → ChangesNone seen.shelf.files_before first.files → names ≡ with_name auction seen.shelf.opened_before → ((name : List ℕ) → faults name ≡ seen.shelf.faults_before name)
    → Opened auction seen terms digest listing first.files faults names
opened-by auction journals first seen terms digest listing faults names is kept are digest_is read named steady = record {
  is = auction-then (IsJournal journals) first seen.shelf auction listing kept is;
  terms_are = are;
  digest_is = digest_is;
  read = read;
  first = named;
  steady = steady;
}

-- the terms of an auction that was read
pub terms-of : (auction : Auction) → IsTermsOf (listing_of auction) auction.terms
terms-of auction = record { version_is = refl; goods_are = refl; bidders_are = sym auction.named_bidders; ceiling_is = refl; opening_is = refl }
