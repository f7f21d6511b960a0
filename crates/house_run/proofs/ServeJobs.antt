-- The command serve: the auction is read, and then served on its journals.
use Rattle.std.proofs.Common.{◌≡◌, ◌∙◌, ◌+◌, ℕ, List, map, Option, Some, None, Ok, Err, arith, inl, inr, refl, sym, ap, subst}
use Rattle.std.specs.Prelude.{◌⊎◌}
use Rattle.clock.specs.Reports.{histories}
use Rattle.house_io.specs.Shelves.{NamedFile, IfTells, IfWasTold, ChangesNone, file_of, with_name}
use Rattle.auction_file.specs.AuctionFile.{Listing}
use Rattle.auction_file.specs.Listing.{listing_of}
use Rattle.auction_file.specs.declared.listing.Auction.{Auction}
use Rattle.house_run.specs.Causes.{FailedAt}
use Rattle.house_serve.specs.Houses.{DoorRun}
use Rattle.house_run.specs.ClockRuns.{ClockRun, NoneFailed}
use Rattle.house_io.specs.NetsShown.{DoorShown, LinkShown}
use Rattle.house_run.specs.Hosting.{IsNetEnd}
use Rattle.house_run.specs.Disks.{IsJournalBelow, KeepsOthers}
use Rattle.house_run.specs.Found.{as_found, found, told_first}
use Rattle.house_run.specs.Journals.{IsFirstRefused}
use Rattle.house_run.specs.Needs.{first_journals, journal_name, with_names}
use Rattle.command_line.specs.Parts.{Serving}
use Rattle.house_run.specs.NetEnds.{Ends, NetFrame}
use Rattle.house_run.specs.Nets.{NetSeen, IsNetUntouched}
use Rattle.house_run.specs.Seen.{Outside, ShelfSeen, IsAuctionAt}
use Rattle.house_run.specs.ServeCommand.{FailedSo, ServeDone, ServeFrame, ServedThen, serve_needs}
use Rattle.house_run.specs.ServeTexts.{serve_text}
use Rattle.house_run.specs.Serving.{AuctionNotServed, AuctionServed, JournalsServed, KeepsJournals, NotServing, ServesJournals}
use Rattle.house_run.specs.Steps.{EndsAtAuction, OnlyReads}
use Rattle.house_run.specs.declared.ends.Ended.{Ended}
use Rattle.house_run.specs.declared.ends.Ended.TheVariants as how
use Rattle.house_run.specs.declared.hosting.Hosted.{Hosted}
use Rattle.house_run.proofs.DiskSteps.{Keeps}
use Rattle.house_run.proofs.Framing.{opens-one}
use Rattle.house_run.proofs.HouseSteps.{terms-of}
use Rattle.house_run.proofs.JournalSteps.{later}
use Rattle.house_run.proofs.Rereading.{auction-reads, reads-first}

-- files that were not changed up to here

told-same : (a b : Option (List NamedFile)) → ChangesNone a b → told_first a b ≡ b
told-same a None same = refl
told-same a (Some b) same = same

first-told : (P : List NamedFile → List NamedFile → Type 0) (a b c : Option (List NamedFile)) → ChangesNone a b → IfTells c (λ after. IfWasTold b (λ before. P before after)) → IfTells c (λ after. IfWasTold a (λ before. P before after))
first-told P a b None same told = tt
first-told P a None (Some c) same told = absurd told
first-told P a (Some b) (Some c) same told = subst (λ (o : Option (List NamedFile)). IfWasTold o (λ before. P before c)) (sym same) told

told-firsts : (P : List ℕ → Type 0) (a b c : Option (List NamedFile)) → ChangesNone a b → Keeps P b c → told_first b c ≡ told_first a c
told-firsts P a b None same kept = refl
told-firsts P a None (Some c) same kept = absurd kept
told-firsts P a (Some b) (Some c) same kept = sym same

auction-found : (P : List ℕ → Type 0) (auction : List ℕ) (listing : Listing) (first shelf : ShelfSeen) → first.files_before ≡ shelf.files_before → ChangesNone shelf.files_before first.files → Keeps P first.files shelf.files → IsAuctionAt first auction listing → IsAuctionAt (found shelf) auction listing
auction-found P auction listing first shelf e same kept is =
    auction-reads first (found shelf) auction listing (reads-first (λ before after. (name : List ℕ) → (P name → ⊥) → file_of after name ≡ file_of before name) shelf.files_before first.files shelf.files same kept) is

-- the auction was refused

pub found-same : (seen : Outside) → ChangesNone seen.shelf.files_before seen.shelf.files → as_found seen ≡ seen
found-same seen same = λ i. record {
  shelf = record {
    files_before = seen.shelf.files_before;
    files = told-same seen.shelf.files_before seen.shelf.files same i;
    faults_before = seen.shelf.faults_before;
    faults = seen.shelf.faults;
    opened_before = seen.shelf.opened_before;
    opened = seen.shelf.opened;
  };
}

pub refused-answer : (auction journals : List ℕ) (s : Serving) (end : Ended) (seen : Outside) (net : NetSeen) → OnlyReads auction seen.shelf → EndsAtAuction auction seen end → Ends (serve_needs auction journals s) (as_found seen) net end
refused-answer auction journals s end seen net reads ends =
    subst (λ (x : Outside). Ends (serve_needs auction journals s) x net end) (sym (found-same seen reads.unchanged)) (inl (ends (serve_needs auction journals s) refl).cause)

pub refused-frame : (auction journals : List ℕ) (s : Serving) (end : Ended) (seen : Outside) (net : NetSeen) → IsNetUntouched net → OnlyReads auction seen.shelf → EndsAtAuction auction seen end → ServeFrame auction journals s end seen net
refused-frame auction journals s end seen net same reads ends =
    let counts = (ends (serve_needs auction journals s) refl).counts in
    record {
      names = inl (opens-one (serve_needs auction journals s) auction (found seen.shelf) refl reads.names);
      counts = record { later = counts.later; others = λ name not. counts.others name (λ t. not (inl t)) };
      left = inl (record { files_same = reads.unchanged; net_same = same });
    }

-- the auction was read: what is seen from then on is this part
pub record Read (auction : List ℕ) (value : Auction) (seen : Outside) (files : Option (List NamedFile)) (faults : List ℕ → ℕ) (names : List (List ℕ)) (first : ShelfSeen) : Type 0 where
  pub before_is : first.files_before ≡ seen.shelf.files_before
  pub is : IsAuctionAt first auction (listing_of value)
  pub files_are : first.files ≡ files
  pub read : ChangesNone seen.shelf.files_before files
  pub opened : names ≡ with_name auction seen.shelf.opened_before
  pub steady : (name : List ℕ) → faults name ≡ seen.shelf.faults_before name

module _ (auction journals : List ℕ) (s : Serving) (value : Auction) (seen : Outside) (files : Option (List NamedFile)) (faults : List ℕ → ℕ) (names : List (List ℕ)) (first : ShelfSeen) (r : Read auction value seen files faults names first) where
  is-found : KeepsOthers journals (value.terms.bidders + 1) files seen.shelf.files → IsAuctionAt (found seen.shelf) auction (listing_of value)
  is-found others =
      auction-found (IsJournalBelow journals (value.terms.bidders + 1)) auction (listing_of value) first seen.shelf r.before_is (subst (ChangesNone seen.shelf.files_before) (sym r.files_are) r.read)
      (subst (λ (o : Option (List NamedFile)). KeepsOthers journals (value.terms.bidders + 1) o seen.shelf.files) (sym r.files_are) others) r.is

  serve-frame : (end : Ended) (net : NetSeen) → KeepsJournals journals (value.terms.bidders + 1) (later seen.shelf files faults names) → ServedThen value journals s end seen.shelf net ⊎ AuctionNotServed value journals s seen.shelf net end
      → ServeFrame auction journals s end seen net
  serve-frame end net keeps left =
      let few = keeps.few in
      let bidders = (terms-of value).bidders_are in
      record {
        names = inr (record {
          listing = listing_of value;
          auction_is = is-found keeps.others;
          clocks = keeps.front;
          clocks_are = omega arith;
          names = keeps.names ∙ ap (with_names (first_journals journals keeps.front)) r.opened;
        });
        counts = record {
          later = λ name. let e = r.steady name in let l = keeps.counts.later name in omega arith;
          others = λ name not. keeps.counts.others name (λ b. not (inr (b.0, (let l = b.1 in let m = value.terms.bidders_in_range.at_most in omega arith), b.2))) ∙ r.steady name;
        };
        left = inr (record {
          value = value;
          auction_is = is-found keeps.others;
          others = first-told _ seen.shelf.files_before files seen.shelf.files r.read keeps.others;
          left = left;
        });
      }

  failed-then : (k : ℕ) → FailedAt (later seen.shelf files faults names) (journal_name journals k) → FailedAt seen.shelf (journal_name journals k)
  failed-then k failed = let e = r.steady (journal_name journals k) in omega arith

  -- the auction was served, from the first look at its file on
  served-then : (net : NetSeen) (clocks : List ClockRun) (doors : List (DoorRun DoorShown LinkShown)) → AuctionServed value journals s (later seen.shelf files faults names) net clocks doors → AuctionServed value journals s seen.shelf net clocks doors
  served-then net clocks doors served = record {
    ran = record {
      count_is = served.ran.count_is;
      clocks_are = served.ran.clocks_are;
      marks = λ k c below. let e = r.steady (journal_name journals k) in let m = served.ran.marks k c below in omega arith;
      journals_are = first-told _ seen.shelf.files_before files seen.shelf.files r.read served.ran.journals_are;
    };
    new = served.new;
    serving = served.serving;
    joins = served.joins;
  }

  -- it was not
  not-then : (end : Ended) (net : NetSeen) → KeepsJournals journals (value.terms.bidders + 1) (later seen.shelf files faults names) → AuctionNotServed value journals s (later seen.shelf files faults names) net end → AuctionNotServed value journals s seen.shelf net end
  not-then end net keeps not = record { left = first-told _ seen.shelf.files_before files seen.shelf.files r.read not.left; net_is = not.net_is; cause = cause not.cause }
    where
      cause : NotServing value journals (later seen.shelf files faults names) net end → NotServing value journals seen.shelf net end
      cause (inl fails) = inl (record { clock = fails.clock; end_is = fails.end_is; within = fails.within; failed = failed-then fails.clock fails.failed; untouched = fails.untouched })
      cause (inr (inl refused)) = inr (inl (record {
        clock = refused.clock;
        fault = refused.fault;
        end_is = refused.end_is;
        within = refused.within;
        first = subst (λ (o : Option (List NamedFile)). IsFirstRefused o value.terms value.digest journals refused.clock refused.fault)
            (told-firsts (IsJournalBelow journals (value.terms.bidders + 1)) seen.shelf.files_before files seen.shelf.files r.read keeps.others) refused.first;
        untouched = refused.untouched;
      }))
      cause (inr (inr ends)) = inr (inr ends)

  pub serve-done : (net : NetSeen) (hosted : Hosted) (text : List ℕ) → JournalsServed value journals s (later seen.shelf files faults names) net (Ok hosted)
      → text ≡ serve_text (map (λ ends. ends.items) hosted.ends.items) (histories hosted.clocks.items) → ServeDone auction journals s seen.shelf net text
  serve-done net hosted text served is = record {
    value = value;
    auction_is = is-found served.keeps.others;
    clocks = served.clocks;
    doors = served.doors;
    served = served-then net served.clocks served.doors served.served;
    none_failed = served.answer_is.none_failed;
    text_is = is ∙ (λ i. serve_text (served.answer_is.ends_are i) (served.answer_is.histories_are i));
  }

  -- the text of an auction that was served is written, or memory for it runs out
  pub done-frame : (end : Ended) (net : NetSeen) (hosted : Hosted) → JournalsServed value journals s (later seen.shelf files faults names) net (Ok hosted) → ((doors : List (DoorRun DoorShown LinkShown)) → NoneFailed doors → FailedSo end doors) → ServeFrame auction journals s end seen net
  done-frame end net hosted served so =
      serve-frame end net served.keeps (inl (record { clocks = served.clocks; doors = served.doors; served = served-then net served.clocks served.doors served.served; failed = so served.doors served.answer_is.none_failed }))

  failed-so : (end : Ended) (doors : List (DoorRun DoorShown LinkShown)) → end ≡ how.NetFault → (NoneFailed doors → ⊥) → FailedSo end doors
  failed-so end doors e some = let P : Ended → Type 0 = λ w. FailedSo w doors in subst P (sym e) some

  -- the auction was served and a door failed, or it was not served
  pub err-frame : (end : Ended) (net : NetSeen) → ServesJournals value journals s (later seen.shelf files faults names) net (Err end) → ServeFrame auction journals s end seen net
  err-frame end net (inl served) =
      serve-frame end net served.keeps (inl (record {
        clocks = served.clocks;
        doors = served.doors;
        served = served-then net served.clocks served.doors served.served;
        failed = failed-so end served.doors served.answer_is.cause.end_is served.answer_is.some_failed;
      }))
  err-frame end net (inr not) = serve-frame end net not.keeps (inr (not-then end net not.keeps not.not))

  by-net : (end : Ended) (net : NetSeen) → IsNetEnd net.faults_before net.faults end → Ends (serve_needs auction journals s) (as_found seen) net end
  by-net end net fault = let E : Ended → Type 0 = λ w. Ends (serve_needs auction journals s) (as_found seen) net w in subst E (sym fault.end_is) (inr (inl (inr tt, fault.rose)))

  pub err-answer : (end : Ended) (net : NetSeen) → ServesJournals value journals s (later seen.shelf files faults names) net (Err end) → Ends (serve_needs auction journals s) (as_found seen) net end
  err-answer end net (inl served) = by-net end net served.answer_is.cause
  err-answer end net (inr not) = of (not-then end net not.keeps not.not).cause
    where
      E : Ended → Type 0
      E w = Ends (serve_needs auction journals s) (as_found seen) net w

      of : NotServing value journals seen.shelf net end → E end
      of (inl fails) =
          let bidders = (terms-of value).bidders_are in
          let few = fails.within in
          subst E (sym fails.end_is) (inl (record { listing = listing_of value; auction_is = is-found not.keeps.others; has_bidder = tt; clock_is = omega arith; failed = fails.failed }))
      of (inr (inl refused)) = subst E (sym refused.end_is) (inl (record {
        terms = value.terms;
        digest = value.digest;
        on = record { listing = listing_of value; auction_is = is-found not.keeps.others; terms_are = terms-of value; digest_is = refl };
        has_bidder = tt;
        clock_is = refused.within;
        first = refused.first;
      }))
      of (inr (inr (inl fault))) = by-net end net fault
      of (inr (inr (inr memory))) = subst E (sym memory.end_is) (inl tt)

-- the net

pub steady-net : (auction journals : List ℕ) (s : Serving) (end : Ended) (net : NetSeen) → ((clock : ℕ) → end ≡ how.DiskFault clock → ⊥) → net.faults ≡ net.faults_before → NetFrame (serve_needs auction journals s) end net
steady-net auction journals s end net other same = record {
  quiet = λ differs. same;
  later = omega arith;
  untouched = λ no_bid no_serve. absurd (let no : ⊥ = cc in no);
  early = λ clock no_bid ended. absurd (other clock ended);
}

net-untouched : (auction journals : List ℕ) (s : Serving) (end : Ended) (net : NetSeen) → IsNetUntouched net → NetFrame (serve_needs auction journals s) end net
net-untouched auction journals s end net same = record {
  quiet = λ differs. same.1;
  later = (let e = same.1 in omega arith);
  untouched = λ no_bid no_serve. same;
  early = λ clock no_bid ended. same;
}

net-failed : (auction journals : List ℕ) (s : Serving) (end : Ended) (net : NetSeen) → IsNetEnd net.faults_before net.faults end → NetFrame (serve_needs auction journals s) end net
net-failed auction journals s end net fault = record {
  quiet = λ differs. absurd (differs fault.end_is);
  later = fault.later;
  untouched = λ no_bid no_serve. absurd (let no : ⊥ = cc in no);
  early = λ clock no_bid ended. absurd (let e : how.NetFault ≡ how.DiskFault clock = sym fault.end_is ∙ ended in cc e);
}

pub net-left : (auction journals : List ℕ) (s : Serving) (value : Auction) (shelf : ShelfSeen) (end : Ended) (net : NetSeen) → ServesJournals value journals s shelf net (Err end) → NetFrame (serve_needs auction journals s) end net
net-left auction journals s value shelf end net (inl served) = net-failed auction journals s end net served.answer_is.cause
net-left auction journals s value shelf end net (inr not) = of not.not.cause
  where
    of : NotServing value journals shelf net end → NetFrame (serve_needs auction journals s) end net
    of (inl fails) = net-untouched auction journals s end net fails.untouched
    of (inr (inl refused)) = net-untouched auction journals s end net refused.untouched
    of (inr (inr (inl fault))) = net-failed auction journals s end net fault
    of (inr (inr (inr memory))) = steady-net auction journals s end net (λ clock ended. (let e : how.NoMemory ≡ how.DiskFault clock = sym memory.end_is ∙ ended in cc e)) memory.steady
