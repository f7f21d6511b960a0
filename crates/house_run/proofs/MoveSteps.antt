-- What a migration reads before it opens a target, and how its parts make the whole.
use Rattle.std.proofs.Common.{◌≡◌, ◌≢◌, ◌∙◌, ◌<◌, ◌≤◌, ◌+◌, ℕ, zero, suc, List, [], ◌∷◌, length, map, take, get_or, Option, Some, None, arith, inl, inr, refl, sym, ap, subst}
use Rattle.std.specs.List.{flat_map, range_with_len}
use Rattle.std.proofs.lemmas.List.Elements.{All-from_recursion}
use Rattle.house_io.specs.Faults.{Rose}
use Rattle.house_io.specs.Moments.{Moments}
use Rattle.house_io.specs.Shelves.{NamedFile, IfTells, IfWasTold, ChangesNone, file_of, moments_at, with_name}
use Rattle.lot_base.specs.Goods.{zeros}
use Rattle.lot_base.specs.declared.limits.TheConstants.{MOST_BIDDERS}
use Rattle.lot_base.specs.declared.auction_terms.Terms.{Terms}
use Rattle.auction_file.specs.AuctionFile.{Listing}
use Rattle.auction_file.specs.Listing.{listing_of}
use Rattle.auction_file.specs.declared.listing.Auction.{Auction}
use Rattle.clock.specs.Reports.{ClockHistory}
use Rattle.recovery.specs.Journaled.{owner_of}
use Rattle.clock_book.specs.Opening.{StandsForHistory}
use Rattle.clock_book.specs.declared.faults.OpenFault.{OpenFault}
use Rattle.clock_book.specs.declared.faults.OpenFault.TheVariants as why
use Rattle.migration.specs.Moving.{AreAlike, AreClocksAs, IsFront, IsMoved, IsNoFrontAt, IsSameAuction, LeavesTarget}
use Rattle.house_run.specs.Causes.{MayEnd, Tells}
use Rattle.house_run.specs.Disks.{IsJournalBelow}
use Rattle.house_run.specs.Found.{as_found, found, told_first}
use Rattle.house_run.specs.Frame.{KeepsAll, KeepsContents, OnlySynced, RisesAmong}
use Rattle.house_run.specs.Journals.{AreFromJournals, IsBadJournal, IsFirstRefused, IsTermsOf}
use Rattle.house_run.specs.MigrateCommand.{MigrateDone, MigrateFrame, MovesFiles, TellsJournal, TellsLeft, migrate_needs, moved_line}
use Rattle.house_run.specs.MoveSteps.{AreFilesRead, IsMoveRead, StopsMoving}
use Rattle.house_run.specs.MoveEnds.{MayReadSecond}
use Rattle.house_run.specs.Moves.{IsMove, IsSameListing}
use Rattle.house_run.specs.MovingJournals.{JournalsMoved, JournalsNotMoved, KeepsTargets, NotMoving}
use Rattle.house_run.specs.Needs.{IsJournal, IsSource, Needs, first_journals, journal_name, nothing_needed, with_names}
use Rattle.house_run.specs.NetEnds.{Ends}
use Rattle.house_run.specs.Nets.{NetSeen}
use Rattle.house_run.specs.Seen.{IsAuctionAt, Outside, ShelfSeen, auction_limit}
use Rattle.house_run.specs.Status.{end_at}
use Rattle.house_run.specs.Steps.{EndsAtAuction, EndsAtJournal, IsSteady, OnlyReads, OpensOnly, SyncsFirst, SyncsJournals}
use Rattle.house_run.specs.declared.ends.Ended.{Ended}
use Rattle.house_run.specs.declared.ends.Ended.TheVariants as how
use Rattle.house_run.specs.declared.ends.File.TheVariants as which
use Rattle.house_run.proofs.Closing.{none-changed}
use Rattle.house_run.proofs.DiskSteps.{earlier, moments-same}
use Rattle.house_run.proofs.Framing.{counts-then, kept-then, names-then, none-kept, steady-counts}
use Rattle.house_run.proofs.HouseSteps.{each-terms, terms-of}
use Rattle.house_run.proofs.JournalNames.{prefixes-differ}
use Rattle.house_run.proofs.JournalSteps.{later}
use Rattle.house_run.proofs.Rereading.{Reads, auction-reads, journals-reads, read-reads, reads-all, reads-back, reads-first, reads-on, reads-same, reads-since, reads-told, refused-reads}
use Rattle.house_run.proofs.ServeJobs.{found-same}

-- the files that a migration reads

-- what a command needs that reads this auction file alone
abbrev alone : List ℕ → Needs
alone auction = record nothing_needed { auction = Some auction }

-- an end that every command with an auction file may have tells of no journal
file-early : (auction : List ℕ) (seen : Outside) (end : Ended) → EndsAtAuction auction seen end → TellsJournal end → ⊥
file-early auction seen end ends (clock, inl is) =
    let may : MayEnd (alone auction) seen (how.DiskFault clock) = subst (λ (e : Ended). MayEnd (alone auction) seen e) is (ends (alone auction) refl).cause in may
file-early auction seen end ends (clock, inr (fault, is)) =
    let may : MayEnd (alone auction) seen (how.BadJournal clock fault) = subst (λ (e : Ended). MayEnd (alone auction) seen e) is (ends (alone auction) refl).cause in may

module _ (old journals new target : List ℕ) (seen : Outside) where
  -- it stopped while it read them
  stopped : (end : Ended) (count : ℕ) → (TellsJournal end → ⊥) → ((net : NetSeen) → Ends (migrate_needs old journals new target) (as_found seen) net end)
      → seen.shelf.opened ≡ with_names (take count (old ∷ new ∷ [])) seen.shelf.opened_before → RisesAmong (Tells (migrate_needs old journals new target) end) seen.shelf.faults_before seen.shelf.faults
      → ChangesNone seen.shelf.files_before seen.shelf.files → StopsMoving old journals new target seen end
  stopped end count early cause names counts same = record {
    cause = cause;
    frame = record {
      names = inl (inl (record { count = count; names = names }));
      second = λ tells. absurd (early tells);
      counts = record { later = counts.later; others = λ name not. counts.others name (λ t. not (inl t)) };
      files = inl (none-kept (IsJournal journals) seen.shelf.files_before seen.shelf.files same);
    };
  }

  -- the first was refused
  pub first-stops : (end : Ended) → OnlyReads old seen.shelf → EndsAtAuction old seen end → StopsMoving old journals new target seen end
  first-stops end reads ends = of reads.names
    where
      cause : (net : NetSeen) → Ends (migrate_needs old journals new target) (as_found seen) net end
      cause net = subst (λ (x : Outside). Ends (migrate_needs old journals new target) x net end) (sym (found-same seen reads.unchanged)) (inl (ends (migrate_needs old journals new target) refl).cause)

      of : OpensOnly old seen.shelf.opened_before seen.shelf.opened → StopsMoving old journals new target seen end
      of (inl same) = stopped end 0 (file-early old seen end ends) cause same (ends (migrate_needs old journals new target) refl).counts reads.unchanged
      of (inr opened) = stopped end 1 (file-early old seen end ends) cause opened (ends (migrate_needs old journals new target) refl).counts reads.unchanged

source-of : (old journals new target name : List ℕ) → IsSource (alone new) name → IsSource (migrate_needs old journals new target) name
source-of old journals new target name (inl is) = inr (inr (inr is))
source-of old journals new target name (inr (inl none)) = absurd none
source-of old journals new target name (inr (inr (inl none))) = absurd none
source-of old journals new target name (inr (inr (inr none))) = absurd none

tells-of : (end : Ended) (old journals new target name : List ℕ) → Tells (alone new) end name → Tells (migrate_needs old journals new target) end name
tells-of how.ReadFault old journals new target name tells = source-of old journals new target name tells
tells-of (how.DiskFault clock) old journals new target name tells = absurd tells
tells-of end old journals new target name tells = tells

-- where the first file was read, what is seen from then on is this part
pub record OldRead (old : List ℕ) (shelf : ShelfSeen) (files : Option (List NamedFile)) (faults : List ℕ → ℕ) (names : List (List ℕ)) : Type 0 where
  pub unchanged : ChangesNone shelf.files_before files
  pub steady : (name : List ℕ) → faults name ≡ shelf.faults_before name
  pub opened : names ≡ with_name old shelf.opened_before

module _ (old journals new target : List ℕ) (seen : Outside) (files : Option (List NamedFile)) (faults : List ℕ → ℕ) (names : List (List ℕ)) (r : OldRead old seen.shelf files faults names) (reads : OnlyReads new (later seen.shelf files faults names)) where
  both-unchanged : ChangesNone seen.shelf.files_before seen.shelf.files
  both-unchanged = none-changed seen.shelf.files_before files seen.shelf.files r.unchanged reads.unchanged

  first-found : (listing : Listing) (one : ShelfSeen) → one.files ≡ files → IsAuctionAt one old listing → IsAuctionAt (found seen.shelf) old listing
  first-found listing one one-is old_is =
      let kept = none-kept (λ _. ⊥) files seen.shelf.files reads.unchanged in
      let same : Reads files (told_first seen.shelf.files_before seen.shelf.files) = reads-first (KeepsContents (λ _. ⊥)) seen.shelf.files_before files seen.shelf.files r.unchanged kept in
      auction-reads one (found seen.shelf) old listing (subst (λ (o : Option (List NamedFile)). Reads o (told_first seen.shelf.files_before seen.shelf.files)) (sym one-is) same) old_is

  second-cause : (end : Ended) (net : NetSeen) → MayReadSecond (found seen.shelf) old → MayEnd (alone new) (record { shelf = later seen.shelf files faults names }) end → Ends (migrate_needs old journals new target) (as_found seen) net end
  second-cause how.NoMemory net first may = inl tt
  second-cause how.ReadFault net first may = inl (record {
    name = may.name;
    source = source-of old journals new target may.name may.source;
    failed = subst (λ (n : ℕ). Rose n (seen.shelf.faults may.name)) (r.steady may.name) may.failed;
  })
  second-cause (how.BadAuction fault) net first may = inr (inr (
    first,
    record {
      read = may.read;
      is_read = read-reads (later seen.shelf files faults names) (found seen.shelf) new auction_limit may.read (reads-same seen.shelf.files_before seen.shelf.files both-unchanged) may.is_read;
      says = may.says;
      other = may.other;
    },
  ))
  second-cause (how.TooLong which.Auction) net first may =
      inr (inr (first, reads-told (λ bytes. auction_limit < length bytes) new seen.shelf.files (told_first seen.shelf.files_before seen.shelf.files) (reads-same seen.shelf.files_before seen.shelf.files both-unchanged) may))
  second-cause (how.Open clock round missing) net first may = absurd may.1
  second-cause (how.NoAward clock) net first may = absurd may.1
  second-cause (how.Halted clock good) net first may = absurd may.1
  second-cause (how.NotSubstitutes bidder x y good) net first may = absurd may.1
  second-cause end net first may = absurd may

  -- the second was refused
  pub second-stops : (end : Ended) (listing : Listing) (one : ShelfSeen) → one.files ≡ files → IsAuctionAt one old listing → EndsAtAuction new (record { shelf = later seen.shelf files faults names }) end → StopsMoving old journals new target seen end
  second-stops end listing one one-is old_is ends = of reads.names
    where
      counts : RisesAmong (Tells (migrate_needs old journals new target) end) seen.shelf.faults_before seen.shelf.faults
      counts =
          let is = (ends (alone new) refl).counts in
          record {
            later = λ name. let e = r.steady name in let l = is.later name in omega arith;
            others = λ name not. is.others name (λ t. not (tells-of end old journals new target name t)) ∙ r.steady name;
          }

      cause : (net : NetSeen) → Ends (migrate_needs old journals new target) (as_found seen) net end
      cause net = second-cause end net (listing, first-found listing one one-is old_is) (ends (alone new) refl).cause

      early : TellsJournal end → ⊥
      early = file-early new (record { shelf = later seen.shelf files faults names }) end ends

      of : OpensOnly new names seen.shelf.opened → StopsMoving old journals new target seen end
      of (inl same) = stopped old journals new target seen end 1 early cause (same ∙ r.opened) counts both-unchanged
      of (inr opened) = stopped old journals new target seen end 2 early cause (opened ∙ ap (with_name new) r.opened) counts both-unchanged

  module _ (first second : Auction) (one : ShelfSeen) (one-is : one.files ≡ files) (old_is : IsAuctionAt one old (listing_of first)) (new_is : IsAuctionAt (later seen.shelf files faults names) new (listing_of second))
      (steady : IsSteady (later seen.shelf files faults names)) (opened : seen.shelf.opened ≡ with_name new names) where
    old-found : IsAuctionAt (found seen.shelf) old (listing_of first)
    old-found = first-found (listing_of first) one one-is old_is

    new-found : IsAuctionAt (found seen.shelf) new (listing_of second)
    new-found = auction-reads (later seen.shelf files faults names) (found seen.shelf) new (listing_of second) (reads-same seen.shelf.files_before seen.shelf.files both-unchanged) new_is

    both-steady : IsSteady seen.shelf
    both-steady name = steady name ∙ r.steady name

    -- both were read
    pub files-read : IsSameAuction first second → AreFilesRead old new first second seen.shelf
    files-read same = record {
      old_is = old-found;
      new_is = new-found;
      same = record {
        good_names = same.good_names;
        bidder_names = same.bidder_names;
        tokens = same.token_digests;
        supply = same.terms.goods;
        ceiling = same.terms.ceiling;
        version = same.terms.version;
        opens_at_zero = same.terms.opens;
        goes_on_at_zero = same.terms.opens_anew;
      };
      unchanged = both-unchanged;
      steady = both-steady;
      names = opened ∙ ap (with_name new) r.opened;
    }

    -- and the auction can't go on under the second
    pub terms-stop : (IsSameAuction first second → ⊥) → StopsMoving old journals new target seen how.OtherTerms
    terms-stop other = stopped old journals new target seen how.OtherTerms 2 early cause (opened ∙ ap (with_name new) r.opened) (steady-counts (Tells (migrate_needs old journals new target) how.OtherTerms) seen.shelf both-steady) both-unchanged
      where
        early : TellsJournal how.OtherTerms → ⊥
        early (clock, inl is) = let no : ⊥ = cc in no
        early (clock, inr (fault, is)) = let no : ⊥ = cc in no

        cause : (net : NetSeen) → Ends (migrate_needs old journals new target) (as_found seen) net how.OtherTerms
        cause net = inr (inr (record {
          first = listing_of first;
          second = listing_of second;
          old_is = old-found;
          new_is = new-found;
          other = λ same. other (record {
            terms = record {
              version = same.version;
              goods = same.supply;
              bidders = sym second.named_bidders ∙ ap length same.bidder_names ∙ first.named_bidders;
              ceiling = same.ceiling;
              opens = same.opens_at_zero;
              opens_anew = same.goes_on_at_zero;
            };
            good_names = same.good_names;
            bidder_names = same.bidder_names;
            token_digests = same.tokens;
          });
        }))

-- the journals that it reads

module _ (old journals new : List ℕ) (first second : Auction) (seen : Outside) (files : Option (List NamedFile)) (faults : List ℕ → ℕ) (names : List (List ℕ)) (r : AreFilesRead old new first second (earlier seen.shelf files faults names)) where
  whole-kept : KeepsAll (IsJournal journals) files seen.shelf.files → KeepsAll (IsJournal journals) seen.shelf.files_before seen.shelf.files
  whole-kept kept = kept-then (IsJournal journals) (IsJournal journals) seen.shelf.files_before files seen.shelf.files (λ name is. is) (none-kept (IsJournal journals) seen.shelf.files_before files r.unchanged) kept

  found-then : KeepsAll (IsJournal journals) files seen.shelf.files → Reads (told_first seen.shelf.files_before files) (told_first seen.shelf.files_before seen.shelf.files)
  found-then kept = reads-on (KeepsContents (IsJournal journals)) seen.shelf.files_before files seen.shelf.files kept

  old-then : KeepsAll (IsJournal journals) files seen.shelf.files → IsAuctionAt (found seen.shelf) old (listing_of first)
  old-then kept = auction-reads (found (earlier seen.shelf files faults names)) (found seen.shelf) old (listing_of first) (found-then kept) r.old_is

  new-then : KeepsAll (IsJournal journals) files seen.shelf.files → IsAuctionAt (found seen.shelf) new (listing_of second)
  new-then kept = auction-reads (found (earlier seen.shelf files faults names)) (found seen.shelf) new (listing_of second) (found-then kept) r.new_is

  names-read : (count : ℕ) → SyncsFirst journals count (later seen.shelf files faults names) → seen.shelf.opened ≡ with_names (old ∷ new ∷ first_journals journals count) seen.shelf.opened_before
  names-read count synced = synced.names ∙ ap (with_names (first_journals journals count)) r.names ∙ sym (names-then (old ∷ new ∷ []) (first_journals journals count) seen.shelf.opened_before)

  -- all of them
  pub move-read : (cs : List ClockHistory) → SyncsFirst journals (first.terms.bidders + 1) (later seen.shelf files faults names) → IsSteady (later seen.shelf files faults names)
      → AreFromJournals seen.shelf.files first.terms first.digest journals (first.terms.bidders + 1) cs → IsMoveRead old journals new second cs seen.shelf
  move-read cs synced steady are = record {
    move = record {
      first = listing_of first;
      second = listing_of second;
      old_is = old-then synced.files;
      new_is = new-then synced.files;
      same = r.same;
      before = first.terms;
      before_are = terms-of first;
      terms_are = terms-of second;
      digest_is = refl;
      from_journals = journals-reads seen.shelf.files (told_first seen.shelf.files_before seen.shelf.files) first.terms first.digest journals (first.terms.bidders + 1) cs
          (reads-back (IsJournal journals) seen.shelf.files_before seen.shelf.files (whole-kept synced.files)) are;
    };
    files = whole-kept synced.files;
    steady = λ name. steady name ∙ r.steady name;
    names = names-read (first.terms.bidders + 1) synced ∙ ap (λ n. with_names (old ∷ new ∷ first_journals journals (n + 1)) seen.shelf.opened_before) (terms-of first).bidders_are;
  }

  module _ (target : List ℕ) (synced : SyncsJournals journals (first.terms.bidders + 1) (later seen.shelf files faults names)) where
    journals-frame : (end : Ended) → RisesAmong (Tells (migrate_needs old journals new target) end) seen.shelf.faults_before seen.shelf.faults → MigrateFrame old journals new target end seen
    journals-frame end counts = record {
      names = inl (inr (record {
        listing = listing_of first;
        auction_is = old-then synced.synced.files;
        clocks = synced.count;
        clocks_are = (let e = (terms-of first).bidders_are in let f = synced.few in omega arith);
        names = names-read synced.count synced.synced;
      }));
      second = λ tells. record {
        first = listing_of first;
        second = listing_of second;
        old_is = old-then synced.synced.files;
        new_is = new-then synced.synced.files;
        same = r.same;
      };
      counts = record { later = counts.later; others = λ name not. counts.others name (λ t. not (inl t)) };
      files = inl (whole-kept synced.synced.files);
    }

    refused-frame : (clock : ℕ) (fault : OpenFault) → IsSteady (later seen.shelf files faults names) → MigrateFrame old journals new target (how.BadJournal clock fault) seen
    refused-frame clock fault steady =
        journals-frame (how.BadJournal clock fault) (steady-counts (Tells (migrate_needs old journals new target) (how.BadJournal clock fault)) seen.shelf (λ name. steady name ∙ r.steady name))

    bad-journal : (clock : ℕ) (fault : OpenFault) → clock ≤ first.terms.bidders → IsFirstRefused seen.shelf.files first.terms first.digest journals clock fault → IsBadJournal old journals None clock fault (found seen.shelf)
    bad-journal clock fault few bad = record {
      terms = first.terms;
      digest = first.digest;
      on = record { listing = listing_of first; auction_is = old-then synced.synced.files; terms_are = terms-of first; digest_is = refl };
      has_bidder = tt;
      clock_is = few;
      first = refused-reads seen.shelf.files (told_first seen.shelf.files_before seen.shelf.files) first.terms first.digest journals clock fault
          (reads-back (IsJournal journals) seen.shelf.files_before seen.shelf.files (whole-kept synced.synced.files)) bad;
    }

    -- not all of them
    pub journals-stop : (fault : OpenFault) (clock : ℕ) → clock ≤ first.terms.bidders → EndsAtJournal (later seen.shelf files faults names) first.terms first.digest journals clock fault
        → StopsMoving old journals new target seen (end_at clock fault)
    journals-stop why.DiskFault clock few ends = record {
      cause = λ net. inl (record {
        listing = listing_of first;
        auction_is = old-then synced.synced.files;
        has_bidder = tt;
        clock_is = (let e = (terms-of first).bidders_are in omega arith);
        failed = subst (λ (n : ℕ). Rose n (seen.shelf.faults (journal_name journals clock))) (r.steady (journal_name journals clock)) ends.failed;
      });
      frame = journals-frame (how.DiskFault clock) (counts-then (λ name. name ≡ journal_name journals clock) seen.shelf faults r.steady ends.counts);
    }
    journals-stop why.NoMemory clock few ends = record {
      cause = λ net. inl tt;
      frame = journals-frame how.NoMemory (steady-counts (Tells (migrate_needs old journals new target) how.NoMemory) seen.shelf (λ name. ends name ∙ r.steady name));
    }
    journals-stop (why.Broken broken) clock few ends =
        record { cause = λ net. inl (bad-journal clock (why.Broken broken) few ends.1); frame = refused-frame clock (why.Broken broken) ends.0 }
    journals-stop (why.NotAcceptable number judgement) clock few ends =
        record { cause = λ net. inl (bad-journal clock (why.NotAcceptable number judgement) few ends.1); frame = refused-frame clock (why.NotAcceptable number judgement) ends.0 }

-- the clocks of the journals

pub number-at : (n a : ℕ) (cs : List ClockHistory) (k : ℕ) (c : ClockHistory) → map (λ (h : ClockHistory). h.number) cs ≡ range_with_len a n → k < length cs → (get_or cs k c).number ≡ a + k
number-at n a [] k c are below = absurd (omega (arith, below))
number-at zero a (h ∷ cs) k c are below = absurd (let no : ⊥ = cc in no)
number-at (suc n) a (h ∷ cs) zero c are below = let here : h.number ≡ a = cc in here ∙ (let e : a ≡ a + 0 = omega arith in e)
number-at (suc n) a (h ∷ cs) (suc k) c are below =
    let rest : map (λ (x : ClockHistory). x.number) cs ≡ range_with_len (a + 1) n = cc in
    number-at n (a + 1) cs k c rest (omega (arith, below)) ∙ (let e : a + 1 + k ≡ a + suc k = omega arith in e)

pub many : (n a : ℕ) (cs : List ClockHistory) → map (λ (h : ClockHistory). h.number) cs ≡ range_with_len a n → length cs ≡ n
many zero a [] are = refl
many zero a (h ∷ cs) are = absurd (let no : ⊥ = cc in no)
many (suc n) a [] are = absurd (let no : ⊥ = cc in no)
many (suc n) a (h ∷ cs) are =
    let rest : map (λ (x : ClockHistory). x.number) cs ≡ range_with_len (a + 1) n = cc in
    ap (λ m. suc m) (many n (a + 1) cs rest)

same-bidders : (shelf : ShelfSeen) (old journals new : List ℕ) (cs : List ClockHistory) (terms : Terms) (digest : List ℕ) → (move : IsMove shelf old journals new cs terms digest) → terms.bidders ≡ move.before.bidders
same-bidders shelf old journals new cs terms digest move = move.terms_are.bidders_are ∙ ap length move.same.bidder_names ∙ sym move.before_are.bidders_are

pub alike-terms : (first second : Listing) (before terms : Terms) → IsSameListing first second → IsTermsOf first before → IsTermsOf second terms → AreAlike before terms
alike-terms first second before terms same one two = record {
  goods = two.goods_are ∙ same.supply ∙ sym one.goods_are;
  bidders = two.bidders_are ∙ ap length same.bidder_names ∙ sym one.bidders_are;
  ceiling = two.ceiling_is ∙ same.ceiling ∙ sym one.ceiling_is;
  opening = two.opening_is ∙ same.goes_on_at_zero ∙ ap zeros same.supply ∙ sym same.opens_at_zero ∙ sym one.opening_is;
}

pub clocks-as : (shelf : ShelfSeen) (old journals new : List ℕ) (cs : List ClockHistory) (terms : Terms) (digest : List ℕ) → IsMove shelf old journals new cs terms digest → AreClocksAs terms cs
clocks-as shelf old journals new cs terms digest move = record {
  count = many (move.before.bidders + 1) 0 cs move.from_journals.numbers ∙ (let e = same-bidders shelf old journals new cs terms digest move in let t : move.before.bidders + 1 ≡ terms.bidders + 1 = omega arith in t);
  each = λ k c below. (
    subst (λ (t : Terms). AreAlike t terms)
        (sym (All-from_recursion (λ (h : ClockHistory). h.terms ≡ move.before) cs (each-terms shelf.files move.before move.first.digest journals cs move.from_journals.each) k c below))
        (alike-terms move.first move.second move.before terms move.same move.before_are move.terms_are),
    number-at (move.before.bidders + 1) 0 cs k c move.from_journals.numbers below ∙ (let e : 0 + k ≡ k = omega arith in e),
  );
}

-- the targets, after what was read

-- what is said of the moments of targets, which were not touched at first
target-then : (journals target : List ℕ) (n : ℕ) (Q : ℕ → ClockHistory → Moments → Moments → Type 0) (a b c : Option (List NamedFile)) → journals ≢ target → n ≤ MOST_BIDDERS → KeepsAll (IsJournal journals) a b
    → IfTells c (λ after. IfWasTold b (λ before. (k : ℕ) (h : ClockHistory) → k ≤ n → Q k h (moments_at before (journal_name target k)) (moments_at after (journal_name target k))))
    → IfTells c (λ after. IfWasTold a (λ before. (k : ℕ) (h : ClockHistory) → k ≤ n → Q k h (moments_at before (journal_name target k)) (moments_at after (journal_name target k))))
target-then journals target n Q a b None other few kept told = tt
target-then journals target n Q a None (Some c) other few kept told = absurd told
target-then journals target n Q None (Some b) (Some c) other few kept told = absurd kept
target-then journals target n Q (Some a) (Some b) (Some c) other few kept told = λ k h below.
    let name = journal_name target k in
    let apart : IsJournal journals name → ⊥ = λ is. prefixes-differ journals target name other is (k, (omega arith), refl) in
    subst (λ (m : Moments). Q k h m (moments_at c name)) (moments-same a b name (kept.same name apart)) (told k h below)

others-then : (journals target : List ℕ) (n : ℕ) (a b c : Option (List NamedFile)) → KeepsAll (IsJournal journals) a b
    → IfTells c (λ after. IfWasTold b (λ before. (name : List ℕ) → (IsJournalBelow target n name → ⊥) → file_of after name ≡ file_of before name))
    → IfTells c (λ after. IfWasTold a (λ before. (name : List ℕ) → (IsJournal journals name → ⊥) → (IsJournalBelow target n name → ⊥) → file_of after name ≡ file_of before name))
others-then journals target n a b None kept told = tt
others-then journals target n a None (Some c) kept told = absurd told
others-then journals target n None (Some b) (Some c) kept told = absurd kept
others-then journals target n (Some a) (Some b) (Some c) kept told = λ name not_old not_new. told name not_new ∙ kept.same name not_old

synced-then : (journals target : List ℕ) (n : ℕ) (a b c : Option (List NamedFile)) → journals ≢ target → n ≤ MOST_BIDDERS + 1 → KeepsAll (IsJournal journals) a b
    → IfTells c (λ after. IfWasTold b (λ before. (name : List ℕ) → (IsJournalBelow target n name → ⊥) → file_of after name ≡ file_of before name))
    → IfTells c (λ after. IfWasTold a (λ before. (name : List ℕ) → IsJournal journals name → OnlySynced (moments_at before name) (moments_at after name)))
synced-then journals target n a b None other few kept told = tt
synced-then journals target n a None (Some c) other few kept told = absurd told
synced-then journals target n None (Some b) (Some c) other few kept told = absurd kept
synced-then journals target n (Some a) (Some b) (Some c) other few kept told = λ name is.
    let same = told name (λ b. prefixes-differ journals target name other is (b.0, (let l = b.1 in omega arith), b.2)) in
    subst (OnlySynced (moments_at a name)) (sym (moments-same b c name same)) (kept.synced name)

module _ (old journals new target : List ℕ) (second : Auction) (cs : List ClockHistory) (seen : Outside) (files : Option (List NamedFile)) (faults : List ℕ → ℕ) (names : List (List ℕ)) (other : journals ≢ target)
    (r : IsMoveRead old journals new second cs (earlier seen.shelf files faults names)) where
  few-bidders : second.terms.bidders ≤ MOST_BIDDERS
  few-bidders = let m = second.terms.bidders_in_range.at_most in omega arith

  module _ (end : Ended) (keeps : KeepsTargets second cs target (later seen.shelf files faults names) end) where
    found-still : Reads (told_first seen.shelf.files_before files) (told_first seen.shelf.files_before seen.shelf.files)
    found-still = reads-on (λ before after. (name : List ℕ) → (IsJournalBelow target (second.terms.bidders + 1) name → ⊥) → file_of after name ≡ file_of before name) seen.shelf.files_before files seen.shelf.files keeps.others

    since-still : Reads (told_first files seen.shelf.files) (told_first seen.shelf.files_before seen.shelf.files)
    since-still = reads-since (IsJournal journals) (λ before after. (name : List ℕ) → (IsJournalBelow target (second.terms.bidders + 1) name → ⊥) → file_of after name ≡ file_of before name) seen.shelf.files_before files seen.shelf.files r.files keeps.others

    old-still : IsAuctionAt (found seen.shelf) old r.move.first
    old-still = auction-reads (found (earlier seen.shelf files faults names)) (found seen.shelf) old r.move.first found-still r.move.old_is

    new-still : IsAuctionAt (found seen.shelf) new r.move.second
    new-still = auction-reads (found (earlier seen.shelf files faults names)) (found seen.shelf) new r.move.second found-still r.move.new_is

    pub move-still : IsMove (found seen.shelf) old journals new cs second.terms second.digest
    move-still = record {
      first = r.move.first;
      second = r.move.second;
      old_is = old-still;
      new_is = new-still;
      same = r.move.same;
      before = r.move.before;
      before_are = r.move.before_are;
      terms_are = r.move.terms_are;
      digest_is = r.move.digest_is;
      from_journals = journals-reads (told_first seen.shelf.files_before files) (told_first seen.shelf.files_before seen.shelf.files) r.move.before r.move.first.digest journals (r.move.before.bidders + 1) cs found-still r.move.from_journals;
    }

    moves-files : MovesFiles old journals new target end seen.shelf
    moves-files = record {
      histories = cs;
      terms = second.terms;
      digest = second.digest;
      move = move-still;
      others = others-then journals target (second.terms.bidders + 1) seen.shelf.files_before files seen.shelf.files r.files keeps.others;
      synced = synced-then journals target (second.terms.bidders + 1) seen.shelf.files_before files seen.shelf.files other (let l = few-bidders in omega arith) r.files keeps.others;
      left = target-then journals target second.terms.bidders (λ k h m n. LeavesTarget (owner_of second.terms k second.digest) (get_or cs k h).reports m n) seen.shelf.files_before files seen.shelf.files other few-bidders r.files keeps.left;
      told = target-then journals target second.terms.bidders (λ k h m n. TellsLeft end (owner_of second.terms k second.digest) k (get_or cs k h).reports m n) seen.shelf.files_before files seen.shelf.files other few-bidders r.files keeps.told;
    }

    pub targets-frame : MigrateFrame old journals new target end seen
    targets-frame = record {
      names = inr (record {
        listing = r.move.first;
        auction_is = old-still;
        front = keeps.front;
        few = (let f = keeps.few in let e = r.move.terms_are.bidders_are in let l = ap length r.move.same.bidder_names in omega arith);
        names = keeps.names ∙ ap (with_names (first_journals target keeps.front)) r.names
            ∙ sym (names-then (old ∷ new ∷ first_journals journals (length r.move.first.bidder_names + 1)) (first_journals target keeps.front) seen.shelf.opened_before);
      });
      second = λ tells. record {
        first = r.move.first;
        second = r.move.second;
        old_is = old-still;
        new_is = new-still;
        same = r.move.same;
      };
      counts = record {
        later = λ name. let e = r.steady name in let l = keeps.counts.later name in omega arith;
        others = λ name not. keeps.counts.others name (λ t. not (inr t)) ∙ r.steady name;
      };
      files = inr moves-files;
    }

  pub moved-done : (text : List ℕ) → JournalsMoved second cs target (later seen.shelf files faults names) → text ≡ flat_map moved_line cs → MigrateDone old journals new target seen.shelf text
  moved-done text moved is = record {
    histories = cs;
    terms = second.terms;
    digest = second.digest;
    move = move-still how.Done moved.keeps;
    moved = target-then journals target second.terms.bidders (λ k h m n. IsMoved (owner_of second.terms k second.digest) (get_or cs k h).reports m n) seen.shelf.files_before files seen.shelf.files other few-bidders r.files moved.moved;
    text_is = is;
  }

  pub not-moved : (end : Ended) (net : NetSeen) → JournalsNotMoved second cs target (later seen.shelf files faults names) end → Ends (migrate_needs old journals new target) (as_found seen) net end
  not-moved end net not = of end not.cause
    where
      move : IsMove (found seen.shelf) old journals new cs second.terms second.digest
      move = move-still end not.keeps

      since : Reads (told_first files seen.shelf.files) (told_first seen.shelf.files_before seen.shelf.files)
      since = since-still end not.keeps

      of : (w : Ended) → NotMoving second cs target (later seen.shelf files faults names) w → Ends (migrate_needs old journals new target) (as_found seen) net w
      of (how.DiskFault clock) (few, failed) = inr (inr (record {
        listing = move.second;
        auction_is = move.new_is;
        has_bidder = tt;
        clock_is = (let e = move.terms_are.bidders_are in omega arith);
        failed = subst (λ (n : ℕ). Rose n (seen.shelf.faults (journal_name target clock))) (r.steady (journal_name target clock)) failed;
      }))
      of (how.BadTarget clock fault) (few, bad) = inr (inr (record {
        histories = cs;
        terms = second.terms;
        digest = second.digest;
        move = move;
        clock_is = few;
        first = refused-reads (told_first files seen.shelf.files) (told_first seen.shelf.files_before seen.shelf.files) second.terms second.digest target clock fault since bad;
      }))
      of (how.NotPrefix clock number) off = inr (inr (record {
        histories = cs;
        terms = second.terms;
        digest = second.digest;
        move = move;
        clock_is = off.within;
        all_open = reads-all (λ read. (k : ℕ) → k ≤ second.terms.bidders → (c : ClockHistory) × StandsForHistory (owner_of second.terms k second.digest) c (read (journal_name target k)))
            (told_first files seen.shelf.files) (told_first seen.shelf.files_before seen.shelf.files) since off.all_open;
        earlier = reads-all (λ read. (k : ℕ) → k < clock → (c : ClockHistory) → IsFront (owner_of second.terms k second.digest) (get_or cs k c).reports (read (journal_name target k)))
            (told_first files seen.shelf.files) (told_first seen.shelf.files_before seen.shelf.files) since off.earlier;
        off = reads-all (λ read. (c d : ClockHistory) → StandsForHistory (owner_of second.terms clock second.digest) c (read (journal_name target clock)) → IsNoFrontAt number c.reports (get_or cs clock d).reports)
            (told_first files seen.shelf.files) (told_first seen.shelf.files_before seen.shelf.files) since off.off;
      }))
      of (how.TargetFull clock needed) full = inr (inr (record {
        histories = cs;
        terms = second.terms;
        digest = second.digest;
        move = move;
        clock_is = full.within;
        all_open = reads-all (λ read. (k : ℕ) → k ≤ second.terms.bidders → (c : ClockHistory) × StandsForHistory (owner_of second.terms k second.digest) c (read (journal_name target k)))
            (told_first files seen.shelf.files) (told_first seen.shelf.files_before seen.shelf.files) since full.all_open;
        fronts = reads-all (λ read. (k : ℕ) → k ≤ second.terms.bidders → (c : ClockHistory) → IsFront (owner_of second.terms k second.digest) (get_or cs k c).reports (read (journal_name target k)))
            (told_first files seen.shelf.files) (told_first seen.shelf.files_before seen.shelf.files) since full.fronts;
        full = full.full;
      }))
      of how.NoMemory cause = inl tt
      of end cause = absurd cause
