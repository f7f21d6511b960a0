-- What the journals of an auction's clocks have to say: of each clock a legal history. The journals are read in the order of the
-- clocks, and the first one that has no such history is told.
use Rattle.std.specs.Prelude.{◌≡◌, ◌≤◌, ◌+◌, ⊤, ℕ, List, ◌∷◌, length, map, IfSome, Option, Err}
use Rattle.std.specs.List.{AllByRecursion, range_with_len}
use Rattle.house_io.specs.Shelves.{NamedFile, IfTells}
use Rattle.lot_base.specs.declared.auction_terms.Terms.{Terms}
use Rattle.clock.specs.Reports.{ClockHistory}
use Rattle.auction_file.specs.AuctionFile.{Listing}
use Rattle.recovery.specs.Journaled.{owner_of}
use Rattle.clock_book.specs.Opening.{IsHistoryOf, IsOpening, StandsForHistory}
use Rattle.clock_book.specs.declared.faults.OpenFault.{OpenFault}
use Rattle.clock_book.specs.declared.faults.OpenFault.TheVariants as why
use Rattle.house_run.specs.Needs.{first_journals, journal_name, with_names}
use Rattle.house_run.specs.Seen.{ShelfSeen, IsAuctionAt, content}

-- the terms of the auction that a file says
pub record IsTermsOf (listing : Listing) (terms : Terms) : Type 0 where
  pub version_is : terms.version ≡ listing.version
  pub goods_are : terms.goods ≡ listing.supply
  pub bidders_are : terms.bidders ≡ length listing.bidder_names
  pub ceiling_is : terms.ceiling ≡ listing.ceiling
  pub opening_is : terms.opening ≡ listing.opening

-- the history of a clock on these terms, from the journal of this name: a legal one, which the file has, where the files are told
pub record IsReadAt (files : Option (List NamedFile)) (terms : Terms) (digest name : List ℕ) (clock : ℕ) (c : ClockHistory) : Type 0 where
  pub history : IsHistoryOf (owner_of terms clock digest) c
  pub in_file : IfTells files (λ told. StandsForHistory (owner_of terms clock digest) c (content told name))

-- the same, from the journal of its own clock
abbrev pub IsFromJournal : Option (List NamedFile) → Terms → List ℕ → List ℕ → ClockHistory → Type 0
IsFromJournal files terms digest journals c = IsReadAt files terms digest (journal_name journals c.number) c.number c

-- the histories of so many clocks, from clock 0 on, each from its journal
pub record AreFromJournals (files : Option (List NamedFile)) (terms : Terms) (digest journals : List ℕ) (clocks : ℕ) (histories : List ClockHistory) : Type 0 where
  pub numbers : map (λ (c : ClockHistory). c.number) histories ≡ range_with_len 0 clocks
  pub each : AllByRecursion (IsFromJournal files terms digest journals) histories

-- the auction that was read of a file: it is on these terms, and has this digest
pub record IsAuctionOn (shelf : ShelfSeen) (auction : List ℕ) (terms : Terms) (digest : List ℕ) : Type 0 where
  pub listing : Listing
  pub auction_is : IsAuctionAt shelf auction listing
  pub terms_are : IsTermsOf listing terms
  pub digest_is : digest ≡ listing.digest

-- the histories of all clocks of the auction of a file, one more than there are bidders, each from its journal; all of these were opened
pub record AreHistories (shelf : ShelfSeen) (auction journals : List ℕ) (terms : Terms) (histories : List ClockHistory) : Type 0 where
  pub digest : List ℕ
  pub on : IsAuctionOn shelf auction terms digest
  pub from_journals : AreFromJournals shelf.files terms digest journals (terms.bidders + 1) histories
  pub opened : shelf.opened ≡ with_names (auction ∷ first_journals journals (terms.bidders + 1)) shelf.opened_before

-- the file was read, and its reports are refused
abbrev pub IsRefusal : OpenFault → Type 0
IsRefusal (why.Broken broken) = ⊤
IsRefusal (why.NotAcceptable number judgement) = ⊤
IsRefusal why.DiskFault = ⊥
IsRefusal why.NoMemory = ⊥

-- the file of this name is refused so as the journal of this clock
pub record IsRefusedJournal (files : Option (List NamedFile)) (terms : Terms) (digest name : List ℕ) (clock : ℕ) (fault : OpenFault) : Type 0 where
  pub refusal : IsRefusal fault
  pub in_file : IfTells files (λ told. IsOpening (owner_of terms clock digest) (content told name) (Err fault))

-- this clock's journal is refused so, after the histories of the clocks before it
pub record IsFirstRefused (files : Option (List NamedFile)) (terms : Terms) (digest journals : List ℕ) (clock : ℕ) (fault : OpenFault) : Type 0 where
  pub earlier : List ClockHistory
  pub from_journals : AreFromJournals files terms digest journals clock earlier
  pub refused : IsRefusedJournal files terms digest (journal_name journals clock) clock fault

-- the same, of a clock of the auction of a file, which has the bidder that is needed, if one is
pub record IsBadJournal (auction journals : List ℕ) (bidder : Option ℕ) (clock : ℕ) (fault : OpenFault) (shelf : ShelfSeen) : Type 0 where
  pub terms : Terms
  pub digest : List ℕ
  pub on : IsAuctionOn shelf auction terms digest
  pub has_bidder : IfSome bidder (λ b. b ≤ terms.bidders)
  pub clock_is : clock ≤ terms.bidders
  pub first : IsFirstRefused shelf.files terms digest journals clock fault
