-- What was read of files is said of what other files, of the same contents, have.
use Rattle.std.proofs.Common.{◌≡◌, ℕ, List, [], ◌∷◌, Option, Some, None, Err, refl, sym, subst}
use Rattle.std.specs.List.{AllByRecursion}
use Rattle.house_io.specs.Shelves.{NamedFile, IfTells, IfWasTold, ChangesNone}
use Rattle.lot_base.specs.declared.auction_terms.Terms.{Terms}
use Rattle.auction_file.specs.AuctionFile.{Listing}
use Rattle.clock.specs.Reports.{ClockHistory}
use Rattle.recovery.specs.Journaled.{owner_of}
use Rattle.clock_book.specs.Opening.{IsOpening, StandsForHistory}
use Rattle.clock_book.specs.declared.faults.OpenFault.{OpenFault}
use Rattle.house_run.specs.Found.{told_first}
use Rattle.house_run.specs.Frame.{KeepsAll}
use Rattle.house_run.specs.Journals.{AreFromJournals, IsFirstRefused, IsFromJournal}
use Rattle.house_run.specs.Needs.{journal_name}
use Rattle.house_run.specs.Seen.{ShelfSeen, IsAuctionAt, IsRead, content}
use Rattle.house_run.proofs.Framing.{content-same}

-- where files are told now they were told then, with the same contents
abbrev pub Reads : Option (List NamedFile) → Option (List NamedFile) → Type 0
Reads before now = IfTells now (λ after. IfWasTold before (λ files. (name : List ℕ) → content after name ≡ content files name))

-- files that were not changed
pub reads-same : (a b : Option (List NamedFile)) → ChangesNone a b → Reads b (told_first a b)
reads-same a None same = tt
reads-same a (Some b) same = subst (λ (o : Option (List NamedFile)). Reads (Some b) o) (sym same) (λ name. refl)

-- files that were synced at most
pub reads-back : (P : List ℕ → Type 0) (a b : Option (List NamedFile)) → KeepsAll P a b → Reads b (told_first a b)
reads-back P a None kept = tt
reads-back P None (Some b) kept = absurd kept
reads-back P (Some a) (Some b) kept = λ name. content-same P a b name kept

-- files that were told at first, where they are told still
pub reads-on : (R : List NamedFile → List NamedFile → Type 0) (a b c : Option (List NamedFile)) → IfTells c (λ after. IfWasTold b (λ files. R files after)) → Reads (told_first a b) (told_first a c)
reads-on R a b None kept = tt
reads-on R a None (Some c) kept = absurd kept
reads-on R None (Some b) (Some c) kept = tt
reads-on R (Some a) (Some b) (Some c) kept = λ name. refl

-- files that were not changed at first, and were told at the end
pub reads-first : (R : List NamedFile → List NamedFile → Type 0) (a b c : Option (List NamedFile)) → ChangesNone a b → IfTells c (λ after. IfWasTold b (λ files. R files after)) → Reads b (told_first a c)
reads-first R a b None same kept = tt
reads-first R a None (Some c) same kept = absurd kept
reads-first R a (Some b) (Some c) same kept = subst (λ (o : Option (List NamedFile)). Reads (Some b) o) (sym same) (λ name. refl)

-- what is told since a later moment
pub reads-since : (P : List ℕ → Type 0) (R : List NamedFile → List NamedFile → Type 0) (a b c : Option (List NamedFile)) → KeepsAll P a b → IfTells c (λ after. IfWasTold b (λ files. R files after)) → Reads (told_first b c) (told_first a c)
reads-since P R a b None first second = tt
reads-since P R a None (Some c) first second = absurd second
reads-since P R None (Some b) (Some c) first second = tt
reads-since P R (Some a) (Some b) (Some c) first second = λ name. content-same P a b name first

pub reads-all : (Q : (List ℕ → List ℕ) → Type 0) (before now : Option (List NamedFile)) → Reads before now → IfTells before (λ files. Q (λ name. content files name)) → IfTells now (λ files. Q (λ name. content files name))
reads-all Q before None same told = tt
reads-all Q None (Some now) same told = absurd same
reads-all Q (Some before) (Some now) same told = subst Q (λ i name. sym (same name) i) told

pub reads-told : (Q : List ℕ → Type 0) (name : List ℕ) (before now : Option (List NamedFile)) → Reads before now → IfTells before (λ files. Q (content files name)) → IfTells now (λ files. Q (content files name))
reads-told Q name before None same told = tt
reads-told Q name None (Some now) same told = absurd same
reads-told Q name (Some before) (Some now) same told = subst Q (sym (same name)) told

-- an auction file

pub read-reads : (before now : ShelfSeen) (name : List ℕ) (limit : ℕ) (read : List ℕ) → Reads before.files now.files → IsRead before name limit read → IsRead now name limit read
read-reads before now name limit read same is =
    record { whole = reads-told (λ bytes. read ≡ bytes) name before.files now.files same is.whole; short = is.short; bytes = is.bytes }

pub auction-reads : (before now : ShelfSeen) (name : List ℕ) (listing : Listing) → Reads before.files now.files → IsAuctionAt before name listing → IsAuctionAt now name listing
auction-reads before now name listing same is = record { read = is.read; is_read = read-reads before now name _ is.read same is.is_read; says = is.says }

-- journals

each-reads : (before now : Option (List NamedFile)) (terms : Terms) (digest journals : List ℕ) (cs : List ClockHistory) → Reads before now → AllByRecursion (IsFromJournal before terms digest journals) cs → AllByRecursion (IsFromJournal now terms digest journals) cs
each-reads before now terms digest journals [] same all = tt
each-reads before now terms digest journals (c ∷ cs) same all = (
  record { history = all.0.history; in_file = reads-told (StandsForHistory (owner_of terms c.number digest) c) (journal_name journals c.number) before now same all.0.in_file },
  each-reads before now terms digest journals cs same all.1,
)

pub journals-reads : (before now : Option (List NamedFile)) (terms : Terms) (digest journals : List ℕ) (clocks : ℕ) (cs : List ClockHistory) → Reads before now
    → AreFromJournals before terms digest journals clocks cs → AreFromJournals now terms digest journals clocks cs
journals-reads before now terms digest journals clocks cs same are = record { numbers = are.numbers; each = each-reads before now terms digest journals cs same are.each }

pub refused-reads : (before now : Option (List NamedFile)) (terms : Terms) (digest journals : List ℕ) (clock : ℕ) (fault : OpenFault) → Reads before now
    → IsFirstRefused before terms digest journals clock fault → IsFirstRefused now terms digest journals clock fault
refused-reads before now terms digest journals clock fault same first = record {
  earlier = first.earlier;
  from_journals = journals-reads before now terms digest journals clock first.earlier same first.from_journals;
  refused = record {
    refusal = first.refused.refusal;
    in_file = reads-told (λ file. IsOpening (owner_of terms clock digest) file (Err fault)) (journal_name journals clock) before now same first.refused.in_file;
  };
}
