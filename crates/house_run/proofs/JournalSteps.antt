-- The journals of an auction's clocks, opened, read and closed one after another.
use Rattle.std.proofs.Common.{◌≡◌, ◌∙◌, ◌<◌, ◌≤◌, ◌+◌, ◌++◌, ℕ, IsTrue, false, zero, suc, List, [], ◌∷◌, map, Option, Some, None, Ok, Err, arith, inl, inr, refl, sym, ap, subst}
use Rattle.std.specs.Prelude.{◌⊎◌, Result}
use Rattle.std.specs.List.{AllByRecursion, range_with_len}
use Rattle.std.proofs.lemmas.List.{map-append}
use Rattle.house_io.specs.Disks.{DiskShown, is_told, told_moments}
use Rattle.house_io.specs.Faults.{Rose}
use Rattle.house_io.specs.Moments.{Moments, synced_at}
use Rattle.house_io.specs.Shelves.{NamedFile, ChangesOnly, IfTells, IfWasTold, IsLeftBy, StandsAs, file_of, with_name}
use Rattle.lot_base.specs.declared.limits.TheConstants.{MOST_BIDDERS}
use Rattle.lot_base.specs.declared.auction_terms.Terms.{Terms}
use Rattle.clock.specs.Reports.{ClockHistory, ClockOf, histories}
use Rattle.recovery.specs.Journaled.{Owner, owner_of}
use Rattle.clock_book.specs.Opening.{IsHistoryOf, IsSyncedBy, StandsForHistory}
use Rattle.clock_book.specs.declared.faults.OpenFault.{OpenFault}
use Rattle.clock_book.specs.declared.faults.OpenFault.TheVariants as why
use Rattle.house_run.specs.Frame.{KeepsAll, OnlySynced}
use Rattle.house_run.specs.Journals.{AreFromJournals, IsFromJournal, IsReadAt}
use Rattle.house_run.specs.Needs.{IsJournal, first_journals, journal_name, with_names}
use Rattle.house_run.specs.Seen.{ShelfSeen, content}
use Rattle.house_run.specs.Steps.{EndsAtJournal, IsSteady, IsUnread, OnlySyncs, OpensOnly, SyncsFirst, SyncsJournals}
use Rattle.house_run.proofs.Closing.{contents-kept}
use Rattle.house_run.proofs.Framing.{content-now, content-same, counts-then, kept-then, names-then, one-counts}

-- one disk

pub synced-so : (old new : Moments) → (new ≡ old) ⊎ (new ≡ synced_at old) → OnlySynced old new
synced-so old new (inl e) = record { count = 0; moments_are = e }
synced-so old new (inr e) = record { count = 1; moments_are = e }

-- a file that was closed reads as its disk did at first
pub disk-read : (Q : List ℕ → Type 0) (name : List ℕ) (old disk : DiskShown) (before after : Option (List NamedFile)) → IfTells before (StandsAs name old)
    → (IsTrue (is_told disk) → OnlySynced (told_moments old) (told_moments disk)) → disk.claimed ≡ false
    → ChangesOnly name before after → IfTells after (λ files. IfWasTold before (λ first. IsLeftBy name disk first files)) → (IsTrue (is_told disk) → Q (told_moments old).now.read)
    → IfTells after (λ files. Q (content files name))
disk-read Q name old disk before None stands synced unclaimed only left q = tt
disk-read Q name old disk None (Some after) stands synced unclaimed only left q = absurd only
disk-read Q name old disk (Some files) (Some after) stands synced unclaimed only left q =
    let kept = contents-kept name old disk files after only stands (synced left.0) unclaimed left in
    let read : content files name ≡ (told_moments old).now.read = content-now (file_of files name) ∙ ap (λ (ms : Moments). ms.now.read) (sym stands.1) in
    let same : content after name ≡ (told_moments old).now.read = sym (content-same (λ other. other ≡ name) files after name kept) ∙ read in
    subst Q (sym same) (q left.0)

pub count-read : {T : Type 0} (result : Result T OpenFault) (old new : Moments) → IsSyncedBy result old new → (new ≡ old) ⊎ (new ≡ synced_at old)
count-read (Ok answer) old new is = inr is
count-read (Err (why.Broken broken)) old new is = inr is
count-read (Err (why.NotAcceptable number judgement)) old new is = inr is
count-read (Err why.DiskFault) old new is = is
count-read (Err why.NoMemory) old new is = is

-- histories that were read stay so while other journals are only synced

told-then : (P Q : List ℕ → Type 0) (before now : Option (List NamedFile)) (name : List ℕ) → KeepsAll P before now → IfTells before (λ files. Q (content files name)) → IfTells now (λ files. Q (content files name))
told-then P Q before None name kept told = tt
told-then P Q None (Some now) name kept told = absurd kept
told-then P Q (Some before) (Some now) name kept told = subst Q (content-same P before now name kept) told

from-then : (P : List ℕ → Type 0) (before now : Option (List NamedFile)) (terms : Terms) (digest journals : List ℕ) (c : ClockHistory) → KeepsAll P before now → IsFromJournal before terms digest journals c → IsFromJournal now terms digest journals c
from-then P before now terms digest journals c kept is = record {
  history = is.history;
  in_file = told-then P (StandsForHistory (owner_of terms c.number digest) c) before now (journal_name journals c.number) kept is.in_file;
}

each-then : (P : List ℕ → Type 0) (before now : Option (List NamedFile)) (terms : Terms) (digest journals : List ℕ) (cs : List ClockHistory) → KeepsAll P before now
    → AllByRecursion (IsFromJournal before terms digest journals) cs → AllByRecursion (IsFromJournal now terms digest journals) cs
each-then P before now terms digest journals [] kept all = tt
each-then P before now terms digest journals (c ∷ cs) kept all = (from-then P before now terms digest journals c kept all.0, each-then P before now terms digest journals cs kept all.1)

pub are-then : (P : List ℕ → Type 0) (before now : Option (List NamedFile)) (terms : Terms) (digest journals : List ℕ) (clocks : ℕ) (cs : List ClockHistory) → KeepsAll P before now
    → AreFromJournals before terms digest journals clocks cs → AreFromJournals now terms digest journals clocks cs
are-then P before now terms digest journals clocks cs kept are = record { numbers = are.numbers; each = each-then P before now terms digest journals cs kept are.each }

-- one history more

pub number-is : (owner : Owner) (c : ClockHistory) → IsHistoryOf owner c → c.number ≡ owner.clock
number-is owner c is = ap (λ (k : ClockHistory). k.number) is.is

pub terms-are : (owner : Owner) (c : ClockHistory) → IsHistoryOf owner c → c.terms ≡ owner.terms
terms-are owner c is = ap (λ (k : ClockHistory). k.terms) is.is

read-from : (files : Option (List NamedFile)) (terms : Terms) (digest journals : List ℕ) (clock : ℕ) (c : ClockHistory) → IsReadAt files terms digest (journal_name journals clock) clock c → IsFromJournal files terms digest journals c
read-from files terms digest journals clock c is =
    let P : ℕ → Type 0 = λ n. IsReadAt files terms digest (journal_name journals n) n c in
    subst P (sym (number-is (owner_of terms clock digest) c is.history)) is

range-more : (a n : ℕ) → range_with_len a (suc n) ≡ range_with_len a n ++ (a + n) ∷ []
range-more a zero = ap (λ k. k ∷ []) (let e : a ≡ a + 0 = omega arith in e)
range-more a (suc n) = ap (λ xs. a ∷ xs) (range-more (a + 1) n) ∙ ap (λ k. a ∷ (range_with_len (a + 1) n ++ k ∷ [])) (let e : a + 1 + n ≡ a + suc n = omega arith in e)

numbers-more : (clock number : ℕ) (ns : List ℕ) → ns ≡ range_with_len 0 clock → number ≡ clock → ns ++ number ∷ [] ≡ range_with_len 0 (clock + 1)
numbers-more clock number ns are is =
    (λ i. are i ++ is i ∷ []) ∙ ap (λ k. range_with_len 0 clock ++ k ∷ []) (let e : clock ≡ 0 + clock = omega arith in e) ∙ sym (range-more 0 clock) ∙ ap (range_with_len 0) (let e : suc clock ≡ clock + 1 = omega arith in e)

pub all-more : {A : Type 0} (P : A → Type 0) (xs : List A) (x : A) → AllByRecursion P xs → P x → AllByRecursion P (xs ++ x ∷ [])
all-more P [] x all p = (p, tt)
all-more P (y ∷ xs) x all p = (all.0, all-more P xs x all.1 p)

pub more-from : (files : Option (List NamedFile)) (terms : Terms) (digest journals : List ℕ) (clock : ℕ) (cs : List ClockHistory) (c : ClockHistory) → AreFromJournals files terms digest journals clock cs
    → IsReadAt files terms digest (journal_name journals clock) clock c → AreFromJournals files terms digest journals (clock + 1) (cs ++ c ∷ [])
more-from files terms digest journals clock cs c are is = record {
  numbers = map-append (λ (k : ClockHistory). k.number) cs (c ∷ []) ∙ numbers-more clock c.number (map (λ (k : ClockHistory). k.number) cs) are.numbers (number-is (owner_of terms clock digest) c is.history);
  each = all-more (IsFromJournal files terms digest journals) cs c are.each (read-from files terms digest journals clock c is);
}

-- the history of one clock, and the histories of the first clocks

pub record OneRead (files : Option (List NamedFile)) (terms : Terms) (digest journals : List ℕ) (clock : ℕ) : Type 0 where
  pub history : ClockHistory
  pub read : IsReadAt files terms digest (journal_name journals clock) clock history

pub record FirstRead (files : Option (List NamedFile)) (terms : Terms) (digest journals : List ℕ) (clocks : ℕ) : Type 0 where
  pub found : List ClockHistory
  pub are : AreFromJournals files terms digest journals clocks found

pub first-read : (files : Option (List NamedFile)) (terms : Terms) (digest journals : List ℕ) (clocks : ℕ) → ((k : ℕ) → k < clocks → OneRead files terms digest journals k) → FirstRead files terms digest journals clocks
first-read files terms digest journals zero each = record { found = []; are = record { numbers = refl; each = tt } }
first-read files terms digest journals (suc n) each =
    let before = first-read files terms digest journals n (λ k below. each k (omega arith)) in
    let last = each n (omega arith) in
    let e : n + 1 ≡ suc n = omega arith in
    record {
      found = before.found ++ last.history ∷ [];
      are = subst (λ (m : ℕ). AreFromJournals files terms digest journals m (before.found ++ last.history ∷ [])) e (more-from files terms digest journals n before.found last.history before.are last.read);
    }

-- names and files, clock by clock

pub one-more : (journals : List ℕ) (clocks : ℕ) (before between after : List (List ℕ)) → between ≡ with_names (first_journals journals clocks) before → after ≡ with_name (journal_name journals clocks) between
    → after ≡ with_names (first_journals journals (suc clocks)) before
one-more journals clocks before between after first opened =
    opened ∙ ap (with_name (journal_name journals clocks)) first ∙ sym (names-then (first_journals journals clocks) (journal_name journals clocks ∷ []) before)

more-files : (journals : List ℕ) (clock : ℕ) (before between after : Option (List NamedFile)) → clock ≤ MOST_BIDDERS
    → KeepsAll (IsJournal journals) before between → KeepsAll (λ other. other ≡ journal_name journals clock) between after → KeepsAll (IsJournal journals) before after
more-files journals clock before between after few first only =
    kept-then (IsJournal journals) (λ other. other ≡ journal_name journals clock) before between after (λ other same. (clock, few, same)) first only

more-synced : (journals : List ℕ) (clock : ℕ) (shelf : ShelfSeen) (files : Option (List NamedFile)) (names : List (List ℕ)) → clock ≤ MOST_BIDDERS
    → KeepsAll (IsJournal journals) shelf.files_before files → names ≡ with_names (first_journals journals clock) shelf.opened_before
    → KeepsAll (λ other. other ≡ journal_name journals clock) files shelf.files → shelf.opened ≡ with_name (journal_name journals clock) names → SyncsFirst journals (clock + 1) shelf
more-synced journals clock shelf files names few kept first only opened =
    let P : ℕ → Type 0 = λ k. SyncsFirst journals k shelf in
    let more : SyncsFirst journals (suc clock) shelf = record {
      files = more-files journals clock shelf.files_before files shelf.files few kept only;
      names = one-more journals clock shelf.opened_before names shelf.opened first opened;
    } in
    let e : suc clock ≡ clock + 1 = omega arith in
    subst P e more

-- what is seen from a later moment on
abbrev pub later : ShelfSeen → Option (List NamedFile) → (List ℕ → ℕ) → List (List ℕ) → ShelfSeen
later whole files faults names = record {
  files_before = files;
  files = whole.files;
  faults_before = faults;
  faults = whole.faults;
  opened_before = names;
  opened = whole.opened;
}

pub tried : (journals : List ℕ) (clock clocks : ℕ) (shelf : ShelfSeen) (files : Option (List NamedFile)) (faults : List ℕ → ℕ) (names : List (List ℕ)) → clock < clocks → clock ≤ MOST_BIDDERS
    → KeepsAll (IsJournal journals) shelf.files_before files → names ≡ with_names (first_journals journals clock) shelf.opened_before
    → OnlySyncs (journal_name journals clock) (later shelf files faults names) → SyncsJournals journals clocks shelf
tried journals clock clocks shelf files faults names below few kept first step = of step.names
  where
    of : OpensOnly (journal_name journals clock) names shelf.opened → SyncsJournals journals clocks shelf
    of (inl same) = record {
      count = clock;
      few = omega arith;
      synced = record { files = more-files journals clock shelf.files_before files shelf.files few kept step.files; names = same ∙ first };
    }
    of (inr opened) =
        record { count = clock + 1; few = omega arith; synced = more-synced journals clock shelf files names few kept first step.files opened }

-- what holds before the journal of a clock is opened
pub record Reading (shelf : ShelfSeen) (terms : Terms) (digest journals : List ℕ) (clocks : ℕ) (cs : List ClockHistory) : Type 0 where
  pub done : SyncsFirst journals clocks shelf
  pub steady : IsSteady shelf
  pub from_journals : AreFromJournals shelf.files terms digest journals clocks cs

pub reading-more : (shelf : ShelfSeen) (terms : Terms) (digest journals : List ℕ) (clock : ℕ) (cs new : List ClockOf) (c : ClockOf) (files : Option (List NamedFile)) (faults : List ℕ → ℕ) (names : List (List ℕ)) → clock ≤ MOST_BIDDERS
    → SyncsFirst journals clock (record { files_before = shelf.files_before; files = files; faults_before = shelf.faults_before; faults = faults; opened_before = shelf.opened_before; opened = names })
    → ((name : List ℕ) → faults name ≡ shelf.faults_before name)
    → AreFromJournals files terms digest journals clock (histories cs)
    → OnlySyncs (journal_name journals clock) (later shelf files faults names) → shelf.opened ≡ with_name (journal_name journals clock) names → ((name : List ℕ) → shelf.faults name ≡ faults name)
    → IsReadAt shelf.files terms digest (journal_name journals clock) clock c.history → new ≡ cs ++ c ∷ [] → Reading shelf terms digest journals (clock + 1) (histories new)
reading-more shelf terms digest journals clock cs new c files faults names few done steady are step opened still is grown =
    let P : List ClockOf → Type 0 = λ ks. Reading shelf terms digest journals (clock + 1) (histories ks) in
    let Q : List ClockHistory → Type 0 = λ hs. AreFromJournals shelf.files terms digest journals (clock + 1) hs in
    subst P (sym grown) (record {
      done = more-synced journals clock shelf files names few done.files done.names step.files opened;
      steady = λ name. still name ∙ steady name;
      from_journals = subst Q (sym (map-append (λ (k : ClockOf). k.history) cs (c ∷ [])))
          (more-from shelf.files terms digest journals clock (histories cs) c.history (are-then (λ other. other ≡ journal_name journals clock) files shelf.files terms digest journals clock (histories cs) step.files are) is);
    })

pub ends-then : (fault : OpenFault) (shelf : ShelfSeen) (terms : Terms) (digest journals : List ℕ) (clock : ℕ) (cs : List ClockHistory) (files : Option (List NamedFile)) (faults : List ℕ → ℕ) (names : List (List ℕ))
    → ((name : List ℕ) → faults name ≡ shelf.faults_before name) → AreFromJournals files terms digest journals clock cs
    → OnlySyncs (journal_name journals clock) (later shelf files faults names) → IsUnread (later shelf files faults names) terms digest (journal_name journals clock) clock fault → EndsAtJournal shelf terms digest journals clock fault
ends-then why.DiskFault shelf terms digest journals clock cs files faults names steady are step unread =
    let P : ℕ → Type 0 = λ before. Rose before (shelf.faults (journal_name journals clock)) in
    record {
      failed = subst P (steady (journal_name journals clock)) unread;
      counts = counts-then (λ name. name ≡ journal_name journals clock) shelf faults steady (one-counts (λ name. name ≡ journal_name journals clock) (journal_name journals clock) (later shelf files faults names) step.counts refl);
    }
ends-then why.NoMemory shelf terms digest journals clock cs files faults names steady are step unread = λ name. unread name ∙ steady name
ends-then (why.Broken broken) shelf terms digest journals clock cs files faults names steady are step unread = (
  λ name. unread.0 name ∙ steady name,
  record { earlier = cs; from_journals = are-then (λ other. other ≡ journal_name journals clock) files shelf.files terms digest journals clock cs step.files are; refused = unread.1 },
)
ends-then (why.NotAcceptable number judgement) shelf terms digest journals clock cs files faults names steady are step unread = (
  λ name. unread.0 name ∙ steady name,
  record { earlier = cs; from_journals = are-then (λ other. other ≡ journal_name journals clock) files shelf.files terms digest journals clock cs step.files are; refused = unread.1 },
)
