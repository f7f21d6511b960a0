-- The journals of an auction's clocks, all open at once: what opening them leaves of the shelf, and what giving them back does.
use Rattle.std.specs.Prelude.{◌≡◌, ◌<◌, ◌≤◌, ℕ, List, length, map, slice_index_or, Option, String, string_bytes, Contains, option_map}
use Rattle.house_io.specs.Disks.{DiskShown, IsFresh}
use Rattle.std.specs.declared.alloc.Global.{Global}
use Rattle.std.specs.List.{AllByRecursion}
use Rattle.house_io.specs.Faults.{raised_by}
use Rattle.house_io.specs.Moments.{Moments}
use Rattle.house_io.specs.Shelves.{NamedFile, ChangesNone, IfTells, IfWasTold, IsLeftBy, StandsAs, file_of}
use Rattle.clock_book.specs.declared.faults.OpenFault.{OpenFault}
use Rattle.clock_book.specs.declared.faults.OpenFault.TheVariants as why
use Rattle.house_io.specs.declared.shelves.Refusal.{Refusal}
use Rattle.house_io.specs.declared.shelves.Refusal.TheVariants as refusal
use Rattle.house_run.specs.Frame.{RisesAmong}
use Rattle.house_run.specs.Needs.{first_journals, journal_name, with_names}
use Rattle.house_run.specs.Seen.{ShelfSeen}
use Rattle.house_run.specs.Steps.{FailsAtJournal, IsSteady}

-- these are the names of the journals of clocks, from clock 0 on
abbrev pub AreNames : List ℕ → List (String Global) → Type 0
AreNames journals names = map (λ name. string_bytes name) names ≡ first_journals journals (length names)

-- each of these names was opened
abbrev pub AreOpened : List (String Global) → List (List ℕ) → Type 0
AreOpened names opened = (k : ℕ) (name : String Global) → k < length names → Contains opened (string_bytes (slice_index_or names k name))

-- the journal of one of the first so many clocks
abbrev pub IsJournalBelow : List ℕ → ℕ → List ℕ → Type 0
IsJournalBelow journals count name = (clock : ℕ) × (clock < count) × (name ≡ journal_name journals clock)

-- Every file but the journals of the first so many clocks is the same, where the files are told.
abbrev pub KeepsOthers : List ℕ → ℕ → Option (List NamedFile) → Option (List NamedFile) → Type 0
KeepsOthers journals count before now =
    IfTells now (λ after. IfWasTold before (λ files. (name : List ℕ) → (IsJournalBelow journals count name → ⊥) → file_of after name ≡ file_of files name))

-- the moments of the file of a name, where there is one
abbrev pub file_moments : List NamedFile → List ℕ → Option Moments
file_moments files name = option_map (λ file. file.moments) (file_of files name)

-- Each file has the moments that it had, where the files are told, and none is there that was not.
abbrev pub KeepsMoments : Option (List NamedFile) → Option (List NamedFile) → Type 0
KeepsMoments before now =
    IfTells now (λ after. IfWasTold before (λ files. (name : List ℕ) → file_moments after name ≡ file_moments files name))

-- The journals of the first clocks are open: each of these disks stands as its file does, unclaimed, and no file was changed.
pub record AreOpen {D : Type 0} (shown : D → DiskShown) (journals : List ℕ) (disks : List D) (shelf : ShelfSeen) : Type 0 where
  pub fresh : AllByRecursion (λ disk. IsFresh (shown disk)) disks
  pub stand : (k : ℕ) (d : D) → k < length disks → IfTells shelf.files (StandsAs (journal_name journals k) (shown (slice_index_or disks k d)))
  pub same : ChangesNone shelf.files_before shelf.files
  pub steady : IsSteady shelf
  pub names : shelf.opened ≡ with_names (first_journals journals (length disks)) shelf.opened_before

-- The journals of the first clocks were closed: each was left as its disk stood, with the disk's faults added, and nothing else was changed.
pub record AreGivenBack {D : Type 0} (shown : D → DiskShown) (journals : List ℕ) (disks : List D) (shelf : ShelfSeen) : Type 0 where
  pub left : (k : ℕ) (d : D) → k < length disks
      → IfTells shelf.files (λ after. IfWasTold shelf.files_before (λ before. IsLeftBy (journal_name journals k) (shown (slice_index_or disks k d)) before after))
  pub others : KeepsOthers journals (length disks) shelf.files_before shelf.files
  pub counts : RisesAmong (IsJournalBelow journals (length disks)) shelf.faults_before shelf.faults
  pub added : (k : ℕ) (d : D) → k < length disks
      → shelf.faults (journal_name journals k) ≡ raised_by (shelf.faults_before (journal_name journals k)) (shown (slice_index_or disks k d)).faults
  pub names : shelf.opened ≡ shelf.opened_before

-- why the journal of this clock is not opened
abbrev pub IsNotOpened : ShelfSeen → List ℕ → ℕ → OpenFault → Type 0
IsNotOpened shelf journals clock why.DiskFault = FailsAtJournal journals clock shelf
IsNotOpened shelf journals clock why.NoMemory = IsSteady shelf
IsNotOpened shelf journals clock (why.Broken broken) = ⊥
IsNotOpened shelf journals clock (why.NotAcceptable number judgement) = ⊥

-- Of so many journals that of this clock is the first that is not opened, and those before it were closed again, as they stood.
pub record AreNotOpen (journals : List ℕ) (count clock : ℕ) (fault : OpenFault) (shelf : ShelfSeen) : Type 0 where
  pub within : clock < count
  pub cause : IsNotOpened shelf journals clock fault
  pub others : KeepsOthers journals clock shelf.files_before shelf.files
  pub moments : KeepsMoments shelf.files_before shelf.files
  pub front : ℕ
  pub few : front ≤ count
  pub names : shelf.opened ≡ with_names (first_journals journals front) shelf.opened_before

-- why a journal that the shelf refuses is not opened
abbrev pub fault_of : Refusal → OpenFault
fault_of refusal.Failed = why.DiskFault
fault_of refusal.NoMemory = why.NoMemory
