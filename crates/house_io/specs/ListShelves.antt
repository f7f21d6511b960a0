-- A shelf in memory of which chosen calls fail.
use Rattle.std.specs.Prelude.{Bool, ◌≡◌, ◌⊎◌, ℕ, List, Some, None, Result, Ok, Err, option_map, true, []}
use Rattle.house_io.specs.declared.shelves.Refusal.{Refusal}
use Rattle.house_io.specs.declared.shelves.Refusal.TheVariants as why
use Rattle.house_io.specs.Shelves.{Adds, ShelfState}
use Rattle.house_io.specs.Counts.{NamedCount, count_of, counted_state}
use Rattle.house_io.specs.ListForms.{CallPlan, ListedSource, IsToFail, begun, counted, fresh_source}
use Rattle.house_io.specs.ShelvedFiles.{ShelvedDisk, ShelvedFile, ClosingShelf, TakesDisk, shelved_file, shown_file, told_files}

-- a shelf: its files, the entries that are reserved for files to be, the plan of its own calls, the counts of faults by name, the
-- room of each disk, and whether it tells
pub record ListedShelf : Type 0 where
  pub files : List ShelvedFile
  pub reserved : List ShelvedFile
  pub plan : CallPlan
  pub counts : List NamedCount
  pub room : ℕ
  pub told : Bool

-- a shelf before the first call
abbrev pub fresh_shelf : List ShelvedFile → ℕ → List ℕ → ListedShelf
fresh_shelf files room failing = record { files = files; reserved = []; plan = begun failing; counts = []; room = room; told = true }

-- a shelf as its callers see it
abbrev pub listed_state : ListedShelf → ShelfState
listed_state shelf = counted_state (told_files shelf.told shelf.files) shelf.counts

-- a shelf as a closing of a disk sees it
abbrev pub closing : ListedShelf → ClosingShelf
closing shelf = record { told = shelf.told; files = shelf.files; reserved = shelf.reserved }

-- a source that is opened on a file
abbrev pub source_on : ShelvedFile → ListedSource
source_on file = fresh_source (shown_file file).moments.now.read file.failing

-- the plan after an opening of a disk; one that finds no memory is no call
abbrev pub plan_after : {T : Type 0} → Result T Refusal → CallPlan → CallPlan
plan_after (Ok disk) plan = counted plan
plan_after (Err why.Failed) plan = counted plan
plan_after (Err why.NoMemory) plan = plan

-- an opening that was answered counts as a call, and changes no file
abbrev pub CountsCall : ListedShelf → ListedShelf → Type 0
CountsCall before after = after ≡ record before { plan = counted before.plan; counts = after.counts }

-- The file is there and this call was not to fail. No count rises.
pub record Opens (before : ListedShelf) (name : List ℕ) (source : ListedSource) (after : ListedShelf) : Type 0 where
  pub file : option_map source_on (shelved_file before.files name) ≡ Some source
  pub unplanned : IsToFail before.plan → ⊥
  pub counts : (other : List ℕ) → count_of after.counts other ≡ count_of before.counts other
  pub call : CountsCall before after

-- This call was to fail, or the file is absent. It is one more fault of that name.
pub record Fails (before : ListedShelf) (name : List ℕ) (after : ListedShelf) : Type 0 where
  pub cause : IsToFail before.plan ⊎ (shelved_file before.files name ≡ None)
  pub counts : Adds name 1 (count_of before.counts) (count_of after.counts)
  pub call : CountsCall before after

-- what an opening answers, and what it leaves
abbrev pub Answers : ListedShelf → List ℕ → Result ListedSource Refusal → ListedShelf → Type 0
Answers before name (Ok source) after = Opens before name source after
Answers before name (Err why.Failed) after = Fails before name after
Answers before name (Err why.NoMemory) after = after ≡ before

-- The disk of the name is opened, and this call was not to fail. No file changes, and no count rises.
pub record OpensDisk (before : ListedShelf) (name : List ℕ) (disk : ShelvedDisk) (after : ListedShelf) : Type 0 where
  pub takes : TakesDisk name before.room disk before.files before.reserved after.reserved
  pub unplanned : IsToFail before.plan → ⊥
  pub counts : (other : List ℕ) → count_of after.counts other ≡ count_of before.counts other
  pub call : after ≡ record before { reserved = after.reserved; plan = counted before.plan; counts = after.counts }

-- This call was to fail. It is one more fault of that name.
pub record FailsDisk (before : ListedShelf) (name : List ℕ) (after : ListedShelf) : Type 0 where
  pub planned : IsToFail before.plan
  pub counts : Adds name 1 (count_of before.counts) (count_of after.counts)
  pub call : CountsCall before after
