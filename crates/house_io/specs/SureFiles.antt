-- A shelf in memory of which no call fails.
use Rattle.std.specs.Prelude.{◌≡◌, ℕ, Bool, true, List, [], None, Result, Ok, Err, map, string_bytes}
use Rattle.house_io.specs.declared.memory.sure_disk.SureDisk.{SureDisk}
use Rattle.house_io.specs.declared.memory.sure_shelf.SureFile.{SureFile}
use Rattle.house_io.specs.declared.shelves.Refusal.{Refusal}
use Rattle.house_io.specs.declared.shelves.Refusal.TheVariants as why
use Rattle.house_io.specs.Shelves.{ShelfState}
use Rattle.house_io.specs.ListForms.{begun}
use Rattle.house_io.specs.Recorded.{moments_of, room_of}
use Rattle.house_io.specs.ShelvedFiles.{ShelvedDisk, ShelvedFile, ClosingShelf, TakesDisk, told_files}

-- the files, the entries that are reserved for files to be, the names that were opened, the room of each new disk, and whether
-- the shelf tells
pub record Shelved : Type 0 where
  pub files : List ShelvedFile
  pub reserved : List ShelvedFile
  pub opened : List (List ℕ)
  pub room : ℕ
  pub told : Bool

-- a shelf before the first call
abbrev pub fresh_shelf : List ShelvedFile → ℕ → Shelved
fresh_shelf files room = record { files = files; reserved = []; opened = []; room = room; told = true }

-- a shelf as its callers see it; no call on it fails
abbrev pub sure_state : Shelved → ShelfState
sure_state shelf = record { files = told_files shelf.told shelf.files; faults = λ _. 0; opened = shelf.opened }

-- what a disk in memory stands for; no call on it fails
abbrev pub as_shelved : SureDisk → ShelvedDisk
as_shelved disk = record { moments = moments_of disk.file; room = room_of disk.file; plan = begun [] }

-- what a file in memory stands for; no call on it fails
abbrev pub file_as_shelved : SureFile → ShelvedFile
file_as_shelved file = record { name = string_bytes file.name; bytes = file.bytes.items; failing = []; closed = None }

abbrev pub files_as_shelved : List SureFile → List ShelvedFile
files_as_shelved files = map file_as_shelved files

-- a shelf as a closing of a disk sees it
abbrev pub closing : Shelved → ClosingShelf
closing shelf = record { told = shelf.told; files = shelf.files; reserved = shelf.reserved }

-- the disk of the name is opened, and no file changes
pub record OpensDisk (before : Shelved) (name : List ℕ) (disk : ShelvedDisk) (after : Shelved) : Type 0 where
  pub takes : TakesDisk name before.room disk before.files before.reserved after.reserved
  pub rest : after ≡ record before { reserved = after.reserved; opened = after.opened }

-- what an opening of a disk answers, and what it leaves; only memory refuses one
abbrev pub AnswersDisk : Shelved → List ℕ → Result SureDisk Refusal → Shelved → Type 0
AnswersDisk before name (Ok disk) after = OpensDisk before name (as_shelved disk) after
AnswersDisk before name (Err why.Failed) after = ⊥
AnswersDisk before name (Err why.NoMemory) after = after ≡ before
