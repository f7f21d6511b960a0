-- Disks and files in memory of which chosen calls fail, as a shelf holds them.
use Rattle.std.specs.Prelude.{◌≡◌, ℕ, List, None, Result, Ok, Err, map, string_bytes}
use Rattle.house_io.specs.declared.memory.list_disk.ListDisk.{ListDisk}
use Rattle.house_io.specs.declared.memory.list_shelf.ListFile.{ListFile}
use Rattle.house_io.specs.declared.shelves.Refusal.{Refusal}
use Rattle.house_io.specs.declared.shelves.Refusal.TheVariants as why
use Rattle.house_io.specs.Recorded.{moments_of, room_of}
use Rattle.house_io.specs.ShelvedFiles.{ShelvedDisk, ShelvedFile}
use Rattle.house_io.specs.ListShelves.{ListedShelf, OpensDisk, FailsDisk}

-- what a disk in memory stands for, but for the count of its faults
abbrev pub disk_as_listed : ListDisk → ShelvedDisk
disk_as_listed disk = record { moments = moments_of disk.file; room = room_of disk.file; plan = disk.plan }

-- what a file in memory stands for
abbrev pub file_as_listed : ListFile → ShelvedFile
file_as_listed file = record { name = string_bytes file.name; bytes = file.bytes.items; failing = file.failing.items; closed = None }

abbrev pub files_as_listed : List ListFile → List ShelvedFile
files_as_listed files = map file_as_listed files

-- what an opening of a disk answers, and what it leaves
abbrev pub AnswersDisk : ListedShelf → List ℕ → Result ListDisk Refusal → ListedShelf → Type 0
AnswersDisk before name (Ok disk) after = OpensDisk before name (disk_as_listed disk) after
AnswersDisk before name (Err why.Failed) after = FailsDisk before name after
AnswersDisk before name (Err why.NoMemory) after = after ≡ before
