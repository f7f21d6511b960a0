-- Files in memory, as a shelf holds them. Of two files of one name the first counts. A disk that was closed is kept on its
-- file, and what is opened on the file next is that disk once more. For a file that is absent an entry is reserved when a disk
-- is opened in its name; so closing that disk takes no memory, and no file is seen before it.
use Rattle.std.specs.Prelude.{◌≡◌, ◌≢◌, ◌↔◌, ℕ, Bool, false, List, [], ◌∷◌, ◌++◌, Option, Some, None, IsSome, IsTrue, is_some, if◌then◌else◌, bytes_eq, find, map, option_map, unwrap_or}
use Rattle.std.specs.Option.{option_or}
use Rattle.house_io.specs.Calls.{Room, whole_room}
use Rattle.house_io.specs.ListForms.{CallPlan, begun}
use Rattle.house_io.specs.Moments.{Moments, opened}
use Rattle.house_io.specs.Shelves.{NamedFile}

-- a disk: its moments, the room that it has left, and the plan of its calls
pub record ShelvedDisk : Type 0 where
  pub moments : Moments
  pub room : Room
  pub plan : CallPlan

-- a file: its name, its bytes at first, the calls that are to fail on a source or a new disk that is opened on it, and the
-- disk that was closed on it, if one was
pub record ShelvedFile : Type 0 where
  pub name : List ℕ
  pub bytes : List ℕ
  pub failing : List ℕ
  pub closed : Option ShelvedDisk

-- the file of a name, if there is one
abbrev pub shelved_file : List ShelvedFile → List ℕ → Option ShelvedFile
shelved_file files name = find (λ file. bytes_eq file.name name) files

-- a new disk on these bytes
abbrev pub new_disk : ℕ → List ℕ → List ℕ → ShelvedDisk
new_disk room bytes failing = record { moments = opened bytes; room = whole_room room; plan = begun failing }

-- the disk that is opened on a file: the one that was closed on it, or a new one
abbrev pub disk_on : ℕ → ShelvedFile → ShelvedDisk
disk_on room file = unwrap_or file.closed (new_disk room file.bytes file.failing)

-- the disk that is opened in a name; an absent file is opened empty, and no call on it fails
abbrev pub disk_at : List ShelvedFile → ℕ → List ℕ → ShelvedDisk
disk_at files room name = unwrap_or (option_map (disk_on room) (shelved_file files name)) (new_disk room [] [])

-- a file with no bytes, on which no call fails
abbrev pub empty_file : List ℕ → ShelvedFile
empty_file name = record { name = name; bytes = []; failing = []; closed = None }

-- where a claimed disk of a name is kept: its file, or else the entry that is reserved for one
abbrev pub place_for : List ShelvedFile → List ShelvedFile → List ℕ → Option ShelvedFile
place_for files reserved name = option_or (shelved_file files name) (shelved_file reserved name)

-- where a disk of a name is kept: an unclaimed one only on a file
abbrev pub keeper : Bool → List ShelvedFile → List ShelvedFile → List ℕ → Option ShelvedFile
keeper claimed files reserved name = if claimed then place_for files reserved name else shelved_file files name

-- the reserved entries once the disk of a name was opened: one more where the name had neither a file nor an entry
abbrev pub with_reserved : List ShelvedFile → List ShelvedFile → List ℕ → List ShelvedFile
with_reserved files reserved name = if is_some (place_for files reserved name) then reserved else reserved ++ empty_file name ∷ []

-- The disk of a name is opened, from these files. They stay, and an absent one has an entry that is reserved for it.
pub record TakesDisk (name : List ℕ) (room : ℕ) (disk : ShelvedDisk) (files before after : List ShelvedFile) : Type 0 where
  pub disk_is : disk ≡ disk_at files room name
  pub reserved : after ≡ with_reserved files before name

-- a file on which this disk was closed
abbrev pub with_closed : ShelvedDisk → ShelvedFile → ShelvedFile
with_closed disk file = record file { closed = Some disk }

-- a shelf as a closing of a disk sees it: whether it tells, its files, and the entries that are reserved
pub record ClosingShelf : Type 0 where
  pub told : Bool
  pub files : List ShelvedFile
  pub reserved : List ShelvedFile

-- A disk is closed in a name. The shelf tells from then on exactly where it did, the disk tells, and a claimed disk has a place. A
-- disk that tells is kept on its file, also where the shelf ceased to tell; and the entry that was reserved for an absent file is
-- a file from then on where the disk was claimed. Every other file stays, and every other reserved entry.
pub record KeepsDisk (name : List ℕ) (disk_told claimed : Bool) (disk : ShelvedDisk) (before after : ClosingShelf) : Type 0 where
  pub told : IsTrue after.told ↔ (IsTrue before.told × IsTrue disk_told × (IsTrue claimed → IsSome (place_for before.files before.reserved name)))
  pub kept : IsTrue disk_told → shelved_file after.files name ≡ option_map (with_closed disk) (keeper claimed before.files before.reserved name)
  pub others : (other : List ℕ) → other ≢ name → shelved_file after.files other ≡ shelved_file before.files other
  pub reserved : (other : List ℕ) → other ≢ name → shelved_file after.reserved other ≡ shelved_file before.reserved other
  pub spared : claimed ≡ false → after.reserved ≡ before.reserved

-- a file as a shelf tells it
abbrev pub shown_file : ShelvedFile → NamedFile
shown_file file = record { name = file.name; moments = unwrap_or (option_map (λ disk. disk.moments) file.closed) (opened file.bytes) }

abbrev pub shown_files : List ShelvedFile → List NamedFile
shown_files files = map shown_file files

-- the files, where the shelf tells them
abbrev pub told_files : Bool → List ShelvedFile → Option (List NamedFile)
told_files told files = if told then Some (shown_files files) else None
