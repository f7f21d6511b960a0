-- Files by name, and the counts of their faults. Of two files of one name the first counts.
use Rattle.std.specs.Prelude.{◌≡◌, ◌≢◌, ◌≤◌, ℕ, Bool, if◌then◌else◌, List, [], ◌∷◌, Option, Some, None, Result, Ok, Err, IfErr, OnOk, bytes_eq, find, option_map, unwrap_or, Contains, IsTrue}
use Rattle.house_io.specs.Moments.{Moments, opened}
use Rattle.house_io.specs.Disks.{DiskShown, is_told, told_moments, TellsMoments}
use Rattle.house_io.specs.declared.shelves.Refusal.{Refusal}
use Rattle.house_io.specs.declared.shelves.Refusal.TheVariants as why
use Rattle.house_io.specs.Faults.{Rose, raised_by}

-- a file: its name, what a read of it gives, and what a crash may leave of it or might have left
pub record NamedFile : Type 0 where
  pub name : List ℕ
  pub moments : Moments

-- the file of a name, if there is one
abbrev pub file_of : List NamedFile → List ℕ → Option NamedFile
file_of files name = find (λ file. bytes_eq file.name name) files

-- what a read of the file of a name gives
abbrev pub bytes_of : List NamedFile → List ℕ → Option (List ℕ)
bytes_of files name = option_map (λ file. file.moments.now.read) (file_of files name)

-- the moments of the file of a name; an absent file is opened empty
abbrev pub moments_at : List NamedFile → List ℕ → Moments
moments_at files name = unwrap_or (option_map (λ file. file.moments) (file_of files name)) (opened [])

-- A source tells the bytes of its file, all of them left. That of an absent file is empty.
abbrev pub Begins : Option (List ℕ) → Option (List ℕ) → Type 0
Begins bytes None = ⊥
Begins None (Some left) = left ≡ []
Begins (Some bytes) (Some left) = left ≡ bytes

-- it holds of the files, where they are told
abbrev pub IfTells : Option (List NamedFile) → (List NamedFile → Type 0) → Type 0
IfTells None P = Unit {0}
IfTells (Some files) P = P files

-- it holds of the files, and they were told
abbrev pub IfWasTold : Option (List NamedFile) → (List NamedFile → Type 0) → Type 0
IfWasTold None P = ⊥
IfWasTold (Some files) P = P files

-- A disk that is opened tells, and stands as its file did.
abbrev pub StandsAs : List ℕ → DiskShown → List NamedFile → Type 0
StandsAs name disk files = TellsMoments disk (moments_at files name)

-- A disk, which told, was closed in a name: the file stands as the disk did. One that was absent is there now only if the disk was claimed.
abbrev pub IsLeftBy : List ℕ → DiskShown → List NamedFile → List NamedFile → Type 0
IsLeftBy name disk before after =
    IsTrue (is_told disk)
    × (option_map (λ file. file.moments) (file_of after name) ≡ (if disk.claimed then Some (told_moments disk) else option_map (λ _. told_moments disk) (file_of before name)))

-- The files that are told now were told before, and are the same.
abbrev pub ChangesNone : Option (List NamedFile) → Option (List NamedFile) → Type 0
ChangesNone before now = IfTells now (λ files. before ≡ Some files)

-- The files that are told now were told before, and are the same but for that of this name.
abbrev pub ChangesOnly : List ℕ → Option (List NamedFile) → Option (List NamedFile) → Type 0
ChangesOnly name before now = IfTells now (λ after. IfWasTold before (λ files. (other : List ℕ) → other ≢ name → file_of after other ≡ file_of files other))

-- The files that are told now were told before, and the file of each name is the same.
abbrev pub ChangesNoFile : Option (List NamedFile) → Option (List NamedFile) → Type 0
ChangesNoFile before now = IfTells now (λ after. IfWasTold before (λ files. (other : List ℕ) → file_of after other ≡ file_of files other))

-- The count of this name does not fall, and that of each other name stays.
pub record RisesOnly (name : List ℕ) (before now : List ℕ → ℕ) : Type 0 where
  pub later : before name ≤ now name
  pub others : (other : List ℕ) → other ≢ name → now other ≡ before other

-- refused for a fault only where the count rose; where memory ran out it stays
abbrev pub IsRefused : Refusal → ℕ → ℕ → Type 0
IsRefused why.Failed before now = Rose before now
IsRefused why.NoMemory before now = now ≡ before

-- So many faults are added to the count of this name, and to no other.
pub record Adds (name : List ℕ) (faults : ℕ) (before now : List ℕ → ℕ) : Type 0 where
  pub added : now name ≡ raised_by (before name) faults
  pub others : (other : List ℕ) → other ≢ name → now other ≡ before other

-- An opening that fails is one more fault of its name. Any other changes no count.
abbrev pub CountsOpening : {T : Type 0} → List ℕ → Result T Refusal → (List ℕ → ℕ) → (List ℕ → ℕ) → Type 0
CountsOpening name (Ok answer) before now = (other : List ℕ) → now other ≡ before other
CountsOpening name (Err why.Failed) before now = Adds name 1 before now
CountsOpening name (Err why.NoMemory) before now = (other : List ℕ) → now other ≡ before other

-- a name that was opened stays so
abbrev pub KeepsNames : List (List ℕ) → List (List ℕ) → Type 0
KeepsNames before now = (name : List ℕ) → Contains before name → Contains now name

-- the names, and this one after them where it is not among them
abbrev pub with_name : List ℕ → List (List ℕ) → List (List ℕ)
with_name name [] = name ∷ []
with_name name (first ∷ names) = if bytes_eq first name then first ∷ names else first ∷ with_name name names

-- The names after an opening: this one is among them, also where a fault refused it. One that finds no memory opens none.
abbrev pub names_after : {T : Type 0} → Result T Refusal → List ℕ → List (List ℕ) → List (List ℕ)
names_after (Ok answer) name names = with_name name names
names_after (Err why.Failed) name names = with_name name names
names_after (Err why.NoMemory) name names = names

-- A shelf as its callers see it: its files, where it tells them, the counts of faults by name, and the names that it has opened.
pub record ShelfState : Type 0 where
  pub files : Option (List NamedFile)
  pub faults : List ℕ → ℕ
  pub opened : List (List ℕ)

abbrev pub shelf_state : {H : Type 0} → (H → Option (List NamedFile)) → (H → List ℕ → ℕ) → (H → List (List ℕ)) → H → ShelfState
shelf_state files faults opened shelf = record { files = files shelf; faults = faults shelf; opened = opened shelf }

-- An opening of the file of a name, whatever it opens: what it leaves of the counts and the names of a shelf, and why it refuses.
pub record IsOpening {T : Type 0} (result : Result T Refusal) (name : List ℕ) (before after : ShelfState) : Type 0 where
  pub counts : RisesOnly name before.faults after.faults
  -- one that goes well adds to no count
  pub steady : OnOk result ((other : List ℕ) → after.faults other ≡ before.faults other)
  pub refused : IfErr result (λ refusal. IsRefused refusal (before.faults name) (after.faults name))
  -- one that finds no memory leaves the files that are told as they are
  pub memory : result ≡ Err why.NoMemory → after.files ≡ before.files
  pub names : after.opened ≡ names_after result name before.opened
  pub opened : OnOk result (Contains after.opened name)
  pub kept : KeepsNames before.opened after.opened
