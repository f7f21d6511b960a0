-- What a job leaves of the shelf, whatever it does there.
use Rattle.std.specs.Prelude.{◌≡◌, ◌≤◌, ◌⊎◌, ℕ, zero, suc, ◌+◌, List, ◌++◌, length, take, Option, Some, None}
use Rattle.house_io.specs.Moments.{Moments, synced_at}
use Rattle.house_io.specs.Shelves.{NamedFile, IfTells, IfWasTold, ChangesNone, file_of, moments_at}
use Rattle.auction_file.specs.AuctionFile.{Listing}
use Rattle.house_run.specs.Causes.{Tells}
use Rattle.house_run.specs.Needs.{Needs, Has, IsJournal, first_journals, sources, with_names}
use Rattle.house_run.specs.Seen.{Outside, ShelfSeen, IsAuctionAt}
use Rattle.house_run.specs.declared.ends.Ended.{Ended}

-- Where the auction was read, all sources and then the journals of a front of its clocks were opened, in order.
pub record OpensJournals (needs : Needs) (shelf : ShelfSeen) (auction journals : List ℕ) : Type 0 where
  pub listing : Listing
  pub auction_is : IsAuctionAt shelf auction listing
  pub clocks : ℕ
  pub clocks_are : clocks ≤ length listing.bidder_names + 1
  pub names : shelf.opened ≡ with_names (sources needs ++ first_journals journals clocks) shelf.opened_before

pub record OpensSources (needs : Needs) (shelf : ShelfSeen) : Type 0 where
  pub count : ℕ
  pub names : shelf.opened ≡ with_names (take count (sources needs)) shelf.opened_before

abbrev pub OpensInOrder : Needs → ShelfSeen → Type 0
OpensInOrder needs shelf = OpensSources needs shelf ⊎ Has needs.auction (λ auction. Has needs.journals (OpensJournals needs shelf auction))

-- no count falls, and only those of names with P may rise
pub record RisesAmong (P : List ℕ → Type 0) (before now : List ℕ → ℕ) : Type 0 where
  pub later : (name : List ℕ) → before name ≤ now name
  pub others : (name : List ℕ) → (P name → ⊥) → now name ≡ before name

-- so many good syncs later
abbrev pub synced_times : ℕ → Moments → Moments
synced_times zero moments = moments
synced_times (suc count) moments = synced_at (synced_times count moments)

-- Only good syncs followed: a read gives the same, and the images are those before, or what a read gives.
pub record OnlySynced (before after : Moments) : Type 0 where
  pub count : ℕ
  pub moments_are : after ≡ synced_times count before

-- Files with P were synced at most, and every other file is the same. None is there that was not.
pub record KeepsContents (P : List ℕ → Type 0) (before after : List NamedFile) : Type 0 where
  pub same : (name : List ℕ) → (P name → ⊥) → file_of after name ≡ file_of before name
  pub synced : (name : List ℕ) → OnlySynced (moments_at before name) (moments_at after name)
  pub absent : (name : List ℕ) → file_of before name ≡ None → file_of after name ≡ None

abbrev pub KeepsAll : (List ℕ → Type 0) → Option (List NamedFile) → Option (List NamedFile) → Type 0
KeepsAll P before now = IfTells now (λ after. IfWasTold before (λ files. KeepsContents P files after))

-- no file is changed; of a command with journals, these may be synced
abbrev pub KeepsFiles : Option (List ℕ) → Option (List NamedFile) → Option (List NamedFile) → Type 0
KeepsFiles None before now = ChangesNone before now
KeepsFiles (Some journals) before now = KeepsAll (IsJournal journals) before now

-- A job that ended so opened what it needs, in order, changed no file, and passed over no fault that its end does not tell.
pub record Frame (needs : Needs) (end : Ended) (seen : Outside) : Type 0 where
  pub names : OpensInOrder needs seen.shelf
  pub counts : RisesAmong (Tells needs end) seen.shelf.faults_before seen.shelf.faults
  pub files : KeepsFiles needs.journals seen.shelf.files_before seen.shelf.files
