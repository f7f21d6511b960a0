-- Runs of other commands between two lives. They change no journal, and sync it at most; a migration writes to its targets alone.
use Rattle.std.specs.Prelude.{◌≡◌, ℕ, List, Some}
use Rattle.house_io.specs.Shelves.{NamedFile, moments_at}
use Rattle.command_line.specs.Commands.{Command, Migrate, Serve, Spells}
use Rattle.house_run.specs.Ends.{RunEnds}
use Rattle.house_run.specs.Needs.{IsJournal}
use Rattle.house_run.specs.Nets.{NetSeen}
use Rattle.house_run.specs.Seen.{Outside, SinkSeen}
use Rattle.house_run.specs.declared.ends.Ended.{Ended}
use Rattle.house_lives.specs.Lives.{LeadsTo}

-- a command that writes to no journal
abbrev pub WritesNone : Command → Type 0
WritesNone (Serve auction journals s) = ⊥
WritesNone (Migrate old journals new target) = ⊥
WritesNone command = Unit {0}

-- The words are those of the command, the top call kept its contract, and the files are told.
pub record IsOtherRun (command : Command) (before after : List NamedFile) (words : List (List ℕ)) (seen : Outside) (net : NetSeen) (sink : SinkSeen) (answer : Ended) : Type 0 where
  pub spelled : Spells command words
  pub writes_none : WritesNone command
  pub ends : RunEnds words seen net sink answer
  pub told_before : seen.shelf.files_before ≡ Some before
  pub told : seen.shelf.files ≡ Some after

-- such a run leads each file on
abbrev pub OtherLaw : Type 0
OtherLaw = (command : Command) (before after : List NamedFile) (words : List (List ℕ)) (seen : Outside) (net : NetSeen) (sink : SinkSeen) (answer : Ended)
    → IsOtherRun command before after words seen net sink answer → (name : List ℕ) → LeadsTo (moments_at before name) (moments_at after name)

-- The words are those of a migration, the top call kept its contract, and the files are told.
pub record IsMoveRun (old journals new target : List ℕ) (before after : List NamedFile) (words : List (List ℕ)) (seen : Outside) (net : NetSeen) (sink : SinkSeen) (answer : Ended) : Type 0 where
  pub spelled : Spells (Migrate old journals new target) words
  pub ends : RunEnds words seen net sink answer
  pub told_before : seen.shelf.files_before ≡ Some before
  pub told : seen.shelf.files ≡ Some after

-- however it ends, it leads each of the journals on that are moved
abbrev pub MoveLaw : Type 0
MoveLaw = (old journals new target : List ℕ) (before after : List NamedFile) (words : List (List ℕ)) (seen : Outside) (net : NetSeen) (sink : SinkSeen) (answer : Ended)
    → IsMoveRun old journals new target before after words seen net sink answer → (name : List ℕ) → IsJournal journals name → LeadsTo (moments_at before name) (moments_at after name)
