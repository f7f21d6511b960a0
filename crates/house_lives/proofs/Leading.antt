-- What runs of other commands leave of a file.
use Rattle.std.proofs.Common.{◌≡◌, ◌⊎◌, inl, inr, ℕ, zero, suc, List, Option, Some, None, refl, sym, ◌∙◌, ap, subst}
use Rattle.house_io.specs.Moments.{Moments, settled}
use Rattle.house_io.specs.Shelves.{IfTells, IfWasTold, NamedFile, moments_at}
use Rattle.command_line.specs.Commands.{Bid, Command, Migrate, Serve, Spells}
use Rattle.command_line.proofs.Once.{spelled-once}
use Rattle.house_run.specs.Commands.{needs_of}
use Rattle.house_run.specs.Ends.{CommandEnds, CommandFrame, RunEnds}
use Rattle.house_run.specs.Frame.{Frame, KeepsAll, KeepsFiles, OnlySynced, synced_times}
use Rattle.house_run.specs.MigrateCommand.{MigrateFrame, MovesFiles}
use Rattle.house_run.specs.Needs.{IsJournal}
use Rattle.house_run.specs.Nets.{NetSeen}
use Rattle.house_run.specs.Seen.{Outside, SinkSeen}
use Rattle.house_run.specs.declared.ends.Ended.{Ended}
use Rattle.house_run.specs.declared.ends.Ended.TheVariants as how
use Rattle.house_lives.specs.Lives.{LeadsTo}
use Rattle.house_lives.proofs.Crashing.{death-leads, synced-leads}
use Rattle.house_lives.specs.Others.{IsMoveRun, IsOtherRun, WritesNone}

-- runs of other commands

read-still : (count : ℕ) (ms : Moments) → (synced_times count ms).now.read ≡ ms.now.read
read-still zero ms = refl
read-still (suc count) ms = read-still count ms

times-lead : (count : ℕ) (before after : Moments) → after ≡ synced_times count before → LeadsTo before after
times-lead zero before after is = death-leads before after (ap (λ (ms : Moments). ms.now) is)
times-lead (suc count) before after is = synced-leads before after (ap (λ (ms : Moments). ms.now) is ∙ ap settled (read-still count before))

files-lead : (o : Option (List ℕ)) (before after : List NamedFile) → KeepsFiles o (Some before) (Some after) → (name : List ℕ) → LeadsTo (moments_at before name) (moments_at after name)
files-lead None before after same name = let e : before ≡ after = cc same in death-leads (moments_at before name) (moments_at after name) (ap (λ files. (moments_at files name).now) (sym e))
files-lead (Some journals) before after kept name = let only = kept.synced name in times-lead only.count (moments_at before name) (moments_at after name) only.moments_are

frame-of : (command : Command) (end : Ended) (seen : Outside) (net : NetSeen) → WritesNone command → CommandFrame command end seen net → Frame (needs_of command) end seen
frame-of (Serve auction journals s) end seen net writes frame = absurd writes
frame-of (Bid auction values b) end seen net writes frame = frame.frame
frame-of (Migrate old journals new target) end seen net writes frame = absurd writes
frame-of command end seen net writes frame = frame

-- what follows of a run either way: no file was changed, or the command ended and left so
run-so : {Q : Type 0} (command : Command) (words : List (List ℕ)) (seen : Outside) (net : NetSeen) (sink : SinkSeen) (answer : Ended) → Spells command words → RunEnds words seen net sink answer
    → (seen.shelf.files ≡ seen.shelf.files_before → Q) → ((end : Ended) → CommandFrame command end seen net → Q) → Q
run-so command words seen net sink answer spelled (inl usage) same left = same usage.untouched.files_same
run-so {Q} command words seen net sink answer spelled (inr (inl some)) same left = of (subst (λ (c : Command). CommandEnds c seen net sink answer) (spelled-once some.command command words some.spelled spelled) some.ends)
  where
    of : CommandEnds command seen net sink answer → Q
    of (inl done) = left how.Done done.frame
    of (inr other) = left other.end other.frame
run-so command words seen net sink answer spelled (inr (inr short)) same left = same short.untouched.files_same

module _ (before after : List NamedFile) (seen : Outside) (told_before : seen.shelf.files_before ≡ Some before) (told : seen.shelf.files ≡ Some after) (name : List ℕ) where
  unchanged : seen.shelf.files ≡ seen.shelf.files_before → LeadsTo (moments_at before name) (moments_at after name)
  unchanged same =
      let f : Some after ≡ Some before = sym told ∙ same ∙ told_before in
      let e : after ≡ before = cc in
      death-leads (moments_at before name) (moments_at after name) (ap (λ files. (moments_at files name).now) e)

  synced-so : OnlySynced (moments_at before name) (moments_at after name) → LeadsTo (moments_at before name) (moments_at after name)
  synced-so only = times-lead only.count (moments_at before name) (moments_at after name) only.moments_are

  by-files : (journals : Option (List ℕ)) → KeepsFiles journals seen.shelf.files_before seen.shelf.files → LeadsTo (moments_at before name) (moments_at after name)
  by-files journals kept =
      let K : Option (List NamedFile) → Option (List NamedFile) → Type 0 = λ a b. KeepsFiles journals a b in
      files-lead journals before after (subst (λ o. K o (Some after)) told_before (subst (λ o. K seen.shelf.files_before o) told kept)) name

  -- a migration, of one of its journals
  by-move : (old journals new target : List ℕ) (end : Ended) → IsJournal journals name → MigrateFrame old journals new target end seen → LeadsTo (moments_at before name) (moments_at after name)
  by-move old journals new target end journal frame = of frame.files
    where
      of : KeepsAll (IsJournal journals) seen.shelf.files_before seen.shelf.files ⊎ MovesFiles old journals new target end seen.shelf → LeadsTo (moments_at before name) (moments_at after name)
      of (inl kept) = by-files (Some journals) kept
      of (inr moves) =
          let told_now = subst (λ o. IfTells o (λ after. IfWasTold seen.shelf.files_before (λ before. (name : List ℕ) → IsJournal journals name → OnlySynced (moments_at before name) (moments_at after name)))) told moves.synced in
          let both = subst (λ o. IfWasTold o (λ before. (name : List ℕ) → IsJournal journals name → OnlySynced (moments_at before name) (moments_at after name))) told_before told_now in
          synced-so (both name journal)

pub other-leads : (command : Command) (before after : List NamedFile) (words : List (List ℕ)) (seen : Outside) (net : NetSeen) (sink : SinkSeen) (answer : Ended)
    → IsOtherRun command before after words seen net sink answer → (name : List ℕ) → LeadsTo (moments_at before name) (moments_at after name)
other-leads command before after words seen net sink answer is name =
    run-so command words seen net sink answer is.spelled is.ends (unchanged before after seen is.told_before is.told name)
    (λ end frame. by-files before after seen is.told_before is.told name (needs_of command).journals (frame-of command end seen net is.writes_none frame).files)

pub move-leads : (old journals new target : List ℕ) (before after : List NamedFile) (words : List (List ℕ)) (seen : Outside) (net : NetSeen) (sink : SinkSeen) (answer : Ended)
    → IsMoveRun old journals new target before after words seen net sink answer → (name : List ℕ) → IsJournal journals name → LeadsTo (moments_at before name) (moments_at after name)
move-leads old journals new target before after words seen net sink answer is name journal =
    run-so (Migrate old journals new target) words seen net sink answer is.spelled is.ends (unchanged before after seen is.told_before is.told name)
    (λ end frame. by-move before after seen is.told_before is.told name old journals new target end journal frame)
