use Rattle.std.proofs.Common.{◌≤◌, length, vec_capacity}
use Rattle.house_run.specs.Seen.{shelf_seen}
use Rattle.house_run.proofs.DiskSteps.{Opening}
use Rattle.house_run.proofs.disks.open_journals.Given as goal

-- the journals of the clocks before this one are open
abbrev pub invariant-loop-clock : goal.invariant-loop-clock
invariant-loop-clock g l = record {
  opening : Opening g.H.Disk.Disk.shown l.names l.clock l.disks.items (shelf_seen g.H.Shelf l.initial.shelf l.shelf);
  room : length l.names ≤ vec_capacity l.disks;
}
