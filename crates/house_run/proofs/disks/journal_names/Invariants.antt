use Rattle.std.proofs.Common.{◌≡◌, length}
use Rattle.house_run.specs.Disks.{AreNames}
use Rattle.house_run.proofs.disks.journal_names.Given as goal

abbrev pub invariant-loop-clock : goal.invariant-loop-clock
invariant-loop-clock l = record {
  names : AreNames l.journals l.names.items;
  count : length l.names.items ≡ l.clock;
}
