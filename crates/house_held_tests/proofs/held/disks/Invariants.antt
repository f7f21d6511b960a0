use Rattle.std.proofs.Common.{◌≡◌, length}
use Rattle.house_held_tests.proofs.held.disks.Given as goal

abbrev pub invariant-loop-clock : goal.invariant-loop-clock
invariant-loop-clock l = record { count : length l.disks.items ≡ l.clock }
