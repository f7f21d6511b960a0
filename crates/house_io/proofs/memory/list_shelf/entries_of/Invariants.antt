use Rattle.std.proofs.Common.{◌≡◌}
use Rattle.house_io.specs.ListFiles.{files_as_listed}
use Rattle.house_io.proofs.memory.list_shelf.entries_of.Given as goal

abbrev pub invariant-loop-file : goal.invariant-loop-file
invariant-loop-file l = l.entries.items ≡ files_as_listed l.yielded
