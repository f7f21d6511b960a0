use Rattle.std.proofs.Common.{◌≡◌}
use Rattle.house_io.specs.SureFiles.{files_as_shelved}
use Rattle.house_io.proofs.memory.sure_shelf.entries_of.Given as goal

abbrev pub invariant-loop-file : goal.invariant-loop-file
invariant-loop-file l = l.entries.items ≡ files_as_shelved l.yielded
