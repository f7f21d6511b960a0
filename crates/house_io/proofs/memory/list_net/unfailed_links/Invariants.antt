use Rattle.std.proofs.Common.{◌≡◌, map}
use Rattle.house_io.specs.LinkForms.{unfailed_link}
use Rattle.house_io.proofs.memory.list_net.unfailed_links.Given as goal

abbrev pub invariant-loop-link : goal.invariant-loop-link
invariant-loop-link l = l.unfailed.items ≡ map unfailed_link l.yielded
