use Rattle.std.proofs.Common.{◌≡◌, ◌++◌, List, ℕ, length}
use Rattle.house_io.specs.Told.{IfTold}
use Rattle.house_io.proofs.Sending.{Adds}
use Rattle.house_io.proofs.links.send_whole.Given as goal

-- what was sent is the text before the rest
abbrev pub invariant-loop-rest : goal.invariant-loop-rest
invariant-loop-rest g l = record {
  count : g.L.Link.faults l.link ≡ g.L.Link.faults l.initial.link;
  text : (done : List ℕ) × (l.text ≡ done ++ l.rest) × IfTold (g.L.Link.told l.initial.link) (g.L.Link.told l.link) (Adds done);
}

abbrev pub decreases-loop-rest : goal.decreases-loop-rest
decreases-loop-rest g l = length l.rest
