use Rattle.house_io.specs.Places.{HasNoneBelow}
use Rattle.house_io.proofs.named.place_of.Given as goal

abbrev pub invariant-loop-place : goal.invariant-loop-place
invariant-loop-place g l = HasNoneBelow g.E.Named.name_of l.all l.name l.place
