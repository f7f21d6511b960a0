use Rattle.std.proofs.Common.{◌≡◌, take}
use Rattle.valuation.proofs.reader.narrowed.Given as goal

abbrev pub invariant-loop-place : goal.invariant-loop-place
invariant-loop-place l = l.narrow.items ≡ take l.place l.values
