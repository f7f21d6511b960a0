use Rattle.std.proofs.Common.{◌≡◌, take}
use Rattle.recovery.proofs.owners.first_other.Given as goal

abbrev pub invariant-loop-place : goal.invariant-loop-place
invariant-loop-place l = take l.place l.xs ≡ take l.place l.ys
