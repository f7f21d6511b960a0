use Rattle.std.proofs.Common.{sum}
use Rattle.lot_base.specs.Box.{bundle_at}
use Rattle.award_assembly.proofs.Writing.{IsListed}
use Rattle.award_assembly.proofs.units.Units.new.Given as goal

abbrev pub invariant-loop-place : goal.invariant-loop-place
invariant-loop-place l = IsListed (λ place. sum (bundle_at l.goods place)) l.place l.counts.items
