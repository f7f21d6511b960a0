use Rattle.lot_base.specs.Box.{bundle_at}
use Rattle.lot_base.specs.Choices.{clears}
use Rattle.award_assembly.proofs.Filling.{IsFilled}
use Rattle.award_assembly.proofs.reach.Reach.last.Given as goal

abbrev pub invariant-loop-place : goal.invariant-loop-place
invariant-loop-place l = IsFilled (λ place. clears l.opening l.prices (bundle_at l.goods place) l.goods) l.place l.totals.items
