use Rattle.std.proofs.Common.{◌≡◌, drop}
use Rattle.std.specs.Prelude.{find}
use Rattle.lot_base.specs.Goods.{plus}
use Rattle.award_assembly.specs.Remaining.{has_total}
use Rattle.award_assembly.proofs.reach.Reach.first.Given as goal

abbrev pub invariant-loop-place : goal.invariant-loop-place
invariant-loop-place l = find (λ x. has_total l.goods l.self (plus l.taken x)) (drop l.place l.demand) ≡ find (λ x. has_total l.goods l.self (plus l.taken x)) l.demand
