use Rattle.std.proofs.Common.{sym, ◌∙◌}
use Rattle.lot_base.specs.Goods.{plus}
use Rattle.award_assembly.specs.Remaining.{has_total}
use Rattle.award_assembly.proofs.Filling.{find-hit, find-miss}
use Rattle.award_assembly.proofs.reach.Reach.first.Goals as goal

pub returns-then-has_sum : goal.returns-then-has_sum
returns-then-has_sum c =
    sym (find-hit (λ x. has_total c.args.goods.now c.args.self.now (plus c.args.taken.now x)) c.args.demand.now c.loop-place.place c.get-bundle.result c.get-bundle.ensures (sym c.has_sum.ensures ∙ c.if-has_sum.true))
    ∙ c.loop-place.invariant

pub loop-place-preserved : goal.loop-place-preserved
loop-place-preserved c =
    sym (find-miss (λ x. has_total c.args.goods.now c.args.self.now (plus c.args.taken.now x)) c.args.demand.now c.loop-place.place c.get-bundle.result c.get-bundle.ensures (sym c.has_sum.ensures ∙ c.if-has_sum.false))
    ∙ c.loop-place.invariant
