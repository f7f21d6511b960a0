use Rattle.std.proofs.Common.{sym, ◌∙◌}
use Rattle.lot_base.specs.Goods.{plus}
use Rattle.lot_base.proofs.Within.{within-at_most}
use Rattle.award_assembly.proofs.reach.Reach.has_sum.Goals as goal

pub place_of_sum-requires-clause-sum : goal.place_of_sum-requires-clause-sum
place_of_sum-requires-clause-sum c = within-at_most c.args.goods.now (plus c.args.x.now c.args.y.now) (sym c.fit_together.ensures ∙ c.if-fit_together.true)
