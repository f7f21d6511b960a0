use Rattle.std.proofs.Common.{◌∙◌, sym, arith}
use Rattle.valuation.proofs.Collected.{collect-none}
use Rattle.valuation.proofs.collecting.collect_group.Goals as goal

pub returns-else-is_any_best : goal.returns-else-is_any_best
returns-else-is_any_best c =
    c.requires.from ∙ sym (collect-none c.args.goods.now c.args.worth.now c.args.best c.args.first 32 (let w = c.requires.whole in let b = c.requires.within in omega (arith, w, b)) (c.is_any_best.ensures c.if-is_any_best.false))
