use Rattle.std.proofs.Common.{◌∙◌}
use Rattle.clock.proofs.Stored.{same-kept, other-count}
use Rattle.clock.proofs.kept_quantities.is_demand.Goals as goal

pub returns-then-count-len : goal.returns-then-count-len
returns-then-count-len c =
    same-kept c.args.goods c.args.count c.args.kept.now c.quantities.result.now c.args.demand.now c.eq.result c.requires.some c.requires.whole (c.if-count-len.true ∙ c.len.ensures.value) c.len.ensures.held c.quantities.ensures.value c.eq.ensures

pub returns-else-count-len : goal.returns-else-count-len
returns-else-count-len c = other-count c.args.goods c.args.count c.args.kept.now c.args.demand.now c.len.result c.len.ensures.value c.if-count-len.false
