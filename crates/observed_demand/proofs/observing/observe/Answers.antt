use Rattle.std.proofs.Common.{◌∙◌, ap, arith, sym}
use Rattle.lot_base.specs.declared.auction_terms.Terms.{Terms}
use Rattle.observed_demand.proofs.Collecting.{terms-at}
use Rattle.observed_demand.proofs.observing.observe.Goals as goal

pub observe_clock-requires-clause-goods : goal.observe_clock-requires-clause-goods
observe_clock-requires-clause-goods c =
    c.loop-clock.invariant.supply ∙ ap (λ (t : Terms). t.goods) (sym (terms-at c.args.terms.now c.args.clocks.now c.loop-clock.clock-index c.clock-item.result c.requires.terms (omega arith) c.clock-item.is))
