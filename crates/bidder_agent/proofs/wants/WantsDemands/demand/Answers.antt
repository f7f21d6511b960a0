use Rattle.std.proofs.Common.{◌∙◌, sym, subst, List, ℕ, length}
use Rattle.lot_base.specs.Goods.{IsRange}
use Rattle.lot_base.specs.Demands.{IsDemand}
use Rattle.lot_base.proofs.Ascending.{IsDemand-demand}
use Rattle.valuation.specs.Values.{valuation_of}
use Rattle.bidder_agent.proofs.Wanted.{reported}
use Rattle.bidder_agent.proofs.wants.WantsDemands.demand.Goals as goal

pub returns-in-Ok-clause-formed : goal.returns-in-Ok-clause-formed
returns-in-Ok-clause-formed c =
    let supply = c.args.self.now.goods in
    let u = valuation_of supply c.args.self.now.valuation.now in
    let is : IsDemand supply c.in_ok-demand.demand = subst (λ (bundles : List (List ℕ)). IsDemand supply bundles) (sym c.in_ok-demand.ensures) (IsDemand-demand supply u c.args.prices.now) in
    let sold = c.count-goods.ensures.supply in
    let range : IsRange 1 6 (length supply) = record { at_least = sold.some_good; at_most = sold.few_goods } in
    reported supply c.count-goods.result c.in_ok-demand.demand c.from_vec.result c.count-goods.ensures.length (subst (λ (n : ℕ). IsRange 1 6 n) (sym c.count-goods.ensures.length) range)
    (c.from_vec.ensures ∙ c.in-Ok.ensures.items_if_clones_equal (λ x y h. h) ∙ c.quantities.ensures.value) is c.quantities.ensures.held
