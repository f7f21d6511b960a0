use Rattle.std.proofs.Common.{sym, subst, List, ℕ}
use Rattle.valuation.specs.Carried.{AreCosts}
use Rattle.valuation.proofs.Spread.{empty-lowered}
use Rattle.valuation.proofs.costs.Costs.new.Goals as goal

pub invariant_of-result : goal.invariant_of-result
invariant_of-result c =
    let P : List ℕ → Type 0 = λ p. AreCosts c.args.goods.now p c.in_ok-costs.costs.items in
    let C : List ℕ → Type 0 = λ costs. AreCosts c.args.goods.now c.args.prices.now costs in
    empty-lowered c.args.goods.now c.args.prices.now c.deref.result.now c.in_ok-each.each.items (subst C (sym c.deref.ensures.value) (subst P c.as_slice.ensures.value c.in_ok-costs.ensures)) c.in_ok-each.ensures
