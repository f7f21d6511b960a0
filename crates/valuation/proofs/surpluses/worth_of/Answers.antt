use Rattle.std.proofs.Common.{◌∙◌, ap, sym, subst, List, ℕ, length, slice_index, arith}
use Rattle.lot_base.proofs.Index.{box_size-above_0}
use Rattle.valuation.specs.Carried.{AreLowCosts}
use Rattle.valuation.proofs.Collected.{IfOk-weaker}
use Rattle.valuation.proofs.Spread.{left-carries, left-empty}
use Rattle.valuation.proofs.surpluses.worth_of.Goals as goal

pub returns-clause-carries : goal.returns-clause-carries
returns-clause-carries c =
    let P : List ℕ → Type 0 = λ costs. AreLowCosts c.args.goods.now c.args.prices.now costs in
    IfOk-weaker _ _ (λ worth is. left-carries c.args.goods.now c.args.prices.now c.args.values.now c.as_slice.result.now worth.items c.requires (subst P (sym c.as_slice.ensures.value) c.in_ok-costs.ensures) is) c.left_of.result c.left_of.ensures

pub returns-clause-empty : goal.returns-clause-empty
returns-clause-empty c =
    let e = c.as_slice.ensures.value in
    let whole = ap length e ∙ c.in_ok-costs.ensures.whole in
    let some = box_size-above_0 c.args.goods.now in
    IfOk-weaker _ _ (λ worth is. left-empty c.args.values.now c.as_slice.result.now worth.items c.requires (omega (arith, whole, some)) (ap (λ xs. slice_index xs 0) e ∙ c.as_slice.ensures.empty) is) c.left_of.result c.left_of.ensures
