use Rattle.std.proofs.Common.{◌≡◌, ◌∙◌, sym, subst, slice_index, arith}
use Rattle.lot_base.specs.Goods.{raised, zeros, AllBelow}
use Rattle.valuation.specs.Carried.{IsColumn}
use Rattle.valuation.proofs.Steady.{zeros-below, column-costs}
use Rattle.valuation.proofs.columns.column_of.Goals as goal

pub raise-requires : goal.raise-requires
raise-requires c = subst (λ p. AllBelow 4294967295 p c.args.set.0) (sym c.zero.ensures) (zeros-below c.args.goods.now c.args.set.0)

pub narrowed-requires : goal.narrowed-requires
narrowed-requires c = λ place.
    let s = c.args.goods.now in
    let is : c.as_slice.result.now ≡ raised (zeros s) c.args.set.0 = c.as_slice.ensures.value ∙ c.raise.ensures ∙ (λ i. raised (c.zero.ensures i) c.args.set.0) in
    let column = column-costs s c.as_slice.result.now c.in_ok-costs.costs.items c.args.set.0 c.count-count.ensures.supply.small is c.in_ok-costs.ensures in
    let small = column.small place in
    let e : slice_index c.deref.result.now place ≡ slice_index c.in_ok-costs.costs.items place = (λ i. slice_index (c.deref.ensures.value i) place) in
    omega (arith, small, e)

pub returns : goal.returns
returns c =
    let s = c.args.goods.now in
    let is : c.as_slice.result.now ≡ raised (zeros s) c.args.set.0 = c.as_slice.ensures.value ∙ c.raise.ensures ∙ (λ i. raised (c.zero.ensures i) c.args.set.0) in
    subst (IsColumn s c.args.set.0) (sym (c.in_ok-units.ensures ∙ c.deref.ensures.value)) (column-costs s c.as_slice.result.now c.in_ok-costs.costs.items c.args.set.0 c.count-count.ensures.supply.small is c.in_ok-costs.ensures)
