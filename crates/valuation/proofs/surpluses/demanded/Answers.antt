use Rattle.std.proofs.Common.{◌∙◌, ◌≤◌, arith, ap, [], length}
use Rattle.std.specs.List.{concat}
use Rattle.lot_base.specs.Economy.{demand}
use Rattle.lot_base.proofs.Index.{box_size-above_0}
use Rattle.lot_base.proofs.Ascending.{IsDemand-demand}
use Rattle.valuation.proofs.Greatest.{greatest-is}
use Rattle.valuation.proofs.Carrying.{demand_is}
use Rattle.valuation.proofs.Collected.{itself, itself-carried, written-demand, read-written}
use Rattle.valuation.proofs.surpluses.demanded.Goals as goal

pub read_quantities-requires : goal.read_quantities-requires
read_quantities-requires c =
    let s = c.args.goods.now in
    let worth = c.args.worth.now in
    let u = itself s worth in
    let some : 1 ≤ length worth = (let b = box_size-above_0 s in omega (arith, b, c.requires.whole)) in
    let is = demand_is s worth u [] c.args.best c.requires.whole (itself-carried s worth) (greatest-is worth c.args.best some c.requires.empty c.requires.best) in
    (written-demand s (demand s u []) c.count.result c.deref.result.now c.count.ensures.supply c.count.ensures.length (IsDemand-demand s u []) (c.deref.ensures.value ∙ c.in_ok-quantities.ensures ∙ ap concat is)).whole

pub returns-in-Ok : goal.returns-in-Ok
returns-in-Ok c = λ u p carries.
    let s = c.args.goods.now in
    let worth = c.args.worth.now in
    let some : 1 ≤ length worth = (let b = box_size-above_0 s in omega (arith, b, c.requires.whole)) in
    let is = demand_is s worth u p c.args.best c.requires.whole carries (greatest-is worth c.args.best some c.requires.empty c.requires.best) in
    let w = written-demand s (demand s u p) c.count.result c.deref.result.now c.count.ensures.supply c.count.ensures.length (IsDemand-demand s u p) (c.deref.ensures.value ∙ c.in_ok-quantities.ensures ∙ ap concat is) in
    read-written s (demand s u p) c.in-Ok.demand c.count.result c.deref.result.now w (IsDemand-demand s u p) c.in-Ok.ensures.value
