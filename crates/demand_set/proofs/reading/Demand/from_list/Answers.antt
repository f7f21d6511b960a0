use Rattle.std.proofs.Common.{sym, subst, List, ℕ}
use Rattle.lot_base.specs.Demands.{IsDemand}
use Rattle.demand_set.specs.Reading.{bundles_of, AreWhole}
use Rattle.demand_set.specs.Packed.{IsPacked}
use Rattle.demand_set.proofs.PackedForm.{read-none}
use Rattle.demand_set.proofs.reading.Demand.from_list.Goals as goal

pub invariant_of-result : goal.invariant_of-result
invariant_of-result c =
    let W : List ℕ → Type 0 = λ q. AreWhole c.args.count q in
    let read = read-none c.args.goods.now c.args.count c.deref.result.now c.fault_of.result c.fault_of.ensures.supply (subst W (sym c.deref.ensures.value) c.requires) c.in_default.is c.fault_of.ensures.value in
    let P : List ℕ → Type 0 = λ q. IsPacked c.args.count q in
    subst P c.deref.ensures.value read.packed

pub returns-clause-fits : goal.returns-clause-fits
returns-clause-fits c =
    let W : List ℕ → Type 0 = λ q. AreWhole c.args.count q in
    let read = read-none c.args.goods.now c.args.count c.deref.result.now c.fault_of.result c.fault_of.ensures.supply (subst W (sym c.deref.ensures.value) c.requires) c.in_default.is c.fault_of.ensures.value in
    let D : List ℕ → Type 0 = λ q. IsDemand c.args.goods.now (bundles_of c.args.count q) in
    subst D c.deref.ensures.value read.fits
