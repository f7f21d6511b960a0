use Rattle.std.proofs.Common.{◌≡◌, ◌≢◌, ◌%◌, ◌∙◌, sym, ap, arith, length, None}
use Rattle.std.proofs.lemmas.Bool.Decides.{nat_tests}
use Rattle.demand_set.specs.Reading.{bundles_of, fault_from}
use Rattle.demand_set.proofs.PackedForm.{mod-whole, demand_of-right}
use Rattle.demand_set.proofs.box_order.fault_of.Goals as goal

pub first_fault-requires-clause-whole : goal.first_fault-requires-clause-whole
first_fault-requires-clause-whole c =
    let size : c.args.count ≡ length c.as_slice.result.now = c.if-count.false ∙ c.count.ensures.length ∙ ap length (sym c.as_slice.ensures) in
    ap (λ n. length c.args.quantities.now % n) (sym size) ∙ mod-whole c.args.count c.args.quantities.now c.requires

pub returns-clause-value : goal.returns-clause-value
returns-clause-value c =
    let size : c.args.count ≡ length c.args.goods.now = c.if-count.false ∙ c.count.ensures.length in
    let some : length c.args.quantities.now ≢ 0 = (let t = sym c.is_empty.ensures ∙ c.if-is_empty.false in grind (arith, nat_tests)) in
    demand_of-right c.args.goods.now c.args.count c.args.quantities.now c.first_fault.result size some c.requires
    (c.first_fault.ensures ∙ ap (λ s. fault_from s 0 None (bundles_of (length s) c.args.quantities.now)) c.as_slice.ensures)
