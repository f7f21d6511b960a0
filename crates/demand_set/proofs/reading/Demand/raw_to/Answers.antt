use Rattle.std.proofs.Common.{◌≡◌, ◌∙◌, ap, sym, arith, length, drop, ◌++◌}
use Rattle.std.specs.List.{concat}
use Rattle.std.proofs.lemmas.List.{length-take-le}
use Rattle.demand_set.proofs.PackedForm.{concat-whole, most-quantities}
use Rattle.demand_set.proofs.reading.Demand.raw_to.Goals as goal

pub slice_bounds-copy_from_slice-end : goal.slice_bounds-copy_from_slice-end
slice_bounds-copy_from_slice-end c =
    let n = ap length (sym (concat-whole c.self.inside.goods c.self.inside.quantities.items c.self.invariant.whole) ∙ ap concat c.self.view_is) in
    omega (arith, n, c.len-count.ensures, c.requires)

pub slice_bounds-copy_from_slice-end-2 : goal.slice_bounds-copy_from_slice-end-2
slice_bounds-copy_from_slice-end-2 c =
    let n = ap length (sym (concat-whole c.self.inside.goods c.self.inside.quantities.items c.self.invariant.whole) ∙ ap concat c.self.view_is) in
    sym (length-take-le c.len-count.result c.args.into.now (omega (arith, n, c.len-count.ensures, c.requires)))

pub copy_from_slice-requires : goal.copy_from_slice-requires
copy_from_slice-requires c =
    let n = ap length (sym (concat-whole c.self.inside.goods c.self.inside.quantities.items c.self.invariant.whole) ∙ ap concat c.self.view_is) in
    length-take-le c.len-count.result c.args.into.now (omega (arith, n, c.len-count.ensures, c.requires)) ∙ c.len-count.ensures ∙ sym c.deref.ensures.len

pub overflow_cast-result : goal.overflow_cast-result
overflow_cast-result c =
    let l : c.len-count.result ≡ length c.self.inside.quantities.items = omega (arith, c.len-count.ensures) in
    let few = most-quantities c.self.inside.goods c.self.inside.quantities.items c.self.invariant in
    omega (arith, l, few)

pub returns-clause-count : goal.returns-clause-count
returns-clause-count c =
    let l : c.len-count.result ≡ length c.self.inside.quantities.items = omega (arith, c.len-count.ensures) in
    l ∙ ap length (sym (concat-whole c.self.inside.goods c.self.inside.quantities.items c.self.invariant.whole) ∙ ap concat c.self.view_is)

pub returns-clause-written : goal.returns-clause-written
returns-clause-written c =
    let l : c.len-count.result ≡ length c.self.inside.quantities.items = omega (arith, c.len-count.ensures) in
    let same = sym (concat-whole c.self.inside.goods c.self.inside.quantities.items c.self.invariant.whole) ∙ ap concat c.self.view_is in
    let front = c.copy_from_slice.ensures.after ∙ c.deref.ensures.value ∙ same in
    λ i. front i ++ drop ((l ∙ ap length same) i) c.args.into.now
