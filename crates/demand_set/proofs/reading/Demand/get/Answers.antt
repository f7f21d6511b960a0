use Rattle.std.proofs.Common.{◌≡◌, ◌≤◌, ◌<◌, ◌+◌, ◌*◌, ◌/◌, ◌∙◌, ℕ, ap, sym, arith, length, List, Some, take, drop}
use Rattle.std.specs.Prelude.{slice_get}
use Rattle.std.proofs.Math.Nat.{mul-le-mul_right}
use Rattle.demand_set.specs.Reading.{bundles_of}
use Rattle.demand_set.proofs.Groups.{length-groups}
use Rattle.demand_set.proofs.PackedForm.{get-groups, whole-length}
use Rattle.demand_set.proofs.reading.Demand.get.Goals as goal

below : (goods place : ℕ) (items : List ℕ) (view : List (List ℕ)) → bundles_of goods items ≡ view → place < length view → place < length items / goods
below goods place items view same inside =
    let n = length-groups (length items / goods) goods items in
    let m = ap length same in
    omega (arith, n, m, inside)

pub bundle_at-requires-clause-inside : goal.bundle_at-requires-clause-inside
bundle_at-requires-clause-inside c =
    let items = c.self.inside.quantities.items in
    let goods = c.self.inside.goods in
    let up : c.args.place + 1 ≤ length items / goods = (let b = below goods c.args.place items c.args.self.now c.self.view_is c.requires in omega (arith, b)) in
    let m : (c.args.place + 1) * goods ≤ (length items / goods) * goods = mul-le-mul_right goods up in
    let l = whole-length goods items c.self.invariant.whole in
    let d = ap length c.deref.ensures.value in
    omega (arith, m, l, d)

pub returns : goal.returns
returns c =
    let items = c.self.inside.quantities.items in
    let goods = c.self.inside.goods in
    ap (λ v. slice_get v c.args.place) (sym c.self.view_is)
    ∙ get-groups (length items / goods) goods items c.args.place (below goods c.args.place items c.args.self.now c.self.view_is c.requires)
    ∙ ap Some (sym (c.bundle_at.ensures ∙ ap (λ xs. take goods (drop (c.args.place * goods) xs)) c.deref.ensures.value))
