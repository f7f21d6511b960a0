use Rattle.std.proofs.Common.{◌≡◌, ◌<◌, ◌∙◌, sym, ap, subst, arith, length, drop, List, ℕ, Some}
use Rattle.std.specs.Prelude.{slice_get}
use Rattle.lot_base.specs.Demands.{IsDemand}
use Rattle.demand_set.specs.Reading.{groups}
use Rattle.demand_set.specs.declared.reports.Report.{Report}
use Rattle.clock.specs.Past.{PastOf, Fits, report_at, quantities_of}
use Rattle.clock.proofs.Appended.{fits-at, get-at, length-history, history-at, all-get, read-back}
use Rattle.clock.proofs.Stored.{length-quantities, room-at}
use Rattle.clock.proofs.packing.Past.report.Goals as goal

pub index-requires : goal.index-requires
index-requires c =
    let e = ap (λ (v : PastOf). length v.reports) c.self.view_is in
    let l = length-history c.self.inside.goods c.self.inside.quantities.items c.self.inside.places.items in
    let r = c.requires.number in
    omega (arith, e, l, r, c.self.inside.places.ok)

pub quantities_at-kept-requires : goal.quantities_at-kept-requires
quantities_at-kept-requires c =
    let e = ap (λ (v : PastOf). length v.reports) c.self.view_is in
    let l = length-history c.self.inside.goods c.self.inside.quantities.items c.self.inside.places.items in
    let r = c.requires.number in
    let F : List ℕ → Type 0 = λ q. Fits c.self.inside.goods q c.index.result.now in
    subst F (sym c.deref.ensures.value) (fits-at c.self.inside.goods c.self.inside.quantities.items c.self.inside.places.items c.args.number c.index.result.now c.index.result.now (omega (arith, e, l, r)) c.index.ensures c.self.invariant.fit)

pub read_quantities-requires : goal.read_quantities-requires
read_quantities-requires c =
    let e = ap (λ (v : PastOf). length v.reports) c.self.view_is in
    let l = length-history c.self.inside.goods c.self.inside.quantities.items c.self.inside.places.items in
    let r = c.requires.number in
    let fits = fits-at c.self.inside.goods c.self.inside.quantities.items c.self.inside.places.items c.args.number c.index.result.now c.index.result.now (omega (arith, e, l, r)) c.index.ensures c.self.invariant.fit in
    record {
      some_good = c.self.invariant.some_good;
      few_goods = c.self.invariant.few_goods;
      count = c.index.result.now.count;
      whole = ap length (c.quantities_at-kept.ensures ∙ ap (λ q. quantities_of c.self.inside.goods q c.index.result.now) c.deref.ensures.value) ∙ length-quantities c.self.inside.goods c.self.inside.quantities.items c.index.result.now fits;
    }

pub returns-in-Ok : goal.returns-in-Ok
returns-in-Ok c =
    let goods = c.self.inside.goods in
    let q = c.self.inside.quantities.items in
    let p = c.index.result.now in
    let e = ap (λ (v : PastOf). length v.reports) c.self.view_is in
    let l = length-history goods q c.self.inside.places.items in
    let r = c.requires.number in
    let inside : c.args.number < length c.self.inside.places.items = omega (arith, e, l, r) in
    let fits = fits-at goods q c.self.inside.places.items c.args.number p p inside c.index.ensures c.self.invariant.fit in
    let found = history-at goods q c.self.inside.places.items c.args.number p (get-at c.self.inside.places.items c.args.number p p inside c.index.ensures) in
    let S : PastOf → Type 0 = λ v. slice_get v.reports c.args.number ≡ Some (report_at goods q p) in
    let here = subst S c.self.view_is found in
    let P : Report → Type 0 = λ z. IsDemand c.args.goods.now z.demand in
    let demand = all-get P c.args.self.now.reports c.args.number (report_at goods q p) c.requires.fit here in
    let size = c.requires.goods ∙ sym (ap (λ (v : PastOf). v.goods) c.self.view_is) in
    let kept = c.quantities_at-kept.ensures ∙ ap (λ z. quantities_of goods z p) c.deref.ensures.value in
    let same : c.in-Ok.demand ≡ groups p.count goods (drop p.start q) = read-back c.args.goods.now goods p.count (drop p.start q) c.quantities_at-kept.result.now c.in-Ok.demand (sym size) c.self.invariant.some_good
    (room-at goods q p fits) kept demand c.in-Ok.ensures.value in
    here ∙ (λ i. Some (record { bidder = p.bidder; round = p.round; demand = sym same i }))
