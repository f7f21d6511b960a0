use Rattle.std.proofs.Common.{refl, ◌≡◌, ◌<◌, sym, ap, subst, arith, length, Option, Some}
use Rattle.std.specs.Prelude.{slice_get, IfSome}
use Rattle.demand_set.specs.declared.reports.Report.{Report}
use Rattle.clock.specs.Past.{PastOf, report_at}
use Rattle.clock.proofs.Appended.{get-at, length-history, history-at}
use Rattle.clock.proofs.packing.Past.bidder.Goals as goal

pub index-requires : goal.index-requires
index-requires c =
    let e = ap (λ (v : PastOf). length v.reports) c.self.view_is in
    let l = length-history c.self.inside.goods c.self.inside.quantities.items c.self.inside.places.items in
    let r = c.requires in
    omega (arith, e, l, r, c.self.inside.places.ok)

pub returns : goal.returns
returns c =
    let goods = c.self.inside.goods in
    let q = c.self.inside.quantities.items in
    let places = c.self.inside.places.items in
    let p = c.index.result.now in
    let e = ap (λ (v : PastOf). length v.reports) c.self.view_is in
    let l = length-history goods q places in
    let r = c.requires in
    let inside : c.args.number < length places = omega (arith, e, l, r) in
    let found = history-at goods q places c.args.number p (get-at places c.args.number p p inside c.index.ensures) in
    let S : PastOf → Type 0 = λ v. slice_get v.reports c.args.number ≡ Some (report_at goods q p) in
    let P : Option Report → Type 0 = λ o. IfSome o (λ (x : Report). p.bidder ≡ x.bidder) in
    subst P (sym (subst S c.self.view_is found)) refl
