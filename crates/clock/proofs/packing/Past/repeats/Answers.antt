use Rattle.std.proofs.Common.{◌≡◌, ◌∙◌, sym, ap, subst, arith, length, take, drop, length-drop, Some, None, List, ℕ, nat_eq}
use Rattle.std.specs.Prelude.{option_copied, option_map, find, Option}
use Rattle.std.proofs.lemmas.List.{length-take-le}
use Rattle.demand_set.specs.Same.{same_demand}
use Rattle.demand_set.specs.Reading.{groups}
use Rattle.demand_set.specs.declared.reports.Report.{Report}
use Rattle.clock.specs.declared.kept_quantities.Place.{Place}
use Rattle.clock.specs.Past.{PastOf, Fits, report_at, quantities_of}
use Rattle.clock.proofs.Appended.{length-history}
use Rattle.clock.proofs.Stored.{slice-find, fit-drop, fit-take, found-fit, length-quantities, groups-quantities}
use Rattle.clock.proofs.packing.Past.repeats.Goals as goal

pub split_at-requires : goal.split_at-requires
split_at-requires c =
    let e = ap (λ (v : PastOf). length v.reports) c.self.view_is in
    let l = length-history c.self.inside.goods c.self.inside.quantities.items c.self.inside.places.items in
    let d = ap length c.deref.ensures.value in
    let r = c.requires in
    omega (arith, e, l, d, r)

pub slice_bounds-place_of-end : goal.slice_bounds-place_of-end
slice_bounds-place_of-end c =
    let e = ap (λ (v : PastOf). length v.reports) c.self.view_is in
    let l = length-history c.self.inside.goods c.self.inside.quantities.items c.self.inside.places.items in
    let d = ap length c.deref.ensures.value in
    let b = ap length c.split_at.ensures.back ∙ length-drop c.args.from c.deref.result.now in
    let r = c.requires in
    sym (length-take-le c.args.reports c.split_at.result.1.now (omega (arith, e, l, d, b, r)))

pub quantities_at-kept-requires : goal.quantities_at-kept-requires
quantities_at-kept-requires c =
    let places = take c.args.reports (drop c.args.from c.self.inside.places.items) in
    let same : take c.args.reports c.split_at.result.1.now ≡ places = ap (take c.args.reports) (c.split_at.ensures.back ∙ ap (drop c.args.from) c.deref.ensures.value) in
    let found : find (λ (p : Place). nat_eq p.bidder c.args.bidder) places ≡ Some c.in-Some.place.now =
    ap (λ ps. find (λ (p : Place). nat_eq p.bidder c.args.bidder) ps) (sym same) ∙ sym c.place_of.ensures ∙ ap option_copied c.in-Some.is in
    let fit = fit-take c.self.inside.goods c.args.reports c.self.inside.quantities.items _ (fit-drop c.self.inside.goods c.args.from c.self.inside.quantities.items c.self.inside.places.items c.self.invariant.fit) in
    let F : List ℕ → Type 0 = λ q. Fits c.self.inside.goods q c.in-Some.place.now in
    subst F (sym c.deref-in-Some.ensures.value) (found-fit c.self.inside.goods c.args.bidder c.self.inside.quantities.items places c.in-Some.place.now found fit)

pub is_demand-requires-clause-whole : goal.is_demand-requires-clause-whole
is_demand-requires-clause-whole c =
    let places = take c.args.reports (drop c.args.from c.self.inside.places.items) in
    let same : take c.args.reports c.split_at.result.1.now ≡ places = ap (take c.args.reports) (c.split_at.ensures.back ∙ ap (drop c.args.from) c.deref.ensures.value) in
    let found : find (λ (p : Place). nat_eq p.bidder c.args.bidder) places ≡ Some c.in-Some.place.now =
    ap (λ ps. find (λ (p : Place). nat_eq p.bidder c.args.bidder) ps) (sym same) ∙ sym c.place_of.ensures ∙ ap option_copied c.in-Some.is in
    let fit = fit-take c.self.inside.goods c.args.reports c.self.inside.quantities.items _ (fit-drop c.self.inside.goods c.args.from c.self.inside.quantities.items c.self.inside.places.items c.self.invariant.fit) in
    let fits = found-fit c.self.inside.goods c.args.bidder c.self.inside.quantities.items places c.in-Some.place.now found fit in
    ap length (c.quantities_at-kept.ensures ∙ ap (λ q. quantities_of c.self.inside.goods q c.in-Some.place.now) c.deref-in-Some.ensures.value) ∙ length-quantities c.self.inside.goods c.self.inside.quantities.items c.in-Some.place.now fits

pub returns-in-None : goal.returns-in-None
returns-in-None c =
    let places = take c.args.reports (drop c.args.from c.self.inside.places.items) in
    let same : take c.args.reports c.split_at.result.1.now ≡ places = ap (take c.args.reports) (c.split_at.ensures.back ∙ ap (drop c.args.from) c.deref.ensures.value) in
    let none : find (λ (p : Place). nat_eq p.bidder c.args.bidder) places ≡ None =
    ap (λ ps. find (λ (p : Place). nat_eq p.bidder c.args.bidder) ps) (sym same) ∙ sym c.place_of.ensures ∙ ap option_copied c.in-None.is in
    let test = λ (o : Option Report). option_map (λ (r : Report). same_demand r.demand c.args.demand.now) o in
    sym (ap (λ (v : PastOf). test (find (λ (r : Report). nat_eq r.bidder c.args.bidder) (take c.args.reports (drop c.args.from v.reports)))) (sym c.self.view_is)
    ∙ ap test (slice-find c.self.inside.goods c.args.from c.args.reports c.args.bidder c.self.inside.quantities.items c.self.inside.places.items ∙ ap (option_map (report_at c.self.inside.goods c.self.inside.quantities.items)) none))

pub returns-in-Some : goal.returns-in-Some
returns-in-Some c =
    let goods = c.self.inside.goods in
    let q = c.self.inside.quantities.items in
    let place = c.in-Some.place.now in
    let places = take c.args.reports (drop c.args.from c.self.inside.places.items) in
    let same : take c.args.reports c.split_at.result.1.now ≡ places = ap (take c.args.reports) (c.split_at.ensures.back ∙ ap (drop c.args.from) c.deref.ensures.value) in
    let found : find (λ (p : Place). nat_eq p.bidder c.args.bidder) places ≡ Some place =
    ap (λ ps. find (λ (p : Place). nat_eq p.bidder c.args.bidder) ps) (sym same) ∙ sym c.place_of.ensures ∙ ap option_copied c.in-Some.is in
    let fits = found-fit goods c.args.bidder q places place found (fit-take goods c.args.reports q _ (fit-drop goods c.args.from q c.self.inside.places.items c.self.invariant.fit)) in
    let kept = c.quantities_at-kept.ensures ∙ ap (λ z. quantities_of goods z place) c.deref-in-Some.ensures.value in
    let test = λ (o : Option Report). option_map (λ (r : Report). same_demand r.demand c.args.demand.now) o in
    ap Some (c.is_demand.ensures ∙ ap (λ d. same_demand d c.args.demand.now) (ap (groups place.count goods) kept ∙ sym (groups-quantities goods q place fits)))
    ∙ sym (ap (λ (v : PastOf). test (find (λ (r : Report). nat_eq r.bidder c.args.bidder) (take c.args.reports (drop c.args.from v.reports)))) (sym c.self.view_is)
    ∙ ap test (slice-find goods c.args.from c.args.reports c.args.bidder q c.self.inside.places.items ∙ ap (option_map (report_at goods q)) found))
