use Rattle.std.proofs.Common.{◌≡◌, ◌-◌, ◌∙◌, ◌∷◌, [], sym, ap, subst, arith, length, length-append, length-drop, take, drop, true, nat_eq}
use Rattle.std.specs.Prelude.{find, is_some}
use Rattle.std.specs.Vec.{vec_len}
use Rattle.std.proofs.lemmas.List.{length-take-le}
use Rattle.demand_set.specs.declared.reports.Report.{Report}
use Rattle.clock.specs.declared.kept_quantities.Place.{Place}
use Rattle.clock.specs.Past.{PastOf, again_among, with_again}
use Rattle.clock.proofs.Appended.{length-history}
use Rattle.clock.proofs.Stored.{is-there, again-history, again-fits}
use Rattle.clock.proofs.packing.Past.push_again.Goals as goal

pub split_at-requires : goal.split_at-requires
split_at-requires c =
    let e = ap (λ (v : PastOf). length v.reports) c.self.view_is in
    let l = length-history c.self.inside.goods c.self.inside.quantities.items c.self.inside.places.items in
    let d = ap length c.deref.ensures.value in
    let r = c.requires.inside in
    omega (arith, e, l, d, r)

pub slice_bounds-place_again-end : goal.slice_bounds-place_again-end
slice_bounds-place_again-end c =
    let e = ap (λ (v : PastOf). length v.reports) c.self.view_is in
    let l = length-history c.self.inside.goods c.self.inside.quantities.items c.self.inside.places.items in
    let d = ap length c.deref.ensures.value in
    let b = ap length c.split_at.ensures.back ∙ length-drop c.args.from c.deref.result.now in
    let r = c.requires.inside in
    sym (length-take-le c.args.reports c.split_at.result.1.now (omega (arith, e, l, d, b, r)))

pub push_reserved-requires : goal.push_reserved-requires
push_reserved-requires c =
    let inside = c.self.inside in
    let spare = ap (λ (v : PastOf). v.spare_reports) c.self.view_is in
    let size : vec_len inside.places ≡ length inside.places.items = omega (arith, inside.places.ok) in
    omega (arith, size, spare, c.requires.room, c.self.invariant.places_in)

pub invariant_of-self : goal.invariant_of-self
invariant_of-self c =
    let inside = c.self.inside in
    let goods = inside.goods in
    let q = inside.quantities.items in
    let places = inside.places.items in
    let spare = ap (λ (v : PastOf). v.spare_reports) c.self.view_is in
    let one = c.requires.room in
    let T : PastOf → Type 0 = λ v. is_some (find (λ (r : Report). nat_eq r.bidder c.args.bidder) (take c.args.reports (drop c.args.from v.reports))) ≡ true in
    let there = is-there goods c.args.from c.args.reports c.args.bidder q places (subst T (sym c.self.view_is) c.requires.there) in
    let slice : take c.args.reports c.split_at.result.1.now ≡ take c.args.reports (drop c.args.from places) = ap (take c.args.reports) (c.split_at.ensures.back ∙ ap (drop c.args.from) c.deref.ensures.value) in
    let is = c.place_again-place.ensures there.place (ap (λ ps. find (λ (p : Place). nat_eq p.bidder c.args.bidder) ps) slice ∙ there.found) in
    let items = c.push_reserved.ensures.items in
    let n = ap length items ∙ length-append places (c.place_again-place.result ∷ []) in
    let up = c.push_reserved.ensures.capacity in
    record {
      some_good = c.self.invariant.some_good;
      few_goods = c.self.invariant.few_goods;
      fit = again-fits goods c.args.from c.args.reports c.args.bidder c.args.round q places c.push_reserved.new.self.items there.place c.place_again-place.result there.found is items c.self.invariant.fit;
      quantities_in = c.self.invariant.quantities_in;
      places_in = omega (arith, n, spare, one, up, c.self.invariant.places_in);
      sets_in = omega (arith, n, spare, one, c.self.invariant.sets_in);
      starts = c.self.invariant.starts;
    }

pub returns : goal.returns
returns c =
    let inside = c.self.inside in
    let goods = inside.goods in
    let q = inside.quantities.items in
    let places = inside.places.items in
    let spare = ap (λ (v : PastOf). v.spare_reports) c.self.view_is in
    let one = c.requires.room in
    let T : PastOf → Type 0 = λ v. is_some (find (λ (r : Report). nat_eq r.bidder c.args.bidder) (take c.args.reports (drop c.args.from v.reports))) ≡ true in
    let there = is-there goods c.args.from c.args.reports c.args.bidder q places (subst T (sym c.self.view_is) c.requires.there) in
    let slice : take c.args.reports c.split_at.result.1.now ≡ take c.args.reports (drop c.args.from places) = ap (take c.args.reports) (c.split_at.ensures.back ∙ ap (drop c.args.from) c.deref.ensures.value) in
    let is = c.place_again-place.ensures there.place (ap (λ ps. find (λ (p : Place). nat_eq p.bidder c.args.bidder) ps) slice ∙ there.found) in
    let items = c.push_reserved.ensures.items in
    let history = again-history goods c.args.from c.args.reports c.args.bidder c.args.round q places c.push_reserved.new.self.items there.place c.place_again-place.result there.found is items c.self.invariant.fit in
    (λ i. record { goods = goods; reports = history i; sets = inside.sets.items; spare_reports = inside.spare_reports - 1; spare_quantities = inside.spare_quantities })
    ∙ ap (λ (v : PastOf). with_again v (again_among (take c.args.reports (drop c.args.from v.reports)) c.args.round c.args.bidder ∷ [])) c.self.view_is
