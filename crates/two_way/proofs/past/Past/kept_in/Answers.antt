use Rattle.std.proofs.Common.{◌≡◌, ◌<◌, ◌∙◌, List, length, drop, Some, None, sym, ap, subst}
use Rattle.std.specs.Prelude.{option_copied, option_map, slice_index_or}
use Rattle.lot_base.specs.Demands.{IsTable, least}
use Rattle.clock.specs.Reports.{demand_in}
use Rattle.two_way.specs.declared.past.Place.{Place}
use Rattle.two_way.specs.declared.past.Kept.{Kept}
use Rattle.two_way.specs.Past.{PastOf, nothing_kept}
use Rattle.two_way.proofs.Pasts.{named_place, demand-named, named-there, tabled-at}
use Rattle.two_way.proofs.past.Past.kept_in.Goals as goal

pub kept_of-requires : goal.kept_of-requires
kept_of-requires c =
    let places = c.self.inside.places.items in
    let demands = c.self.inside.demands.items in
    let back = c.split_at.ensures.back ∙ ap (drop c.args.from) c.deref.ensures.value in
    let found : named_place c.args.round c.args.bidder (drop c.args.from places) ≡ Some c.in-Some.place.now =
    ap (named_place c.args.round c.args.bidder) (sym back) ∙ sym c.place_of.ensures ∙ ap option_copied c.in-Some.is in
    let B : List Kept → Type 0 = λ ds. c.in-Some.place.now.number < length ds in
    subst B (sym c.deref-in-Some.ensures.value) (named-there demands c.args.from c.args.round c.args.bidder places c.in-Some.place.now c.self.invariant.0 found)

pub returns-in-None-clause-demand : goal.returns-in-None-clause-demand
returns-in-None-clause-demand c =
    let places = c.self.inside.places.items in
    let demands = c.self.inside.demands.items in
    let back = c.split_at.ensures.back ∙ ap (drop c.args.from) c.deref.ensures.value in
    let none : named_place c.args.round c.args.bidder (drop c.args.from places) ≡ None =
    ap (named_place c.args.round c.args.bidder) (sym back) ∙ sym c.place_of.ensures ∙ ap option_copied c.in-None.is in
    sym (ap (λ (p : PastOf). demand_in (drop c.args.from p.reports) c.args.round c.args.bidder) (sym c.self.view_is)
    ∙ demand-named demands c.args.from c.args.round c.args.bidder places
    ∙ ap (option_map (λ (p : Place). (slice_index_or demands p.number nothing_kept).demand)) none)

pub returns-in-Some-clause-demand : goal.returns-in-Some-clause-demand
returns-in-Some-clause-demand c =
    let places = c.self.inside.places.items in
    let demands = c.self.inside.demands.items in
    let back = c.split_at.ensures.back ∙ ap (drop c.args.from) c.deref.ensures.value in
    let found : named_place c.args.round c.args.bidder (drop c.args.from places) ≡ Some c.in-Some.place.now =
    ap (named_place c.args.round c.args.bidder) (sym back) ∙ sym c.place_of.ensures ∙ ap option_copied c.in-Some.is in
    let here = c.kept_of.ensures ∙ ap (λ ds. slice_index_or ds c.in-Some.place.now.number nothing_kept) c.deref-in-Some.ensures.value in
    ap (λ (k : Kept). Some k.demand) here
    ∙ sym (ap (λ (p : PastOf). demand_in (drop c.args.from p.reports) c.args.round c.args.bidder) (sym c.self.view_is)
    ∙ demand-named demands c.args.from c.args.round c.args.bidder places
    ∙ ap (option_map (λ (p : Place). (slice_index_or demands p.number nothing_kept).demand)) found)

pub returns-in-Some-clause-table : goal.returns-in-Some-clause-table
returns-in-Some-clause-table c =
    let places = c.self.inside.places.items in
    let demands = c.self.inside.demands.items in
    let back = c.split_at.ensures.back ∙ ap (drop c.args.from) c.deref.ensures.value in
    let found : named_place c.args.round c.args.bidder (drop c.args.from places) ≡ Some c.in-Some.place.now =
    ap (named_place c.args.round c.args.bidder) (sym back) ∙ sym c.place_of.ensures ∙ ap option_copied c.in-Some.is in
    let here = c.kept_of.ensures ∙ ap (λ ds. slice_index_or ds c.in-Some.place.now.number nothing_kept) c.deref-in-Some.ensures.value in
    let below = named-there demands c.args.from c.args.round c.args.bidder places c.in-Some.place.now c.self.invariant.0 found in
    let G : PastOf → Type 0 = λ p. IsTable (length p.goods) (least c.kept_of.result.now.demand) c.kept_of.result.now.least.0 in
    let K : Kept → Type 0 = λ k. IsTable (length c.self.inside.goods) (least k.demand) k.least.0 in
    subst G c.self.view_is (subst K (sym here) (tabled-at (length c.self.inside.goods) demands c.in-Some.place.now.number c.self.invariant.1 below))
