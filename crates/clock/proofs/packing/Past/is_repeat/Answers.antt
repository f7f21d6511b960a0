use Rattle.std.proofs.Common.{◌≡◌, ◌<◌, ℕ, nat_eq, sym, ap, subst, arith, length, take, List, Some, None, ◌∙◌, true, false}
use Rattle.std.specs.Prelude.{slice_get, find, reverse, option_copied}
use Rattle.clock.specs.Past.{PastOf, Fits, history_of, report_at, quantities_of}
use Rattle.clock.specs.Latest.{IsRepeat}
use Rattle.clock.specs.declared.kept_quantities.Place.{Place}
use Rattle.clock.proofs.Appended.{fits-at, get-at, length-history, history-at}
use Rattle.clock.proofs.LatestPlaces.{latest_place, latest-fits, first-repeats, later-repeats, same-demands, demands-same}
use Rattle.clock.proofs.packing.Past.is_repeat.Goals as goal

pub index-requires : goal.index-requires
index-requires c =
    let e = ap (λ (v : PastOf). length v.reports) c.self.view_is in
    let l = length-history c.self.inside.goods c.self.inside.quantities.items c.self.inside.places.items in
    let r = c.requires in
    omega (arith, e, l, r, c.self.inside.places.ok)

pub split_at-requires : goal.split_at-requires
split_at-requires c =
    let e = ap (λ (v : PastOf). length v.reports) c.self.view_is in
    let l = length-history c.self.inside.goods c.self.inside.quantities.items c.self.inside.places.items in
    let d = ap length c.deref.ensures.value in
    let r = c.requires in
    omega (arith, e, l, d, r)

pub has_same-requires-clause-first : goal.has_same-requires-clause-first
has_same-requires-clause-first c =
    let goods = c.self.inside.goods in
    let q = c.self.inside.quantities.items in
    let places = c.self.inside.places.items in
    let p = c.index.result.now in
    let e = ap (λ (v : PastOf). length v.reports) c.self.view_is in
    let l = length-history goods q places in
    let r = c.requires in
    let inside : c.args.number < length places = omega (arith, e, l, r) in
    let earlier : c.split_at.result.0.now ≡ take c.args.number places = c.split_at.ensures.front ∙ ap (take c.args.number) c.deref.ensures.value in
    let found : latest_place c.args.number places p.bidder ≡ Some c.in-Some.before.now =
    ap (λ ps. find (λ (z : Place). nat_eq z.bidder p.bidder) (reverse ps)) (sym earlier) ∙ sym c.latest_place.ensures ∙ ap option_copied c.in-Some.is in
    let fit_before = latest-fits goods c.args.number p.bidder q places c.in-Some.before.now found c.self.invariant.fit in
    let fit_here = fits-at goods q places c.args.number p p inside c.index.ensures c.self.invariant.fit in
    let F : List ℕ → Type 0 = λ z. Fits goods z c.in-Some.before.now in
    subst F (sym c.deref-in-Some.ensures.value) fit_before

pub has_same-requires-clause-second : goal.has_same-requires-clause-second
has_same-requires-clause-second c =
    let goods = c.self.inside.goods in
    let q = c.self.inside.quantities.items in
    let places = c.self.inside.places.items in
    let p = c.index.result.now in
    let e = ap (λ (v : PastOf). length v.reports) c.self.view_is in
    let l = length-history goods q places in
    let r = c.requires in
    let inside : c.args.number < length places = omega (arith, e, l, r) in
    let fit_here = fits-at goods q places c.args.number p p inside c.index.ensures c.self.invariant.fit in
    let F : List ℕ → Type 0 = λ z. Fits goods z p in
    subst F (sym c.deref-in-Some.ensures.value) fit_here

pub returns-in-None : goal.returns-in-None
returns-in-None c =
    let goods = c.self.inside.goods in
    let q = c.self.inside.quantities.items in
    let places = c.self.inside.places.items in
    let p = c.index.result.now in
    let e = ap (λ (v : PastOf). length v.reports) c.self.view_is in
    let l = length-history goods q places in
    let r = c.requires in
    let inside : c.args.number < length places = omega (arith, e, l, r) in
    let here : slice_get (history_of goods q places) c.args.number ≡ Some (report_at goods q p) =
    history-at goods q places c.args.number p (get-at places c.args.number p p inside c.index.ensures) in
    let earlier : c.split_at.result.0.now ≡ take c.args.number places = c.split_at.ensures.front ∙ ap (take c.args.number) c.deref.ensures.value in
    let none : latest_place c.args.number places p.bidder ≡ None =
    ap (λ ps. find (λ (z : Place). nat_eq z.bidder p.bidder) (reverse ps)) (sym earlier) ∙ sym c.latest_place.ensures ∙ ap option_copied c.in-None.is in
    let R : PastOf → Type 0 = λ v. IsRepeat v.reports c.args.number in
    ((λ yes. absurd (let f : false ≡ true = yes in cc)), (λ h. absurd (first-repeats goods c.args.number q places p here none (subst R (sym c.self.view_is) h))))

pub returns-in-Some : goal.returns-in-Some
returns-in-Some c =
    let goods = c.self.inside.goods in
    let q = c.self.inside.quantities.items in
    let places = c.self.inside.places.items in
    let p = c.index.result.now in
    let e = ap (λ (v : PastOf). length v.reports) c.self.view_is in
    let l = length-history goods q places in
    let r = c.requires in
    let inside : c.args.number < length places = omega (arith, e, l, r) in
    let here : slice_get (history_of goods q places) c.args.number ≡ Some (report_at goods q p) =
    history-at goods q places c.args.number p (get-at places c.args.number p p inside c.index.ensures) in
    let earlier : c.split_at.result.0.now ≡ take c.args.number places = c.split_at.ensures.front ∙ ap (take c.args.number) c.deref.ensures.value in
    let found : latest_place c.args.number places p.bidder ≡ Some c.in-Some.before.now =
    ap (λ ps. find (λ (z : Place). nat_eq z.bidder p.bidder) (reverse ps)) (sym earlier) ∙ sym c.latest_place.ensures ∙ ap option_copied c.in-Some.is in
    let fit_before = latest-fits goods c.args.number p.bidder q places c.in-Some.before.now found c.self.invariant.fit in
    let fit_here = fits-at goods q places c.args.number p p inside c.index.ensures c.self.invariant.fit in
    let t = later-repeats goods c.args.number q places p c.in-Some.before.now here found in
    let R : PastOf → Type 0 = λ v. IsRepeat v.reports c.args.number in
    let S : List ℕ → Type 0 = λ z. (c.in-Some.before.now.count ≡ p.count) × (quantities_of goods z c.in-Some.before.now ≡ quantities_of goods z p) in (
      (λ yes. let s = subst S c.deref-in-Some.ensures.value (c.has_same.ensures.0 yes) in
          subst R c.self.view_is (t.from (demands-same goods q c.in-Some.before.now p fit_before fit_here s.0 s.1))),
      (λ h. c.has_same.ensures.1 (subst S (sym c.deref-in-Some.ensures.value) (same-demands goods q c.in-Some.before.now p fit_before fit_here (t.says (subst R (sym c.self.view_is) h))))),
    )
