use Rattle.std.proofs.Common.{◌≡◌, ◌∙◌, ◌++◌, ◌+◌, [], ◌∷◌, drop, true, sym, ap, subst}
use Rattle.std.specs.Prelude.{is_some}
use Rattle.clock.specs.Reports.{demand_in, demands_in}
use Rattle.two_way.specs.declared.past.Place.{Place}
use Rattle.two_way.specs.Past.{PastOf, with_report}
use Rattle.two_way.proofs.Pasts.{named_place, says-again}
use Rattle.two_way.proofs.past.Past.push_again.Goals as goal

pub invariant_of-self-2 : goal.invariant_of-self-2
invariant_of-self-2 c =
    let old = c.self.inside in
    let places = c.make_place.new.places in
    let same = c.in_ok-make_place.ensures.places in
    let q : Place = record { bidder = c.args.bidder; round = c.args.round + 1; number = c.number_in-number.result } in
    let items = c.push_reserved.ensures.items ∙ ap (λ ps. ps ++ q ∷ []) same in
    let back = c.split_at.ensures.back ∙ ap (drop c.args.from) c.deref.ensures.value in
    let P : PastOf → Type 0 = λ p. is_some (demand_in (drop c.args.from p.reports) c.args.round c.args.bidder) ≡ true in
    let some = subst P (sym c.self.view_is) c.requires.there in (
      (says-again old.demands.items old.places.items c.push_reserved.new.self.items c.args.from c.args.round c.args.bidder c.number_in-number.result c.self.invariant.0 some
          (λ p e. c.number_in-number.ensures p (ap (named_place c.args.round c.args.bidder) back ∙ e)) items).there,
      c.self.invariant.1,
    )

pub returns-clause-ok : goal.returns-clause-ok
returns-clause-ok c =
    let old = c.self.inside in
    let places = c.make_place.new.places in
    let same = c.in_ok-make_place.ensures.places in
    let q : Place = record { bidder = c.args.bidder; round = c.args.round + 1; number = c.number_in-number.result } in
    let items = c.push_reserved.ensures.items ∙ ap (λ ps. ps ++ q ∷ []) same in
    let back = c.split_at.ensures.back ∙ ap (drop c.args.from) c.deref.ensures.value in
    let P : PastOf → Type 0 = λ p. is_some (demand_in (drop c.args.from p.reports) c.args.round c.args.bidder) ≡ true in
    let some = subst P (sym c.self.view_is) c.requires.there in
    let reports = (says-again old.demands.items old.places.items c.push_reserved.new.self.items c.args.from c.args.round c.args.bidder c.number_in-number.result c.self.invariant.0 some
    (λ p e. c.number_in-number.ensures p (ap (named_place c.args.round c.args.bidder) back ∙ e)) items).reports in
    (λ i. record { goods = old.goods; reports = reports i })
    ∙ ap (λ (p : PastOf). with_report p (record { bidder = c.args.bidder; round = c.args.round + 1; demand = demands_in (drop c.args.from p.reports) c.args.round c.args.bidder })) c.self.view_is
