use Rattle.std.proofs.Common.{◌≡◌, ◌∙◌, Some, ap, sym, subst}
use Rattle.lot_base.specs.Goods.{IsRange}
use Rattle.recovery.specs.Journaled.{Owner}
use Rattle.demand_set.specs.declared.reports.Report.{Report}
use Rattle.session.specs.Asking.{IsOffered}
use Rattle.clock_book.specs.declared.entries.Entry.{Entry}
use Rattle.clock_book.specs.declared.origins.Origin.{Origin}
use Rattle.clock_book.specs.Past.{owner_in}
use Rattle.turn_desk.specs.Histories.{StartsWith, StartsWithAll}
use Rattle.turn_desk.specs.Passes.{Known, at_turn, after_giving}
use Rattle.clock_family.proofs.Offering.{same-some, refusal-of}
use Rattle.clock_family.proofs.Glancing.{given-shown}
use Rattle.clock_family.proofs.turns.offer_on.Goals as goal

pub returns-clause-of_house : goal.returns-clause-of_house
returns-clause-of_house g c =
    let h = c.requires.of_house in
    let origin : Known Entry Origin → _ = λ p. p.origin in
    (h.0, ap origin c.give.ensures.given ∙ ap origin c.take-book.ensures.turn ∙ ap origin c.pass.view_is ∙ h.1, h.2)

pub returns-clause-offers : goal.returns-clause-offers
returns-clause-offers g c =
    let book = c.take-book.result in
    let after = c.offer-answer.new.self.state.history in
    record {
      origin = book.origin;
      origin_is = ap (λ (p : Known Entry Origin). p.origin) (sym c.pass.view_is) ∙ c.take-book.ensures.origin;
      before = book.state.history;
      goes_on = subst (λ (p : Known Entry Origin). StartsWith book.state.history p.seen) c.pass.view_is c.take-book.ensures.goes_on.0;
      also = subst (λ (p : Known Entry Origin). StartsWithAll book.state.history p.also) c.pass.view_is c.take-book.ensures.goes_on.1;
      after = after;
      offers = c.offer-answer.ensures.history;
      gives = c.give.ensures.given ∙ ap (λ (p : Known Entry Origin). after_giving p after) (c.take-book.ensures.turn ∙ ap (λ (p : Known Entry Origin). at_turn p book.state.history) c.pass.view_is);
    }

pub returns-clause-refusal : goal.returns-clause-refusal
returns-clause-refusal g c =
    let h = c.requires.of_house in
    let here = same-some c.take-book.result.origin h.0 (sym c.take-book.ensures.origin ∙ (ap (λ (p : Known Entry Origin). p.origin) c.pass.view_is ∙ h.1)) in
    let owner : owner_in c.take-book.result.origin ≡ owner_in h.0 = ap owner_in here in
    let whole = owner ∙ h.2 in
    let r : Report = record { bidder = c.args.bidder; round = c.args.round; demand = c.args.demand } in
    let O : Owner → Type 0 = λ o. IsOffered (r.bidder ≡ o.clock) c.offer-answer.result in
    let R : Owner → Type 0 = λ o. IsRange 1 o.terms.bidders r.bidder in
    subst O whole (refusal-of (owner_in c.take-book.result.origin) c.take-book.result.state.history c.offer-answer.new.self.state.history r c.offer-answer.result (subst R (sym whole) c.requires.report.0) c.offer-answer.ensures.history)

pub invariant_of-pass : goal.invariant_of-pass
invariant_of-pass g c =
    let book = c.take-book.result in
    let after = c.offer-answer.new.self in
    given-shown c.look-look.result after.origin after.state.history c.take-book.new.pass c.give.new.pass (ap (λ (p : Known Entry Origin). p.origin) c.take-book.ensures.turn ∙ c.take-book.ensures.origin ∙ ap Some (sym c.offer-answer.ensures.origin)) c.give.ensures.given c.look-look.ensures.shows c.look-look.ensures.goods c.look-look.ensures.halted
