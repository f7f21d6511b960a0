use Rattle.std.proofs.Common.{rules, ◌≡◌, sym, subst}
use Rattle.clock_book.specs.Books.{BookOf}
use Rattle.lot_base.specs.Demands.{IsDemand}
use Rattle.lot_base.specs.declared.auction_terms.Terms.{Terms}
use Rattle.demand_set.specs.declared.reports.Report.{Report}
use Rattle.clock_book.specs.Past.{owner_in}
use Rattle.turn_desk.specs.Histories.{GoesOn}
use Rattle.clock_family.specs.Turns.{IsHistoryOffer}
use Rattle.clock_family.proofs.Offering.{history-offer, goes-on}
use Rattle.clock_family.proofs.house_books.HouseBook.offer.Goals as goal

pub offer_hinted-requires : goal.offer_hinted-requires
offer_hinted-requires g c =
    let kept = c.clock-kept.ensures.kept in
    let P : Terms → Type 0 = λ t. IsDemand t.goods c.args.demand in
    let here : c.args.self.now ≡ c.deref_mut-book.result.now = search rules in
    subst P (sym kept.terms) (subst (λ (b : BookOf g.row.D.Denot). P b.origin.terms) here c.requires)

pub returns-clause-history : goal.returns-clause-history
returns-clause-history g c =
    let kept = c.clock-kept.ensures.kept in
    let b = c.deref_mut-book.result.now in
    let here : b ≡ c.args.self.now = search rules in
    let r : Report = record { bidder = c.args.bidder; round = c.args.round; demand = c.args.demand } in
    let Is : BookOf g.row.D.Denot → Type 0 = λ x. IsHistoryOffer (owner_in x.origin) x.state.history r c.offer_hinted.result c.offer_hinted.new.self.state.history in
    subst Is here (history-offer (owner_in b.origin) b.state c.offer_hinted.new.self.state r c.offer_hinted.result
    (λ i. record { terms = kept.terms i; number = kept.number i; reports = sym kept.reports i }) kept.doubt _ _ c.offer_hinted.ensures.answer)

pub returns-clause-goes_on : goal.returns-clause-goes_on
returns-clause-goes_on g c =
    let kept = c.clock-kept.ensures.kept in
    let b = c.deref_mut-book.result.now in
    let here : b ≡ c.args.self.now = search rules in
    let r : Report = record { bidder = c.args.bidder; round = c.args.round; demand = c.args.demand } in
    subst (λ (x : BookOf g.row.D.Denot). GoesOn x.state.history c.offer_hinted.new.self.state.history) here (goes-on (owner_in b.origin) b.state.history c.offer_hinted.new.self.state.history r c.offer_hinted.result
    (history-offer (owner_in b.origin) b.state c.offer_hinted.new.self.state r c.offer_hinted.result
    (λ i. record { terms = kept.terms i; number = kept.number i; reports = sym kept.reports i }) kept.doubt _ _ c.offer_hinted.ensures.answer))
