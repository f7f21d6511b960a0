use Rattle.std.proofs.Common.{rules, ◌≡◌, ◌<◌, ◌∙◌, length, ap, subst}
use Rattle.lot_base.specs.declared.auction_terms.Terms.{Terms}
use Rattle.clock_book.specs.Books.{BookOf}
use Rattle.clock_family.proofs.house_books.HouseBook.look.Goals as goal

pub returns-clause-halted : goal.returns-clause-halted
returns-clause-halted g c = λ good e.
    let kept = c.clock.ensures.kept in
    let same = ap (λ h. h.terms) c.clock.ensures.value ∙ kept.terms in
    let here : c.deref.result.now ≡ c.args.self.now = search rules in
    subst (λ (b : BookOf g.row.D.Denot). good < length b.origin.terms.goods) here (subst (λ (t : Terms). good < length t.goods) same (c.look.ensures.halted good e).0)
