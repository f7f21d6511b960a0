use Rattle.std.proofs.Common.{◌≡◌, [], ◌∷◌, sym, ◌∙◌, ap, subst}
use Rattle.std.specs.Prelude.{Result}
use Rattle.lot_base.specs.Goods.{zeros}
use Rattle.lot_base.specs.Limits.{IsTermsOf}
use Rattle.lot_base.specs.declared.auction_terms.Terms.{Terms}
use Rattle.lot_base.specs.declared.auction_terms.TermsFault.{TermsFault}
use Rattle.settlement.proofs.Lies.{lie-example}
use Rattle.settlement.proofs.incentives.lie_example.Goals as goal

pub returns : goal.returns
returns c =
    let T : Result Terms TermsFault → Type 0 = λ answer. IsTermsOf 1 c.unwrap.result 3 100 (zeros c.unwrap.result) answer in
    let h = subst T c.unwrap-2.ensures c.new-2.ensures.terms in
    let e = sym c.unwrap.ensures ∙ c.new.ensures in
    let goods : c.unwrap.result ≡ 2 ∷ [] = cc in
    lie-example c.unwrap-2.result (h.1 ∙ goods) h.2 h.3 h.0 (h.4 ∙ ap zeros goods)
