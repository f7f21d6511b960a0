use Rattle.std.proofs.Common.{◌≡◌, List, ℕ, Option, [], ◌∷◌, sym, ◌∙◌, subst}
use Rattle.std.specs.Prelude.{Result, IfSome, ◌≤◌}
use Rattle.lot_base.specs.Limits.{IsTermsOf}
use Rattle.lot_base.specs.declared.auction_terms.Terms.{Terms}
use Rattle.lot_base.specs.declared.auction_terms.TermsFault.{TermsFault}
use Rattle.settlement.proofs.Examples.{third-example}
use Rattle.settlement.proofs.laws.reserve_example.Goals as goal

pub returns : goal.returns
returns c =
    let T : Result Terms TermsFault → Type 0 = λ answer. IsTermsOf 2 c.unwrap.result 3 100 c.unwrap-opening.result answer in
    let h = subst T c.unwrap-2.ensures c.with_opening.ensures in
    let e = sym c.unwrap.ensures ∙ c.new.ensures in
    let goods : c.unwrap.result ≡ 2 ∷ [] = cc in
    let S : Option (List ℕ) → Type 0 = λ o. IfSome o (λ p. (p ≡ 9 ∷ []) × (1 ≤ 1) × (1 ≤ 6)) in
    let opening = subst S c.unwrap-opening.ensures c.read.ensures.some in
    third-example c.unwrap-2.result (h.1 ∙ goods) h.2 h.3 h.0 (h.4 ∙ opening.0)
