-- The terms on which the goods of a file are sold.
use Rattle.std.proofs.Common.{◌≡◌, ℕ, List, length, map, Ok, Err, None, nat_le, sym, ◌∙◌, inl, inr, arith}
use Rattle.std.specs.List.{AllByRecursion, position}
use Rattle.lot_base.specs.Goods.{IsRange, zeros}
use Rattle.lot_base.specs.Limits.{IsTermsOf}
use Rattle.lot_base.specs.declared.auction_terms.Terms.{Terms}
use Rattle.lot_base.specs.declared.auction_terms.TermsFault.{TermsFault}
use Rattle.lot_base.specs.declared.auction_terms.TermsFault.TheVariants.{Bidders, Ceiling, Opening}
use Rattle.auction_file.specs.declared.goods_list.Good.{Good}
use Rattle.auction_file.specs.Listing.{IsOpened, IsTermsFor}
use Rattle.auction_file.proofs.Openings.{opening-zeros, position-opened}

-- in version 1 prices of 0 are the openings of the goods
pub first-terms : (version ceiling given bidders : ℕ) (goods : List Good) (supply : List ℕ) (terms : Terms) → version ≡ 1 → AllByRecursion (IsOpened version ceiling) goods → length supply ≡ length goods → given ≡ ceiling
    → IsTermsOf 1 supply bidders given (zeros supply) (Ok terms) → IsTermsFor version ceiling goods supply bidders terms
first-terms version ceiling given bidders goods supply terms first opened count same h = record {
  version_is = h.0 ∙ sym first;
  ceiling_is = h.3 ∙ same;
  goods_are = h.1;
  bidders_are = h.2;
  opening_is = h.4 ∙ opening-zeros version ceiling goods supply first opened count;
}

-- no terms are refused that are in range and open below the ceiling
pub not_refused : (version ceiling given bidders : ℕ) (goods : List Good) (supply opening : List ℕ) (refusal : TermsFault) → IsRange 2 10000 ceiling → AllByRecursion (IsOpened version ceiling) goods → IsRange 1 12 bidders
    → given ≡ ceiling → opening ≡ map (λ good. good.opening) goods → IsTermsOf 2 supply bidders given opening (Err refusal) → ⊥
not_refused version ceiling given bidders goods supply opening (Bidders found) range opened few same is h = elim h.1 [ inl low ↦ omega arith | inr high ↦ omega arith ]
not_refused version ceiling given bidders goods supply opening (Ceiling found) range opened few same is h = elim h.2 [ inl low ↦ omega arith | inr high ↦ omega arith ]
not_refused version ceiling given bidders goods supply opening (Opening good value) range opened few same is h =
    let none : position (λ price. nat_le given price) opening ≡ None = rw (same, is) (position-opened version ceiling goods opened) in
    cc (sym none ∙ h.2)
