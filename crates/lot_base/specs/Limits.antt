-- What `Goods::new` and `Terms::new` answer: the first fault in a stated order.
use Rattle.std.specs.Prelude.{◌≡◌, ◌⊎◌, ◌<◌, ℕ, ◌==◌, nat_lt, nat_le, if◌then◌else◌, List, length, Option, Some, None, Result, Ok, Err, position}
use Rattle.lot_base.specs.declared.limits.TheConstants.{MOST_GOODS, MOST_BUNDLES, MOST_BIDDERS, LEAST_CEILING, GREATEST_CEILING}
use Rattle.lot_base.specs.Goods.{box_size, at, IsRange, IsOpening}
use Rattle.lot_base.specs.declared.supply.GoodsFault.{GoodsFault}
use Rattle.lot_base.specs.declared.supply.GoodsFault.TheVariants.{NoGoods, TooManyGoods, ZeroSupply, BoxTooLarge}
use Rattle.lot_base.specs.declared.auction_terms.Terms.{Terms}
use Rattle.lot_base.specs.declared.auction_terms.TermsFault.{TermsFault}
use Rattle.lot_base.specs.declared.auction_terms.TermsFault.TheVariants.{Bidders, Ceiling, Opening}

-- the supply, unless its box is too large
abbrev pub small_supply : List ℕ → Result (List ℕ) GoodsFault
small_supply supply = if nat_lt MOST_BUNDLES (box_size supply) then Err (BoxTooLarge (box_size supply)) else Ok supply

-- the supply, unless a good, the first such good, has no unit
abbrev pub supply_with : Option ℕ → List ℕ → Result (List ℕ) GoodsFault
supply_with (Some good) supply = Err (ZeroSupply good)
supply_with None supply = small_supply supply

-- the supply, or the first fault of it: no goods, too many, one without a unit, too many bundles
abbrev pub supply_of : List ℕ → Result (List ℕ) GoodsFault
supply_of supply =
    if length supply == 0 then Err NoGoods
    else if nat_lt MOST_GOODS (length supply) then Err (TooManyGoods (length supply))
    else supply_with (position (λ s. s == 0) supply) supply

-- Terms of this version, with these goods, numbers and opening prices, or the first fault of these: the bidders are tested
-- before the ceiling, and the ceiling before the opening of each good.
abbrev pub IsTermsOf : ℕ → List ℕ → ℕ → ℕ → List ℕ → Result Terms TermsFault → Type 0
IsTermsOf version goods bidders ceiling opening (Ok terms) =
    (terms.version ≡ version) × (terms.goods ≡ goods) × (terms.bidders ≡ bidders) × (terms.ceiling ≡ ceiling) × (terms.opening ≡ opening)
    × IsRange 1 MOST_BIDDERS bidders × IsRange LEAST_CEILING GREATEST_CEILING ceiling × IsOpening goods ceiling opening
IsTermsOf version goods bidders ceiling opening (Err (Bidders found)) = (found ≡ bidders) × ((bidders < 1) ⊎ (MOST_BIDDERS < bidders))
IsTermsOf version goods bidders ceiling opening (Err (Ceiling found)) = (found ≡ ceiling) × IsRange 1 MOST_BIDDERS bidders × ((ceiling < LEAST_CEILING) ⊎ (GREATEST_CEILING < ceiling))
IsTermsOf version goods bidders ceiling opening (Err (Opening good value)) =
    IsRange 1 MOST_BIDDERS bidders × IsRange LEAST_CEILING GREATEST_CEILING ceiling × (position (λ price. nat_le ceiling price) opening ≡ Some good) × (value ≡ at opening good)
