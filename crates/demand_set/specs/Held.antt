-- What every demand is, at some supply: some bundle, at most as many as a box has, in ascending order, all of one number of
-- goods, 1 to 6.
use Rattle.std.specs.Prelude.{◌≡◌, ◌≤◌, ℕ, List, length}
use Rattle.std.specs.List.{AllByRecursion}
use Rattle.lot_base.specs.declared.limits.TheConstants.{MOST_BUNDLES}
use Rattle.lot_base.specs.Goods.{IsRange}
use Rattle.lot_base.specs.Demands.{IsAscending}

pub record IsSomeDemand (bundles : List (List ℕ)) : Type 0 where
  pub some : 1 ≤ length bundles
  pub few : length bundles ≤ MOST_BUNDLES
  pub ascending : IsAscending bundles
  pub one_length : (goods : ℕ) × IsRange 1 6 goods × AllByRecursion (λ x. length x ≡ goods) bundles
