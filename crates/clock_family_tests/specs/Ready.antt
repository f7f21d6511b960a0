-- A house with its passes, between two calls.
use Rattle.std.specs.Prelude.{◌≡◌, List, length}
use Rattle.std.specs.List.{AllByRecursion}
use Rattle.lot_base.specs.declared.auction_terms.Terms.{Terms}
use Rattle.clock_family.specs.Turns.{AreOf}
use Rattle.clock_family.specs.Houses.{HouseOf, HousePassOf, AreAllOf}

-- these two are all passes of the house of these terms, each at rest
pub record IsReady {D : Type 0} (terms : Terms) (house : HouseOf D) (passes : List HousePassOf) : Type 0 where
  pub terms_are : house.terms ≡ terms
  pub count : length passes ≡ 2
  pub each : AllByRecursion (λ (p : HousePassOf). AreOf house.terms house.digest house.desks p.passes) passes
  pub all : AreAllOf house.desks passes
