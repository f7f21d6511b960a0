use Rattle.std.proofs.Common.{◌≤◌, ◌<◌, ℕ, List, [], ◌∷◌, refl, sym, ◌∙◌, arith}
use Rattle.std.specs.List.{AllByRecursion}
use Rattle.lot_base.specs.declared.limits.TheConstants.{GREATEST_CEILING}
use Rattle.lot_base.proofs.Openings.{all-below}
use Rattle.rationale_tests.proofs.tests.prices_of.Goals as goal

at_most : (prices : List ℕ) → AllByRecursion (λ price. price < 10001) prices → AllByRecursion (λ price. price ≤ GREATEST_CEILING) prices
at_most [] below = tt
at_most (price ∷ prices) below = (let b = below.0 in omega arith, at_most prices below.1)

pub returns-in-None-clause-low : goal.returns-in-None-clause-low
returns-in-None-clause-low g c =
    let prices = c.in_ok-prices.prices in
    at_most prices (all-below prices 10001 prices (record { goods = refl; below = sym c.first_from.ensures ∙ c.in-None.is }))
