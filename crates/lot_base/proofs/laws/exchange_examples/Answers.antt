-- Giving one of the two goods away is worth nothing to either side.
use Rattle.std.proofs.Common.{◌<◌, ℕ, zero, suc, refl, arith, lit≤, inl, inr}
use Rattle.std.proofs.lemmas.Int.{ints}
use Rattle.lot_base.specs.Goods.{at}
use Rattle.lot_base.specs.RowsTables.{two, unit_demand, together}
use Rattle.lot_base.specs.Economy.{IsStrongSubstitutes}
use Rattle.lot_base.proofs.ExchangeTest.{exchanges-strong}
use Rattle.lot_base.proofs.laws.exchange_examples.Goals as goal

none_more : (l : ℕ) → at (two 1 1) l < at (two 0 0) l → ⊥
none_more zero less = omega arith
none_more (suc zero) less = omega arith
none_more (suc (suc l)) less = omega arith

not_together : IsStrongSubstitutes (two 1 1) (together 3) → ⊥
not_together strong = elim (strong (two 1 1) (two 0 0) 0 (lit≤ tt, (lit≤ tt, tt)) (lit≤ tt, (lit≤ tt, tt)) (lit≤ tt)) [
  | inl alone ↦ omega (arith, ints)
  | inr against ↦ none_more against.0 against.1
]

pub returns-clause-unit_demand : goal.returns-clause-unit_demand
returns-clause-unit_demand c = exchanges-strong (two 1 1) (unit_demand 5 4) refl

pub returns-clause-together : goal.returns-clause-together
returns-clause-together c = not_together
