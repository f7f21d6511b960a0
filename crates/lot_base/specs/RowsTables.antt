-- Valuations and bidders for worked examples over one good and over two.
use Rattle.std.specs.Prelude.{ℕ, ◌==◌, if◌then◌else◌, ◌*◌, ◌+◌, ◌-◌, min, max, List, [], ◌∷◌, ℤ, pos}
use Rattle.lot_base.specs.Goods.{at}

-- a number for the only good, and for each of two goods
abbrev pub one : ℕ → List ℕ
one a = a ∷ []

abbrev pub two : ℕ → ℕ → List ℕ
two a b = a ∷ b ∷ []

-- one good: what the first unit is worth, and what each further one adds
abbrev pub marginals : ℕ → ℕ → List ℕ → ℤ
marginals first further x = pos (first * min 1 (at x 0) + further * (at x 0 - 1))

-- two goods, and a use for one unit of either
abbrev pub unit_demand : ℕ → ℕ → List ℕ → ℤ
unit_demand a b x = pos (max (a * min 1 (at x 0)) (b * min 1 (at x 1)))

-- two goods, worth something only together
abbrev pub together : ℕ → List ℕ → ℤ
together worth x = pos (worth * min (at x 0) (at x 1))

-- three bidders for one good in two units, and two of whom the first takes both units
abbrev pub three_bidders : ℕ → List ℕ → ℤ
three_bidders j = if j == 1 then marginals 10 4 else if j == 2 then marginals 8 3 else marginals 6 1

abbrev pub unequal_bidders : ℕ → List ℕ → ℤ
unequal_bidders j = if j == 1 then marginals 10 9 else marginals 8 3

-- two bidders for two goods of one unit
abbrev pub two_bidders : ℕ → List ℕ → ℤ
two_bidders j = if j == 1 then unit_demand 5 4 else unit_demand 3 0
