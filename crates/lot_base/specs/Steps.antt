-- The set of goods on which a round of demands raises the prices: among the sets of goods of greatest excess demand, taken
-- at the least that each bidder demands, the one with fewest goods, and among these the smallest as a number. It is the
-- least set of goods in excess demand of Ausubel 2006 and of Gul and Stacchetti, "The English Auction with Differentiated
-- Commodities", Journal of Economic Theory 92, 2000.
use Rattle.std.specs.Prelude.{◌≡◌, ◌<◌, ◌≤◌, ◌≤ℤ◌, ℕ, ◌^◌, Bool, not, List, length, find, unwrap_or, ℤ, pos, ◌-ℤ◌}
use Rattle.std.specs.List.{list_all, range_with_len}
use Rattle.std.specs.Ordering.{int_cmp, nat_cmp, ordering_then, is_lt}
use Rattle.std.specs.declared.cmp.Ordering.{Ordering}
use Rattle.lot_base.specs.Goods.{quantity_in, size_of}
use Rattle.lot_base.specs.Demands.{least}
use Rattle.lot_base.specs.Economy.{total_units}

-- how far the least quantities that the members demand of the set are above the supply of it
abbrev pub excess : List ℕ → (ℕ → List (List ℕ)) → List ℕ → ℕ → ℤ
excess supply demands members set = pos (total_units (λ j. least (demands j) set) members) -ℤ pos (quantity_in supply set)

-- the set is the step set where the sets of so many goods have these excesses
pub record IsStepSet (goods : ℕ) (excess : ℕ → ℤ) (set : ℕ) : Type 0 where
  pub is_set : set < 2 ^ goods
  pub greatest : (other : ℕ) → other < 2 ^ goods → excess other ≤ℤ excess set
  pub fewest : (other : ℕ) → other < 2 ^ goods → excess other ≡ excess set → size_of goods set ≤ size_of goods other
  pub smallest : (other : ℕ) → other < 2 ^ goods → excess other ≡ excess set → size_of goods other ≡ size_of goods set → set ≤ other

-- The same as a function: the order of sets as steps, and the first of all.
abbrev pub set_cmp : (ℕ → ℤ) → ℕ → ℕ → ℕ → Ordering
set_cmp excess goods set other =
    ordering_then (int_cmp (excess other) (excess set)) (ordering_then (nat_cmp (size_of goods set) (size_of goods other)) (nat_cmp set other))

abbrev pub is_first : (ℕ → ℤ) → ℕ → ℕ → Bool
is_first excess goods set = list_all (λ other. not (is_lt (set_cmp excess goods other set))) (range_with_len 0 (2 ^ goods))

abbrev pub first_set : (ℕ → ℤ) → ℕ → ℕ
first_set excess goods = unwrap_or (find (is_first excess goods) (range_with_len 0 (2 ^ goods))) 0

-- the step set of what the members demand
unfoldable pub step_set : List ℕ → (ℕ → List (List ℕ)) → List ℕ → ℕ
step_set supply demands members = first_set (excess supply demands members) (length supply)
