-- Surpluses that are carried along while prices rise: one more than the surplus of each bundle of a box, in order of index, or 0
-- where the surplus is below 0. The empty bundle is worth 0 at any prices, so its number is 1, and nothing that is cut off is best.
use Rattle.std.specs.Prelude.{◌≡◌, ◌<◌, ◌≤◌, ◌+◌, ◌-◌, ◌*◌, ◌/◌, ◌%◌, ◌^◌, ℕ, zero, suc, min, max, filter, take, ◌==◌, List, length, slice_index, ℤ, pos, negsuc, ◌+ℤ◌}
use Rattle.std.specs.List.{fold, concat}
use Rattle.lot_base.specs.declared.limits.TheConstants.{MOST_UNITS}
use Rattle.lot_base.specs.Goods.{box_size, quantity_in, raised, cost, AtMost}
use Rattle.lot_base.specs.Box.{box, bundle_at, index_of}
use Rattle.lot_base.specs.Economy.{surplus}

-- surpluses of the bundles of a supply
pub record Carried : Type 0 where
  pub supply : List ℕ
  pub worth : List ℕ

-- a number, 0 where it is below 0
abbrev pub cut : ℤ → ℕ
cut (pos n) = n
cut (negsuc n) = 0

-- the list has of each bundle of the box one more than its surplus at the prices, 0 where that is below 0
abbrev pub CarriesAt : List ℕ → List ℕ → (List ℕ → ℤ) → List ℕ → Type 0
CarriesAt supply worth u p = (x : List ℕ) → AtMost x supply → slice_index worth (index_of supply x) ≡ cut (surplus u p x +ℤ pos 1)

abbrev pub Carries : Carried → (List ℕ → ℤ) → List ℕ → Type 0
Carries carried u p = CarriesAt carried.supply carried.worth u p

-- the prices after so many steps on one set of goods
abbrev pub raised_by : ℕ → ℕ → List ℕ → List ℕ
raised_by zero set p = p
raised_by (suc n) set p = raised (raised_by n set p) set

-- what each bundle of the box costs, in order of index
pub record AreCosts (supply p costs : List ℕ) : Type 0 where
  pub whole : length costs ≡ box_size supply
  pub each : (i : ℕ) → i < box_size supply → slice_index costs i ≡ cost p (bundle_at supply i)
  pub small : (i : ℕ) → slice_index costs i ≤ 2 ^ 50

-- a number, 65,535 where it is greater; and such a list
abbrev pub low : ℕ → ℕ
low n = min n 65535

pub record AreLowered (numbers lows : List ℕ) : Type 0 where
  pub whole : length lows ≡ length numbers
  pub each : (i : ℕ) → i < length numbers → slice_index lows i ≡ low (slice_index numbers i)

-- what each bundle of the box costs, 65,535 where it costs more, in order of index
pub record AreLowCosts (supply p costs : List ℕ) : Type 0 where
  pub whole : length costs ≡ box_size supply
  pub each : (i : ℕ) → i < box_size supply → slice_index costs i ≡ low (cost p (bundle_at supply i))

-- the costs of bundles of more goods: those of the others, once for each quantity of one good more at this price
pub record IsSpread (units price : ℕ) (old new : List ℕ) : Type 0 where
  pub whole : length new ≡ (units + 1) * length old
  pub each : (i : ℕ) → i < length new → slice_index new i ≡ slice_index old (i % length old) + (i / length old) * price

-- the units that each bundle has of the set, in order of index
pub record IsColumn (supply : List ℕ) (set : ℕ) (units : List ℕ) : Type 0 where
  pub whole : length units ≡ box_size supply
  pub each : (i : ℕ) → i < box_size supply → slice_index units i ≡ quantity_in (bundle_at supply i) set
  pub small : (i : ℕ) → slice_index units i ≤ MOST_UNITS

-- one more than each value less its cost, 0 where that is below 0
pub record IsLeft (values costs worth : List ℕ) : Type 0 where
  pub whole : length worth ≡ length costs
  pub each : (i : ℕ) → i < length costs → slice_index worth i ≡ (slice_index values i + 1) - slice_index costs i

-- at each place the one list has its number where the other list has its own
abbrev pub AreAlike : ℕ → ℕ → List ℕ → List ℕ → ℕ → Type 0
AreAlike before now old new count = (i : ℕ) → i < count → (slice_index new i == now) ≡ (slice_index old i == before)

-- so many times the units were taken from each, down to 0
pub record IsPaid (times : ℕ) (units old new : List ℕ) : Type 0 where
  pub whole : length new ≡ length old
  pub each : (i : ℕ) → i < length old → slice_index new i ≡ slice_index old i - times * slice_index units i

-- the greatest of some numbers, 0 of none
abbrev pub greatest : List ℕ → ℕ
greatest values = fold max 0 values

-- the quantities of those of the first bundles of the box whose number is the best, one bundle after another
abbrev pub best_before : List ℕ → List ℕ → ℕ → ℕ → List ℕ
best_before supply worth best count = concat (filter (λ x. slice_index worth (index_of supply x) == best) (take count (box supply)))

-- the fewest units that a bundle of the best has, no more than this
pub record IsFewest (most : ℕ) (units worth : List ℕ) (best fewest : ℕ) : Type 0 where
  pub bound : (i : ℕ) → i < length worth → slice_index worth i ≡ best → fewest ≤ slice_index units i
  pub reached : (n : ℕ) → n ≤ most → ((i : ℕ) → i < length worth → slice_index worth i ≡ best → n ≤ slice_index units i) → n ≤ fewest

-- after n steps a bundle, so far below the best and of so many units, is as it was: of the best, which have the same units, or
-- not of them
pub record StaysApart (gap units least n : ℕ) : Type 0 where
  pub same : gap ≡ 0 → 0 < n → units ≡ least
  pub apart : 0 < gap → n * least < gap + n * units

pub record IsSteadyAt (best least n worth units : ℕ) : Type 0 where
  pub same : worth ≡ best → 0 < n → units ≡ least
  pub apart : worth < best → n * least + worth < best + n * units

-- so is each bundle from the first place to the last, after so many steps and after fewer
pub record AreSteady (worth units : List ℕ) (best least first last steps : ℕ) : Type 0 where
  pub each : (i n : ℕ) → first ≤ i → i < last → n ≤ steps → IsSteadyAt best least n (slice_index worth i) (slice_index units i)
