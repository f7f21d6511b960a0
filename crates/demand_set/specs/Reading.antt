-- What `Demand::from_raw` answers.
-- The quantities come one after another; bundles are groups of as many as there are goods. A bundle at a place is faulty
-- where it is outside the supply, or else not above the bundle before it in lexicographic order. The first faulty place
-- decides.
use Rattle.std.specs.Prelude.{◌≡◌, ℕ, ◌+◌, ◌*◌, ◌/◌, ◌≤◌, ◌==◌, Bool, true, if◌then◌else◌, List, [], ◌∷◌, length, take, drop, Option, Some, None, Result, Ok, Err, zero, suc}
use Rattle.std.specs.Prelude.{Vec}
use Rattle.std.specs.declared.alloc.Global.{Global}
use Rattle.std.specs.Cmp.Lexicographic.{slice_cmp}
use Rattle.std.specs.Ordering.{nat_cmp, is_lt}
use Rattle.lot_base.specs.Goods.{is_within}
use Rattle.demand_set.specs.declared.reading.DemandFault.{DemandFault}
use Rattle.demand_set.specs.declared.reading.DemandFault.TheVariants.{Empty, NotAscending, OutsideSupply, WrongGoods, NoMemory}

-- the numbers in groups of so many, the first so many groups
abbrev pub groups : ℕ → ℕ → List ℕ → List (List ℕ)
groups zero goods numbers = []
groups (suc count) goods numbers = take goods numbers ∷ groups count goods (drop goods numbers)

-- the bundles of quantities one after another
abbrev pub bundles_of : ℕ → List ℕ → List (List ℕ)
bundles_of goods quantities = groups (length quantities / goods) goods quantities

-- the quantities are those of some bundles of so many goods
pub record AreWhole (goods : ℕ) (quantities : List ℕ) : Type 0 where
  pub some_good : 1 ≤ goods
  pub few_goods : goods ≤ 6
  pub count : ℕ
  pub whole : length quantities ≡ count * goods

-- whether the bundle comes after the one before it, if there is one
abbrev pub is_after : Option (List ℕ) → List ℕ → Bool
is_after None bundle = true
is_after (Some before) bundle = is_lt (slice_cmp nat_cmp before bundle)

-- the fault of a bundle at a place after another bundle, if it has one
abbrev pub fault_at : List ℕ → ℕ → Option (List ℕ) → List ℕ → Option DemandFault
fault_at supply place before x = if is_within supply x then (if is_after before x then None else Some (NotAscending place)) else Some (OutsideSupply place)

abbrev pub or_else : Option DemandFault → Option DemandFault → Option DemandFault
or_else None other = other
or_else (Some fault) other = Some fault

-- the first fault of bundles, counted from a place on
abbrev pub fault_from : List ℕ → ℕ → Option (List ℕ) → List (List ℕ) → Option DemandFault
fault_from supply place before [] = None
fault_from supply place before (x ∷ rest) = or_else (fault_at supply place before x) (fault_from supply (place + 1) (Some x) rest)

abbrev pub unless : Option DemandFault → List (List ℕ) → Result (List (List ℕ)) DemandFault
unless None bundles = Ok bundles
unless (Some fault) bundles = Err fault

-- the bundles, or the first fault: another number of goods, no bundle, the first faulty place
abbrev pub demand_of : List ℕ → ℕ → List (List ℕ) → Result (List (List ℕ)) DemandFault
demand_of supply goods bundles =
    if goods == length supply
    then (if length bundles == 0 then Err Empty else unless (fault_from supply 0 None bundles) bundles)
    else Err (WrongGoods goods)

-- it is this answer, or memory ran out
abbrev pub IsOrNoMemory : {X : Type 0} → Result X DemandFault → Result X DemandFault → Type 0
IsOrNoMemory (Err NoMemory) wanted = Unit {0}
IsOrNoMemory answer wanted = answer ≡ wanted

-- the list of the bundles that are kept in a vector
abbrev pub seen : Result (Vec (List ℕ) Global) DemandFault → Result (List (List ℕ)) DemandFault
seen (Ok bundles) = Ok bundles.items
seen (Err fault) = Err fault
