-- The passes of a house as rows, one pass for each clock, and the passes of one clock as a column.
use Rattle.std.specs.Prelude.{◌≡◌, ◌<◌, ℕ, List, [], ◌∷◌, ◌++◌, length, take, drop, map, slice_index_or}
use Rattle.std.specs.List.{AllByRecursion}
use Rattle.std.specs.declared.vec.Vec.{Vec}
use Rattle.clock_book.specs.declared.entries.Entry.{Entry}
use Rattle.clock_book.specs.declared.origins.Origin.{Origin}
use Rattle.turn_desk.specs.Passes.{Known}
use Rattle.clock_family.specs.Opening.{LaidOf}
use Rattle.clock_family.specs.Houses.{HousePassOf}

module _ {A : Type 0} where
  -- what stands at this place of each row
  abbrev pub cells : ℕ → List (List A) → List A
  cells c [] = []
  cells c (r ∷ rs) = take 1 (drop c r) ++ cells c rs

  -- so much of each row
  abbrev pub fronts : ℕ → List (List A) → List (List A)
  fronts c [] = []
  fronts c (r ∷ rs) = take c r ∷ fronts c rs

  -- each row with one more, in order
  abbrev pub dealt : List (List A) → List A → List (List A)
  dealt [] xs = []
  dealt (r ∷ rs) [] = r ∷ rs
  dealt (r ∷ rs) (x ∷ xs) = (r ++ x ∷ []) ∷ dealt rs xs

-- the passes of each pass of a house
abbrev pub rows_of : List HousePassOf → List (List (Known Entry Origin))
rows_of passes = map (λ (p : HousePassOf). p.passes) passes

-- what stands in each list
abbrev pub items_of : {X Z : Type 0} → List (Vec X Z) → List (List X)
items_of {X} {Z} lists = map (λ (l : Vec X Z). l.items) lists

-- The passes of these desks stand in these rows, one for each pass of the house.
pub record AreDealt {D : Type 0} (laid : List (LaidOf D)) (rows : List (List (Known Entry Origin))) : Type 0 where
  pub long : AllByRecursion (λ (r : List (Known Entry Origin)). length r ≡ length laid) rows
  pub columns : (k : ℕ) (l : LaidOf D) → k < length laid → cells k rows ≡ (slice_index_or laid k l).passes
