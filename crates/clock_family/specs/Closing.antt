-- What closing a house takes.
use Rattle.std.specs.Prelude.{◌≡◌, ◌≤◌, ℕ, List, length, vec_capacity}
use Rattle.std.specs.List.{AllByRecursion}
use Rattle.std.specs.declared.vec.Vec.{Vec}
use Rattle.clock_family.specs.Houses.{ClosingOf}

-- an empty list with room for so many
pub record IsSpare {X Z : Type 0} (room : ℕ) (list : Vec X Z) : Type 0 where
  pub empty : length list.items ≡ 0
  pub room_is : room ≤ vec_capacity list

-- empty lists of passes, one for each clock, with room for so many passes each, and an empty list with room for a book of each clock
pub record IsReserved {X Y Z W : Type 0} (room : ℕ) (lists : List (Vec X Z)) (books : Vec Y W) : Type 0 where
  pub lists_are : AllByRecursion (IsSpare room) lists
  pub books_are : IsSpare (length lists) books

-- a list with room for so many in all
pub record IsRoomy {X Z : Type 0} (room : ℕ) (list : Vec X Z) : Type 0 where
  pub room_is : room ≤ vec_capacity list

-- what opening a house fills: empty rows for the passes, and empty lists of desks and of passes
pub record IsTray {X Y W Z A B : Type 0} (closing : ClosingOf) (rows : List (Vec X Z)) (desks : Vec Y A) (passes : Vec W B) : Type 0 where
  pub rows_are : AllByRecursion (IsSpare closing.clocks) rows
  pub desks_are : IsSpare closing.clocks desks
  pub passes_are : IsSpare (length rows) passes
  pub room_is : closing.room ≡ length rows
