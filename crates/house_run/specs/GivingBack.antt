-- Doors that are given back to a net, one after another.
use Rattle.std.specs.Prelude.{◌≡◌, ◌≤◌, ◌-◌, ◌++◌, ℕ, List, [], ◌∷◌, length, map}
use Rattle.house_io.specs.Faults.{raised_by}
use Rattle.house_io.specs.Nets.{NetLists}
use Rattle.house_io.specs.Told.{IfTold}
use Rattle.house_io.specs.declared.doors.Door as doors
use Rattle.house_io.specs.declared.nets.Net as nets

-- The doors were given back in order, where a place was free for each.
abbrev pub TakesAll : {D L : Type 0} → List D → NetLists D L → NetLists D L → Type 0
TakesAll doors before after = length doors ≤ before.door_places → after ≡ record before { closed = before.closed ++ doors; door_places = before.door_places - length doors }

-- a count to which these were added one after another
abbrev pub raised_by_all : ℕ → List ℕ → ℕ
raised_by_all before [] = before
raised_by_all before (more ∷ counts) = raised_by_all (raised_by before more) counts

-- these doors were given back to the net
abbrev pub HasTaken : {N L D M : Type 0} → nets.Ghosts N L D M → List D → N → N → Type 0
HasTaken net given old new = IfTold (net.told old) (net.told new) (TakesAll given)

-- the net counts the faults of the doors of these besides
abbrev pub CountsDoors : {N L D M X : Type 0} → nets.Ghosts N L D M → doors.Ghosts D M → (X → D) → List X → N → N → Type 0
CountsDoors net door door_of given old new = net.faults new ≡ raised_by_all (net.faults old) (map (λ x. door.faults (door_of x)) given)
