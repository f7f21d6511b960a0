use Rattle.std.proofs.Common.{◌≡◌, ◌≤◌, ◌++◌, ◌-◌, [], List, vec_len, vec_capacity}
use Rattle.std.specs.List.{AllByRecursion}
use Rattle.house_io.specs.Doors.{DoorLinks, fresh_door}
use Rattle.house_io.specs.LinkForms.{SuredLink}
use Rattle.house_io.proofs.memory.sure_net.fill_up.Given as goal

abbrev pub invariant-fills : goal.invariant-fills
invariant-fills l = record {
  filled : (empty : List (DoorLinks SuredLink)) × (l.doors.items ≡ l.initial.doors.items ++ empty) × AllByRecursion (λ (door : DoorLinks SuredLink). door ≡ fresh_door []) empty;
  few : vec_len l.doors ≤ l.count;
  capacity : vec_capacity l.doors ≡ vec_capacity l.initial.doors;
}

abbrev pub decreases-fills : goal.decreases-fills
decreases-fills l = l.count - vec_len l.doors
