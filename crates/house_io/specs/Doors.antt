-- Doors: where links come in, and where they are hung up again.
use Rattle.std.specs.Prelude.{◌≡◌, ◌≤◌, ◌<◌, ◌-◌, ℕ, List, [], ◌∷◌, ◌++◌, length, Option, Result, Ok, Err, ◌⊎◌, IfSome}
use Rattle.house_io.specs.declared.Failed.{Failed}
use Rattle.house_io.specs.Links.{LinkBytes}

-- the links to come, those that were hung up, in order, and how many places are free for more of these
pub record DoorLinks (L : Type 0) : Type 0 where
  pub to_come : List L
  pub hung_up : List L
  pub free : ℕ

-- a door with these links to come, and a place for each
abbrev pub fresh_door : {L : Type 0} → List L → DoorLinks L
fresh_door links = record { to_come = links; hung_up = []; free = length links }

-- a link without bytes to read, as far as it tells
abbrev pub IsEmptyLink : Option LinkBytes → Type 0
IsEmptyLink told = IfSome told (λ bytes. bytes.left ≡ [])

-- The first of the links to come was given, or, where none was to come, a link without bytes. After a failure all stays.
abbrev pub Accepts : {L : Type 0} → (L → Option LinkBytes) → Result L Failed → DoorLinks L → DoorLinks L → Type 0
Accepts told (Ok link) before after =
    (after.hung_up ≡ before.hung_up) × (after.free ≡ before.free)
    × ((before.to_come ≡ link ∷ after.to_come) ⊎ ((before.to_come ≡ []) × (after.to_come ≡ []) × IsEmptyLink (told link)))
Accepts told (Err failed) before after = after ≡ before

-- the link was hung up where a place was free, and else dropped
pub record HangsUp {L : Type 0} (link : L) (before after : DoorLinks L) : Type 0 where
  pub to_come : after.to_come ≡ before.to_come
  pub free : after.free ≡ before.free - 1
  pub placed : 0 < before.free → after.hung_up ≡ before.hung_up ++ link ∷ []
  pub dropped : before.free ≡ 0 → after.hung_up ≡ before.hung_up

-- the door has a place for each of its links to come, as far as it tells
abbrev pub HasPlaces : {L : Type 0} → Option (DoorLinks L) → Type 0
HasPlaces told = IfSome told (λ door. length door.to_come ≤ door.free)

-- no link is to come at the door, as far as it tells
abbrev pub IsEmptyDoor : {L : Type 0} → Option (DoorLinks L) → Type 0
IsEmptyDoor told = IfSome told (λ door. door.to_come ≡ [])
