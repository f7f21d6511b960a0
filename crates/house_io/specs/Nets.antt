-- Nets: where doors are opened and links are dialled, and where both are given back.
use Rattle.std.specs.Prelude.{◌≡◌, ◌≤◌, ◌<◌, ◌+◌, ◌-◌, ℕ, List, [], ◌∷◌, ◌++◌, take, drop, Option, Result, Ok, Err, ◌⊎◌, IfErr, OnOk, Vec}
use Rattle.std.specs.declared.alloc.Global.{Global}
use Rattle.std.specs.List.{AllByRecursion}
use Rattle.house_io.specs.declared.shelves.Refusal.{Refusal}
use Rattle.house_io.specs.declared.shelves.Refusal.TheVariants as why
use Rattle.house_io.specs.Shelves.{IsRefused}
use Rattle.house_io.specs.Links.{LinkBytes}
use Rattle.house_io.specs.Doors.{DoorLinks, IsEmptyDoor, IsEmptyLink}

-- the doors and the links to come, those that were given back, in order, how many places are free for more of these, and the addresses at
-- which doors were asked for and those that were dialled, in order
pub record NetLists (D L : Type 0) : Type 0 where
  pub doors : List D
  pub links : List L
  pub closed : List D
  pub hung_up : List L
  pub door_places : ℕ
  pub link_places : ℕ
  pub asked : List (List ℕ)
  pub dialled : List (List ℕ)

-- The first so many doors to come were given, and, in place of those that are missing, doors without links. There is a place for each.
pub record GivesDoors {D L M : Type 0} (told : D → Option (DoorLinks M)) (address : List ℕ) (count : ℕ) (given : List D) (before after : NetLists D L) : Type 0 where
  pub empty : List D
  pub given_are : given ≡ take count before.doors ++ empty
  pub are_empty : AllByRecursion (λ door. IsEmptyDoor (told door)) empty
  pub rest : after ≡ record before { doors = drop count before.doors; door_places = before.door_places + count; asked = before.asked ++ address ∷ [] }

-- What asking for doors at an address does, by its answer: doors are given, or a fault refuses them, or memory ran out before the address was
-- asked.
abbrev pub AsksDoors : {D L M : Type 0} → (D → Option (DoorLinks M)) → List ℕ → ℕ → Result (Vec D Global) Refusal → NetLists D L → NetLists D L → Type 0
AsksDoors told address count (Ok doors) before after = GivesDoors told address count doors.items before after
AsksDoors told address count (Err why.Failed) before after = after ≡ record before { asked = before.asked ++ address ∷ [] }
AsksDoors told address count (Err why.NoMemory) before after = after ≡ before

-- The first of the links to come was given, or, where none was to come, a link without bytes. There is a place for it.
pub record GivesLink {D L : Type 0} (told : L → Option LinkBytes) (address : List ℕ) (link : L) (before after : NetLists D L) : Type 0 where
  pub given : (before.links ≡ link ∷ after.links) ⊎ ((before.links ≡ []) × (after.links ≡ []) × IsEmptyLink (told link))
  pub rest : after ≡ record before { links = after.links; link_places = before.link_places + 1; dialled = before.dialled ++ address ∷ [] }

-- what dialling an address does, by its answer, in the same way
abbrev pub Dials : {D L : Type 0} → (L → Option LinkBytes) → List ℕ → Result L Refusal → NetLists D L → NetLists D L → Type 0
Dials told address (Ok link) before after = GivesLink told address link before after
Dials told address (Err why.Failed) before after = after ≡ record before { dialled = before.dialled ++ address ∷ [] }
Dials told address (Err why.NoMemory) before after = after ≡ before

-- the door was given back where a place was free, and else dropped
pub record TakesDoor {D L : Type 0} (door : D) (before after : NetLists D L) : Type 0 where
  pub placed : 0 < before.door_places → after.closed ≡ before.closed ++ door ∷ []
  pub dropped : before.door_places ≡ 0 → after.closed ≡ before.closed
  pub rest : after ≡ record before { closed = after.closed; door_places = before.door_places - 1 }

-- the link was given back where a place was free, and else dropped
pub record TakesLink {D L : Type 0} (link : L) (before after : NetLists D L) : Type 0 where
  pub placed : 0 < before.link_places → after.hung_up ≡ before.hung_up ++ link ∷ []
  pub dropped : before.link_places ≡ 0 → after.hung_up ≡ before.hung_up
  pub rest : after ≡ record before { hung_up = after.hung_up; link_places = before.link_places - 1 }

-- the count never falls, the call is refused for a fault only where it rose, and any other answer adds nothing to it
pub record HasNetCause {T : Type 0} (before now : ℕ) (result : Result T Refusal) : Type 0 where
  pub later : before ≤ now
  pub refused : IfErr result (λ refusal. IsRefused refusal before now)
  pub steady : OnOk result (now ≡ before)
