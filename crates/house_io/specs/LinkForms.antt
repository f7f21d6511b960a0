-- Links, doors and nets in memory.
use Rattle.std.specs.Prelude.{◌≡◌, ◌≤◌, ◌<◌, ◌-◌, ◌+◌, ◌⊎◌, ℕ, List, [], ◌∷◌, ◌++◌, length, map, take, drop, max, Option, option_map, Result, Ok, Err, Vec}
use Rattle.std.specs.declared.alloc.Global.{Global}
use Rattle.house_io.specs.declared.shelves.Refusal.{Refusal}
use Rattle.house_io.specs.declared.shelves.Refusal.TheVariants as why
use Rattle.house_io.specs.Faults.{raised_by}
use Rattle.house_io.specs.SureForms.{Kept, empty_sink}
use Rattle.house_io.specs.ListForms.{CallPlan, begun, IsToFail}
use Rattle.house_io.specs.Links.{LinkBytes}
use Rattle.house_io.specs.Doors.{DoorLinks, fresh_door}
use Rattle.house_io.specs.Nets.{NetLists}

-- what was kept, in order, and how many places are free for more
pub record Placed (T : Type 0) : Type 0 where
  pub kept : List T
  pub free : ℕ

-- the thing was kept where a place was free, and else dropped
pub record Places {T : Type 0} (thing : T) (before after : Placed T) : Type 0 where
  pub free : after.free ≡ before.free - 1
  pub placed : 0 < before.free → after.kept ≡ before.kept ++ thing ∷ []
  pub dropped : before.free ≡ 0 → after.kept ≡ before.kept

-- a link on which no call fails: what is left, and what it kept
pub record SuredLink : Type 0 where
  pub left : List ℕ
  pub kept : Kept

-- a link before the first call
abbrev pub fresh_sure_link : List ℕ → ℕ → SuredLink
fresh_sure_link bytes room = record { left = bytes; kept = empty_sink room }

-- what a link with so much left tells, while its room suffices
abbrev pub link_bytes : List ℕ → Kept → Option LinkBytes
link_bytes left kept = option_map (λ (written : List ℕ). record { left = left; written = written }) kept.written

-- a link on which chosen calls fail: the plan, and the count of its faults
pub record ListedLink : Type 0 where
  pub link : SuredLink
  pub plan : CallPlan
  pub faults : ℕ

-- a link before the first call
abbrev pub fresh_list_link : List ℕ → ℕ → List ℕ → ListedLink
fresh_list_link bytes room failing = record { link = fresh_sure_link bytes room; plan = begun failing; faults = 0 }

-- the link with its count at 0
abbrev pub unfailed_link : ListedLink → ListedLink
unfailed_link link = record link { faults = 0 }

-- a door at which chosen calls fail: its links, the plan, and the count of its faults
pub record ListedDoor : Type 0 where
  pub links : DoorLinks ListedLink
  pub plan : CallPlan
  pub faults : ℕ

-- the link is the first of those to come, and nothing else changes
pub record IsFirstLink (link : ListedLink) (before after : DoorLinks ListedLink) : Type 0 where
  pub first : before.to_come ≡ link ∷ after.to_come
  pub rest : after ≡ record before { to_come = after.to_come }

-- a door before the first call; each link starts with its count at 0
abbrev pub fresh_list_door : List ListedLink → List ℕ → ListedDoor
fresh_list_door links failing = record { links = fresh_door (map unfailed_link links); plan = begun failing; faults = 0 }

-- the door with at least one place for each of its links to come
abbrev pub with_places : {L : Type 0} → DoorLinks L → DoorLinks L
with_places door = record door { free = max door.free (length door.to_come) }

-- the door with a place for each of its links to come, and its count at 0
abbrev pub ready_door : ListedDoor → ListedDoor
ready_door door = record door { links = with_places door.links; faults = 0 }

-- a net with these doors and links to come, to which nothing was given back
abbrev pub fresh_net : {D L : Type 0} → List D → List L → NetLists D L
fresh_net doors links = record { doors = doors; links = links; closed = []; hung_up = []; door_places = 0; link_places = 0; asked = []; dialled = [] }

-- a net on which chosen calls fail: its lists, the plan, and the count of its faults
pub record ListedNet : Type 0 where
  pub lists : NetLists ListedDoor ListedLink
  pub plan : CallPlan
  pub faults : ℕ

-- a net before the first call; each door has its places, and all start with their counts at 0
abbrev pub fresh_list_net : List ListedDoor → List ListedLink → List ℕ → ListedNet
fresh_list_net doors links failing =
    record { lists = fresh_net (map ready_door doors) (map unfailed_link links); plan = begun failing; faults = 0 }

-- the doors are the first so many of those to come; there is a place for each, the address is noted, and nothing else changes
pub record AreFirstDoors (address : List ℕ) (count : ℕ) (given : List ListedDoor) (before after : NetLists ListedDoor ListedLink) : Type 0 where
  pub first : given ≡ take count before.doors
  pub rest : after ≡ record before { doors = drop count before.doors; door_places = before.door_places + count; asked = before.asked ++ address ∷ [] }

-- the link is the first of those to come; there is a place for it, the address is noted, and nothing else changes
pub record IsFirstDialled (address : List ℕ) (link : ListedLink) (before after : NetLists ListedDoor ListedLink) : Type 0 where
  pub first : before.links ≡ link ∷ after.links
  pub rest : after ≡ record before { links = after.links; link_places = before.link_places + 1; dialled = before.dialled ++ address ∷ [] }

-- what asking for doors does, by its answer: one that memory ran out for asked no address
abbrev pub ListsDoors : List ℕ → ℕ → Result (Vec ListedDoor Global) Refusal → NetLists ListedDoor ListedLink → NetLists ListedDoor ListedLink → Type 0
ListsDoors address count (Ok doors) before after = AreFirstDoors address count doors.items before after
ListsDoors address count (Err why.Failed) before after = after ≡ record before { asked = before.asked ++ address ∷ [] }
ListsDoors address count (Err why.NoMemory) before after = after ≡ before

-- what dialling does, in the same way
abbrev pub ListsLink : List ℕ → Result ListedLink Refusal → NetLists ListedDoor ListedLink → NetLists ListedDoor ListedLink → Type 0
ListsLink address (Ok link) before after = IsFirstDialled address link before after
ListsLink address (Err why.Failed) before after = after ≡ record before { dialled = before.dialled ++ address ∷ [] }
ListsLink address (Err why.NoMemory) before after = after ≡ before

-- the door has a place for each of its links to come, and its count is at 0
abbrev pub IsReady : ListedDoor → Type 0
IsReady door = (length door.links.to_come ≤ door.links.free) × (door.faults ≡ 0)

-- A call is refused for a fault exactly where it was to fail, or where what it is to give is missing.
abbrev pub FailsBy : {T : Type 0} → Type 0 → CallPlan → Result T Refusal → Type 0
FailsBy IsMissing plan (Ok answer) = (IsToFail plan → ⊥) × (IsMissing → ⊥)
FailsBy IsMissing plan (Err why.Failed) = IsToFail plan ⊎ IsMissing
FailsBy IsMissing plan (Err why.NoMemory) = Unit {0}

-- the count after a call that may also find no memory, which is no fault
abbrev pub net_faults_after : {T : Type 0} → Result T Refusal → ℕ → ℕ
net_faults_after (Ok answer) faults = faults
net_faults_after (Err why.Failed) faults = raised_by faults 1
net_faults_after (Err why.NoMemory) faults = faults
