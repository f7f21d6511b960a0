-- What a net shows: what it tells of its doors and links, and the count of its faults. Doors and the links that are dialled are seen as what they
-- tell, and of the links at a door the counts of their faults too.
use Rattle.std.specs.Prelude.{ℕ, List, Option, map, option_map}
use Rattle.house_io.specs.Doors.{DoorLinks}
use Rattle.house_io.specs.Links.{LinkBytes}
use Rattle.house_io.specs.Nets.{NetLists}

-- what a link tells, and the count of its faults
pub record LinkShown : Type 0 where
  pub told : Option LinkBytes
  pub faults : ℕ

-- what a door tells, and the count of its faults
pub record DoorShown : Type 0 where
  pub told : Option (DoorLinks LinkShown)
  pub faults : ℕ

abbrev pub link_shown : {L : Type 0} → (L → Option LinkBytes) → (L → ℕ) → L → LinkShown
link_shown told faults link = record { told = told link; faults = faults link }

abbrev pub links_shown : {L : Type 0} → (L → Option LinkBytes) → (L → ℕ) → DoorLinks L → DoorLinks LinkShown
links_shown told faults door = record { to_come = map (link_shown told faults) door.to_come; hung_up = map (link_shown told faults) door.hung_up; free = door.free }

abbrev pub door_shown : {R L : Type 0} → (R → Option (DoorLinks L)) → (R → ℕ) → (L → Option LinkBytes) → (L → ℕ) → R → DoorShown
door_shown told faults link_told link_faults door = record { told = option_map (links_shown link_told link_faults) (told door); faults = faults door }

-- the doors and the links to come, those that were given back, in order, how many places are free for more of these, and the addresses at
-- which doors were asked for and those that were dialled, in order
pub record NetView : Type 0 where
  pub doors : List (Option (DoorLinks LinkShown))
  pub closed : List (Option (DoorLinks LinkShown))
  pub links : List (Option LinkBytes)
  pub hung_up : List (Option LinkBytes)
  pub door_places : ℕ
  pub link_places : ℕ
  pub asked : List (List ℕ)
  pub dialled : List (List ℕ)

unfoldable pub net_view : {D L M : Type 0} → (D → Option (DoorLinks M)) → (M → Option LinkBytes) → (M → ℕ) → (L → Option LinkBytes) → NetLists D L → NetView
net_view door_told door_link_told door_link_faults link_told lists = record {
  doors = map (λ door. option_map (links_shown door_link_told door_link_faults) (door_told door)) lists.doors;
  closed = map (λ door. option_map (links_shown door_link_told door_link_faults) (door_told door)) lists.closed;
  links = map link_told lists.links;
  hung_up = map link_told lists.hung_up;
  door_places = lists.door_places;
  link_places = lists.link_places;
  asked = lists.asked;
  dialled = lists.dialled;
}

-- what a net tells, and the count of its faults
pub record NetShown : Type 0 where
  pub told : Option NetView
  pub faults : ℕ

abbrev pub net_shown : {N D L M : Type 0} → (N → Option (NetLists D L)) → (D → Option (DoorLinks M)) → (M → Option LinkBytes) → (M → ℕ) → (L → Option LinkBytes) → (N → ℕ) → N → NetShown
net_shown told door_told door_link_told door_link_faults link_told faults net = record { told = option_map (net_view door_told door_link_told door_link_faults link_told) (told net); faults = faults net }
