-- What one door did with its pass, as its booth has it.
use Rattle.std.specs.Prelude.{◌≡◌, ◌<◌, ℕ, true, false, length, Option}
use Rattle.house_io.specs.Faults.{Rose}
use Rattle.house_io.specs.Links.{LinkBytes}
use Rattle.house_io.specs.Doors.{DoorLinks}
use Rattle.house_io.specs.declared.doors.Door as doors
use Rattle.house_io.specs.declared.links.Link as links
use Rattle.auction_file.specs.declared.listing.Auction.{Auction}
use Rattle.clock_family.specs.Houses.{HousePassOf, all_still}
use Rattle.house_serve.specs.Doors.{IsDoor}
use Rattle.house_serve.specs.Houses.{PassAllows}
use Rattle.house_serve.specs.declared.booths.Booth.{Booth}
use Rattle.house_serve.specs.declared.houses.DoorLog.{DoorLog}

-- The door served so many sessions with the pass, or it failed before, and its count rose. The pass stays one of its house.
pub record WasServed {R L : Type 0} (told : R → Option (DoorLinks L)) (faults : R → ℕ) (link_told : L → Option LinkBytes) (link_faults : L → ℕ) (auction : Auction) (sessions : ℕ) (old new : Booth HousePassOf R) : Type 0 where
  pub door : IsDoor PassAllows link_told link_faults auction old.pass new.pass (told old.door) (told new.door) new.ends.items
  pub done : new.failed ≡ false → (length new.ends.items ≡ sessions) × (faults new.door ≡ faults old.door)
  pub failed : new.failed ≡ true → (length new.ends.items < sessions) × Rose (faults old.door) (faults new.door)
  pub still : all_still new.pass ≡ all_still old.pass

-- the same by what doors and links show
abbrev pub WasServedBy : {R L : Type 0} → doors.Ghosts R L → links.Ghosts L → Auction → ℕ → Booth HousePassOf R → Booth HousePassOf R → Type 0
WasServedBy door link auction sessions old new = WasServed door.told door.faults link.told link.faults auction sessions old new

-- what became of a booth's door
abbrev pub log_of : {P R : Type 0} → Booth P R → DoorLog R
log_of booth = record { door = booth.door; ends = booth.ends; failed = booth.failed }
