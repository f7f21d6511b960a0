-- What one door did: its links one after another, each with the session over it.
use Rattle.std.specs.Prelude.{◌≡◌, ◌-◌, ℕ, List, [], ◌∷◌, ◌++◌, length, map, take, Option}
use Rattle.house_io.specs.Told.{IfTold}
use Rattle.house_io.specs.Links.{LinkBytes}
use Rattle.house_io.specs.Doors.{DoorLinks, IsEmptyLink}
use Rattle.auction_file.specs.declared.listing.Auction.{Auction}
use Rattle.session.specs.declared.halls.Asked.{Asked}
use Rattle.session.specs.Turns.{Turn}
use Rattle.house_serve.specs.declared.ends.SessionEnd.{SessionEnd}
use Rattle.house_serve.specs.Pieces.{HasEndCause}
use Rattle.house_serve.specs.Serving.{IsSession}

-- one session at a door: the link as it came and as it was hung up, the turns, the end, and the hall's meaning then
pub record Visit (M L : Type 0) : Type 0 where
  pub came : L
  pub went : L
  pub turns : List (Turn M)
  pub end : SessionEnd
  pub now : M

module _ {M L : Type 0} (allows : M → Asked → M → Type 0) (told : L → Option LinkBytes) (faults : L → ℕ) (auction : Auction) where
  -- the session over the link is one, from the meaning before to the meaning then
  pub record IsVisit (before : M) (v : Visit M L) : Type 0 where
    pub session : IsSession allows auction v.turns before v.now (told v.came) (told v.went) v.end
    pub cause : HasEndCause (faults v.came) (faults v.went) v.end
    pub fresh : faults v.came ≡ 0

  abbrev pub AreVisits : M → List (Visit M L) → M → Type 0
  AreVisits before [] after = after ≡ before
  AreVisits before (v ∷ vs) after = IsVisit before v × AreVisits v.now vs after

  -- the links that came are the first of those to come, and links without bytes after these
  abbrev pub Come : List L → List L → List L → Type 0
  Come [] before after = after ≡ before
  Come (c ∷ cs) [] after = IsEmptyLink (told c) × Come cs [] after
  Come (c ∷ cs) (l ∷ ls) after = (l ≡ c) × Come cs ls after

  -- what the door tells: which links came, and that each was hung up in order, as long as there was a place
  pub record DoorTells (visits : List (Visit M L)) (before after : DoorLinks L) : Type 0 where
    pub come : Come (map (λ (v : Visit M L). v.came) visits) before.to_come after.to_come
    pub free : after.free ≡ before.free - length visits
    pub hung_up : after.hung_up ≡ before.hung_up ++ take before.free (map (λ (v : Visit M L). v.went) visits)

  -- the whole of a door, whose ends are these
  pub record IsDoor (before after : M) (door_before door_after : Option (DoorLinks L)) (ends : List SessionEnd) : Type 0 where
    pub visits : List (Visit M L)
    pub ends_are : ends ≡ map (λ (v : Visit M L). v.end) visits
    pub held : AreVisits before visits after
    pub links : IfTold door_before door_after (DoorTells visits)
