-- How a session ends, by its frames and by what follows them.
use Rattle.std.specs.Prelude.{◌≡◌, ◌≤◌, ◌<◌, ◌^◌, ℕ, true, false, List, [], ◌∷◌, ◌++◌, length, Option, ◌⊎◌}
use Rattle.auction_file.specs.declared.listing.Auction.{Auction}
use Rattle.report_wire.specs.declared.frames.WireKind.{WireKind}
use Rattle.report_wire.specs.declared.messages.ToHouse.{ToHouse}
use Rattle.report_wire.specs.declared.messages.ToHouse.TheVariants as house
use Rattle.report_wire.specs.Frames.{IsFault, IsPartial, spelled}
use Rattle.report_wire.specs.Messages.{to_house, bidder_sent}
use Rattle.session.specs.Table.{goes_on, bidder_after, wire_reply}
use Rattle.session.specs.Turns.{goes_on_after}
use Rattle.house_serve.specs.declared.ends.SessionEnd.{SessionEnd}
use Rattle.house_serve.specs.declared.ends.SessionEnd.TheVariants as ends

-- the end by a frame after which the session does not go on: a quit, or a first hello that is not welcome
abbrev pub end_by : ToHouse → SessionEnd
end_by (house.Hello claimed token) = ends.BadToken
end_by (house.Look clock) = ends.Quit
end_by (house.Report clock round demand) = ends.Quit
end_by house.Quit = ends.Quit

-- The session goes on after all of the frames but the last, and ends with that one.
abbrev pub EndsWith : Auction → Option ℕ → List ToHouse → SessionEnd → Type 0
EndsWith auction who [] end = ⊥
EndsWith auction who (f ∷ []) end = (goes_on auction who f ≡ false) × (end ≡ end_by f)
EndsWith auction who (f ∷ g ∷ fs) end = (goes_on auction who f ≡ true) × EndsWith auction (bidder_after auction who f) (g ∷ fs) end

-- The session goes on after all of the frames but perhaps the last.
abbrev pub IsOneSession : Auction → Option ℕ → List ToHouse → Type 0
IsOneSession auction who [] = Unit {0}
IsOneSession auction who (f ∷ []) = Unit {0}
IsOneSession auction who (f ∷ g ∷ fs) = (goes_on auction who f ≡ true) × IsOneSession auction (bidder_after auction who f) (g ∷ fs)

-- the bytes of the reply to a fault
abbrev pub fault_bytes : WireKind → List ℕ
fault_bytes kind = spelled (bidder_sent (wire_reply kind))

-- A front of the replies' bytes was written, or all of these and a front of the reply to a fault.
abbrev pub IsCut : Auction → Option ℕ → List ToHouse → List ℕ → List ℕ → List ℕ → Type 0
IsCut auction who frames tail bytes given =
    IsOneSession auction who frames
    × ((more : List ℕ) × ((bytes ≡ given ++ more)
    ⊎ ((kind : WireKind) × (goes_on_after auction who frames ≡ true) × IsFault to_house kind tail × (bytes ++ fault_bytes kind ≡ given ++ more))))

-- The frames came, and this tail after them, at whose place so many bytes had come; these bytes are the replies', these were given,
-- and these are left: how each end comes.
abbrev pub EndsBy : Auction → Option ℕ → List ToHouse → List ℕ → ℕ → List ℕ → List ℕ → List ℕ → SessionEnd → Type 0
EndsBy auction who frames tail place left bytes given ends.Quit = EndsWith auction who frames ends.Quit × (given ≡ bytes)
EndsBy auction who frames tail place left bytes given ends.BadToken = EndsWith auction who frames ends.BadToken × (given ≡ bytes)
EndsBy auction who frames tail place left bytes given (ends.Wire fault) =
    (goes_on_after auction who frames ≡ true) × IsFault to_house fault.kind tail × (fault.place ≡ place) × (given ≡ bytes ++ fault_bytes fault.kind)
EndsBy auction who frames tail place left bytes given (ends.Closed rest) =
    (goes_on_after auction who frames ≡ true) × IsPartial to_house tail × (rest ≡ length tail) × (left ≡ []) × (given ≡ bytes)
EndsBy auction who frames tail place left bytes given ends.Spent = (goes_on_after auction who frames ≡ true) × IsPartial to_house tail × (given ≡ bytes)
EndsBy auction who frames tail place left bytes given ends.LinkFault = IsCut auction who frames tail bytes given
EndsBy auction who frames tail place left bytes given ends.NoMemory = IsCut auction who frames tail bytes given

-- how many bytes one session may take
abbrev pub most : ℕ
most = 2 ^ 40

-- how many were taken, by the end
abbrev pub TakesBy : ℕ → SessionEnd → Type 0
TakesBy taken ends.Quit = taken ≤ most
TakesBy taken ends.BadToken = taken ≤ most
TakesBy taken (ends.Wire fault) = taken ≤ most
TakesBy taken (ends.Closed rest) = taken < most
TakesBy taken ends.Spent = taken ≡ most
TakesBy taken ends.LinkFault = taken ≤ most
TakesBy taken ends.NoMemory = taken ≤ most
