-- The sessions of a door lead its pass on by their turns.
use Rattle.std.proofs.Common.{ℕ, List, [], ◌∷◌, ◌++◌, Option, Some, None, subst}
use Rattle.std.specs.List.{flat_map}
use Rattle.house_io.specs.Links.{LinkBytes}
use Rattle.auction_file.specs.declared.listing.Auction.{Auction}
use Rattle.report_wire.specs.declared.messages.ToBidder.{ToBidder}
use Rattle.clock_family.specs.Houses.{HousePassOf}
use Rattle.session.specs.declared.halls.Asked.{Asked}
use Rattle.session.specs.declared.table.Line.{Line}
use Rattle.session.specs.declared.table.Line.TheVariants.{Says, Asks}
use Rattle.session.specs.Table.{line_of, bidder_after}
use Rattle.session.specs.Turns.{Turn, KeepsTo, IsTurn, AreTurns}
use Rattle.house_serve.specs.Doors.{Visit, AreVisits}
use Rattle.house_serve.specs.Houses.{PassAllows}
use Rattle.house_serve.proofs.Leading.{LeadsBy, Leads}

kept : (l : Line) (a : Option Asked) (reply : ToBidder) (before now : HousePassOf) → KeepsTo PassAllows l a reply before now → LeadsBy a before now
kept (Says said on) None reply before now h = h.1
kept (Says said on) (Some a) reply before now h = absurd h
kept (Asks question) None reply before now h = absurd h
kept (Asks question) (Some a) reply before now h = h.3

turn_leads : (auction : Auction) (who : Option ℕ) (before : HousePassOf) (t : Turn HousePassOf) → IsTurn PassAllows auction who before t → LeadsBy t.asked before t.now
turn_leads auction who before t h = kept (line_of auction who t.frame) t.asked t.reply before t.now h

leads_on : (ts us : List (Turn HousePassOf)) (x y z : HousePassOf) → Leads x ts y → Leads y us z → Leads x (ts ++ us) z
leads_on [] us x y z p q = subst (λ (s : HousePassOf). Leads s us z) p q
leads_on (t ∷ ts) us x y z p q = (p.0, leads_on ts us t.now y z p.1 q)

turns_lead : (auction : Auction) (ts : List (Turn HousePassOf)) (w w1 : Option ℕ) (x y : HousePassOf) → AreTurns PassAllows auction w x ts w1 y → Leads x ts y
turns_lead auction [] w w1 x y h = h.1
turns_lead auction (t ∷ ts) w w1 x y h = (turn_leads auction w x t h.0, turns_lead auction ts (bidder_after auction w t.frame) w1 t.now y h.1)

pub visits_lead : {L : Type 0} (told : L → Option LinkBytes) (faults : L → ℕ) (auction : Auction) (vs : List (Visit HousePassOf L)) (x y : HousePassOf) → AreVisits PassAllows told faults auction x vs y → Leads x (flat_map (λ (v : Visit HousePassOf L). v.turns) vs) y
visits_lead told faults auction [] x y h = h
visits_lead told faults auction (v ∷ vs) x y h =
    leads_on v.turns (flat_map (λ (v : Visit HousePassOf _). v.turns) vs) x v.now y (turns_lead auction v.turns None h.0.session.bidder x v.now h.0.session.held) (visits_lead told faults auction vs v.now y h.1)
