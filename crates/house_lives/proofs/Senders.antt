-- Who offered a report: the bidder of the session.
use Rattle.std.proofs.Common.{◌≡◌, inl, inr, ℕ, ◌+◌, Bool, true, false, nat_eq, nat_lt, length, cond, List, [], ◌∷◌, ◌++◌, Option, Some, None, Result, Ok, Err, sym, ◌∙◌, ap, subst}
use Rattle.auction_file.specs.declared.listing.Auction.{Auction}
use Rattle.demand_set.specs.Reading.{demand_of, bundles_of}
use Rattle.demand_set.specs.declared.reading.DemandFault.{DemandFault}
use Rattle.clock.specs.declared.judging.Offered.{Offered}
use Rattle.clock_family.specs.Houses.{HousePassOf}
use Rattle.report_wire.specs.declared.messages.ToHouse.{ToHouse}
use Rattle.report_wire.specs.declared.messages.ToHouse.TheVariants as house
use Rattle.report_wire.specs.declared.messages.ToBidder.{ToBidder}
use Rattle.report_wire.specs.declared.messages.ToBidder.TheVariants as bidder
use Rattle.report_wire.specs.declared.refusals.TheConstants.{BAD_TOKEN, UNKNOWN_CLOCK, NOT_MEMBER}
use Rattle.session.specs.declared.halls.Asked.TheVariants as asked
use Rattle.session.specs.declared.halls.Question.TheVariants as question
use Rattle.session.specs.declared.table.Line.{Line}
use Rattle.session.specs.declared.table.Line.TheVariants.{Says, Asks}
use Rattle.session.specs.Table.{bidder_after, knows, line_of, refusal, report_line}
use Rattle.session.specs.Turns.{AreTurns, IsTurn, KeepsTo, Turn, bidder_behind, frames_of}
use Rattle.house_serve.specs.Doors.{AreVisits, IsVisit, Visit}
use Rattle.house_serve.specs.Houses.{PassAllows}
use Rattle.house_io.specs.NetsShown.{LinkShown}
use Rattle.house_lives.proofs.Members.{In}

-- the hall was offered this
module _ (auction : Auction) (k b n : ℕ) (d : List (List ℕ)) (answer : Offered) where
  abbrev Keeps : Line → ToBidder → HousePassOf → HousePassOf → Type 0
  Keeps line given before after = KeepsTo PassAllows line (Some (asked.Offer k b n d answer)) given before after

  says-either : (t : Bool) (one other : ToBidder) (on off : Bool) (given : ToBidder) (before after : HousePassOf) → Keeps (cond t (Says one on) (Says other off)) given before after → ⊥
  says-either true one other on off given before after keeps = keeps
  says-either false one other on off given before after keeps = keeps

  at-line : (s t : Bool) (one other : ToBidder) (on off : Bool) (line : Line) (given : ToBidder) (before after : HousePassOf) → Keeps (cond s (Says one on) (cond t (Says other off) line)) given before after → Keeps line given before after
  at-line true t one other on off line given before after keeps = absurd keeps
  at-line false true one other on off line given before after keeps = absurd keeps
  at-line false false one other on off line given before after keeps = keeps

  asks-look : (clock : ℕ) (given : ToBidder) (before after : HousePassOf) → Keeps (Asks (question.Look clock)) given before after → ⊥
  asks-look clock given before after keeps = let f : question.Offer k b n d ≡ question.Look clock = keeps.0 in (let no : ⊥ = cc in no)

  asks-report : (who clock round : ℕ) (read : Result (List (List ℕ)) DemandFault) (given : ToBidder) (before after : HousePassOf) → Keeps (report_line who clock round read) given before after → who ≡ b
  asks-report who clock round (Ok demand) given before after keeps = let f : question.Offer k b n d ≡ question.Offer clock who round demand = keeps.0 in cc
  asks-report who clock round (Err fault) given before after keeps = absurd keeps

  asks-line : (who : Option ℕ) (frame : ToHouse) (given : ToBidder) (before after : HousePassOf) → Keeps (line_of auction who frame) given before after → who ≡ Some b
  asks-line who house.Quit given before after keeps = absurd keeps
  asks-line None (house.Hello claimed token) given before after keeps = absurd (says-either (knows auction claimed token) (bidder.Welcome (length auction.terms.goods) (auction.terms.bidders + 1)) (refusal BAD_TOKEN claimed) true false given before after keeps)
  asks-line None (house.Look clock) given before after keeps = absurd keeps
  asks-line None (house.Report clock round demand) given before after keeps = absurd keeps
  asks-line (Some x) (house.Hello claimed token) given before after keeps = absurd keeps
  asks-line (Some x) (house.Look clock) given before after keeps = absurd (asks-look clock given before after (at-line (nat_lt auction.terms.bidders clock) (nat_eq clock x) (refusal UNKNOWN_CLOCK clock) (refusal NOT_MEMBER clock) true true (Asks (question.Look clock)) given before after keeps))
  asks-line (Some x) (house.Report clock round demand) given before after keeps =
      let read = demand_of auction.terms.goods demand.goods (bundles_of demand.goods demand.quantities) in
      ap (λ (y : ℕ). Some y) (asks-report x clock round read given before after (at-line (nat_lt auction.terms.bidders clock) (nat_eq clock x) (refusal UNKNOWN_CLOCK clock) (refusal NOT_MEMBER clock) true true (report_line x clock round read) given before after keeps))

  asks-turn : (who : Option ℕ) (before : HousePassOf) (t : Turn HousePassOf) → t.asked ≡ Some (asked.Offer k b n d answer) → IsTurn PassAllows auction who before t → who ≡ Some b
  asks-turn who before t e keeps = asks-line who t.frame t.reply before t.now (subst (λ o. KeepsTo PassAllows (line_of auction who t.frame) o t.reply before t.now) e keeps)

  -- the session's bidder after the turns before
  pub bidder-of : (earlier later : List (Turn HousePassOf)) (t : Turn HousePassOf) (who last : Option ℕ) (before after : HousePassOf) → t.asked ≡ Some (asked.Offer k b n d answer)
      → AreTurns PassAllows auction who before (earlier ++ t ∷ later) last after → bidder_behind auction who (frames_of earlier) ≡ Some b
  bidder-of [] later t who last before after e are = asks-turn who before t e are.0
  bidder-of (u ∷ earlier) later t who last before after e are = bidder-of earlier later t (bidder_after auction who u.frame) last u.now after e are.1

-- one of the visits of a door
pub record IsVisited (auction : Auction) (v : Visit HousePassOf LinkShown) : Type 0 where
  pub before : HousePassOf
  pub is : IsVisit PassAllows (λ (l : LinkShown). l.told) (λ (l : LinkShown). l.faults) auction before v

pub visited : (auction : Auction) (vs : List (Visit HousePassOf LinkShown)) (v : Visit HousePassOf LinkShown) (before after : HousePassOf) → AreVisits PassAllows (λ (l : LinkShown). l.told) (λ (l : LinkShown). l.faults) auction before vs after → In v vs → IsVisited auction v
visited auction [] v before after are h = absurd h
visited auction (u ∷ vs) v before after are (inl e) = subst (IsVisited auction) e (record { before = before; is = are.0 })
visited auction (u ∷ vs) v before after are (inr h) = visited auction vs v u.now after are.1 h
