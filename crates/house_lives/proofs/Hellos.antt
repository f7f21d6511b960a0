-- The bidder of a session is told by the bytes of its frames.
use Rattle.std.proofs.Common.{◌≡◌, ℕ, nat_eq, cond, List, [], ◌∷◌, map, drop, get_or, Option, Some, None, refl, sym, ◌∙◌, ap}
use Rattle.auction_file.specs.declared.listing.Auction.{Auction}
use Rattle.report_wire.specs.Frames.{Sent}
use Rattle.report_wire.specs.Messages.{house_sent}
use Rattle.report_wire.specs.declared.messages.ToHouse.{ToHouse}
use Rattle.report_wire.specs.declared.messages.ToHouse.TheVariants as house
use Rattle.session.specs.Table.{bidder_after, knows}
use Rattle.session.specs.Turns.{bidder_behind}

module _ (value : Auction) where
  -- after a frame that says this
  abbrev said-after : Option ℕ → Sent → Option ℕ
  said-after (Some b) s = Some b
  said-after None s = cond (nat_eq s.kind 1) (cond (knows value (get_or s.payload 0 0) (drop 1 s.payload)) (Some (get_or s.payload 0 0)) None) None

  after-said : (who : Option ℕ) (f : ToHouse) → bidder_after value who f ≡ said-after who (house_sent f)
  after-said None (house.Hello claimed token) = refl
  after-said None (house.Look clock) = refl
  after-said None (house.Report clock round demand) = refl
  after-said None house.Quit = refl
  after-said (Some b) (house.Hello claimed token) = refl
  after-said (Some b) (house.Look clock) = refl
  after-said (Some b) (house.Report clock round demand) = refl
  after-said (Some b) house.Quit = refl

  abbrev said-behind : Option ℕ → List Sent → Option ℕ
  said-behind who [] = who
  said-behind who (s ∷ ss) = said-behind (said-after who s) ss

  behind-said : (who : Option ℕ) (fs : List ToHouse) → bidder_behind value who fs ≡ said-behind who (map house_sent fs)
  behind-said who [] = refl
  behind-said who (f ∷ fs) = behind-said (bidder_after value who f) fs ∙ ap (λ w. said-behind w (map house_sent fs)) (after-said who f)

  pub one-bidder : (who : Option ℕ) (fs gs : List ToHouse) → map house_sent fs ≡ map house_sent gs → bidder_behind value who fs ≡ bidder_behind value who gs
  one-bidder who fs gs e = behind-said who fs ∙ ap (said-behind who) e ∙ sym (behind-said who gs)
