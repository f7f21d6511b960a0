-- A talk worked by hand: bidder 1 of two, token 97 98 99, one unit demanded at each price.
use Rattle.std.specs.Prelude.{◌≡◌, ℕ, List, [], ◌∷◌, drop, Some, None, refl, map}
use Rattle.lot_base.specs.declared.phases.Phase.TheVariants.{Running, Ended}
use Rattle.report_wire.specs.declared.messages.ToHouse.{ToHouse}
use Rattle.report_wire.specs.declared.messages.ToHouse.TheVariants as house
use Rattle.report_wire.specs.declared.messages.ToBidder.TheVariants as bidder
use Rattle.bidder_agent.specs.Talks.{Part, Exchange, next_of, seen_in, repeats_last}

abbrev token : List ℕ
token = 97 ∷ 98 ∷ 99 ∷ []

abbrev p : Part
p = record { goods = 1; bidders = 2; who = 1; token = token; demands = λ prices. 1 ∷ []; looks = 1 }

abbrev report : ℕ → ToHouse
report clock = house.Report clock 1 (record { goods = 1; quantities = 1 ∷ [] })

-- the last exchange first
abbrev talk : List Exchange
talk =
    record { frame = house.Quit; reply = bidder.Bye } ∷
    record { frame = house.Look 2; reply = bidder.Price 2 1 Ended (0 ∷ []) } ∷
    record { frame = house.Look 0; reply = bidder.Price 0 1 Ended (0 ∷ []) } ∷
    record { frame = report 2; reply = bidder.Taken 2 1 } ∷
    record { frame = house.Look 2; reply = bidder.Price 2 1 Running (0 ∷ []) } ∷
    record { frame = report 0; reply = bidder.Taken 0 1 } ∷
    record { frame = house.Look 0; reply = bidder.Price 0 1 Running (0 ∷ []) } ∷
    record { frame = house.Hello 1 token; reply = bidder.Welcome 1 3 } ∷ []

first : next_of p [] ≡ Some (house.Hello 1 token)
first = refl

second : next_of p (drop 7 talk) ≡ Some (house.Look 0)
second = refl

third : next_of p (drop 6 talk) ≡ Some (report 0)
third = refl

fourth : next_of p (drop 5 talk) ≡ Some (house.Look 2)
fourth = refl

fifth : next_of p (drop 4 talk) ≡ Some (report 2)
fifth = refl

sixth : next_of p (drop 3 talk) ≡ Some (house.Look 0)
sixth = refl

seventh : next_of p (drop 2 talk) ≡ Some (house.Look 2)
seventh = refl

eighth : next_of p (drop 1 talk) ≡ Some house.Quit
eighth = refl

over : next_of p talk ≡ None
over = refl

seen : map (λ s. s.clock) (seen_in talk) ≡ 0 ∷ 2 ∷ []
seen = refl

-- a sixth reply that shows the same running round again
abbrev stuck : List Exchange
stuck = record { frame = house.Look 0; reply = bidder.Price 0 1 Running (0 ∷ []) } ∷ drop 3 talk

spent : repeats_last stuck ≡ 1
spent = refl

not_before : repeats_last (drop 3 talk) ≡ 0
not_before = refl
