-- What has the form of a payload has a kind and a length that are allowed.
use Rattle.std.proofs.Common.{◌≡◌, ℕ, true, List, length, arith}
use Rattle.std.proofs.lemmas.Bool.Decides.{nat_tests}
use Rattle.lot_base.proofs.Within.{both}
use Rattle.report_wire.specs.Payloads.{is_between}
use Rattle.report_wire.specs.declared.kinds.TheConstants.{HELLO, QUIT, WELCOME, BYE}
use Rattle.report_wire.specs.Messages.{to_house, house_allows, to_bidder, bidder_allows}

house_kinds : (kind n : ℕ) → house_allows kind n ≡ true → is_between HELLO QUIT kind ≡ true
house_kinds kind n is = grind (arith, nat_tests)

bidder_kinds : (kind n : ℕ) → bidder_allows kind n ≡ true → is_between WELCOME BYE kind ≡ true
bidder_kinds kind n is = grind (arith, nat_tests)

-- of frames to the house
pub house_is : (kind : ℕ) (payload : List ℕ) → to_house.is_payload kind payload ≡ true → (to_house.is_kind kind ≡ true) × (to_house.allows kind (length payload) ≡ true)
house_is kind payload is = let b = both _ _ is in (house_kinds kind (length payload) b.0, b.0)

-- of frames to a bidder
pub bidder_is : (kind : ℕ) (payload : List ℕ) → to_bidder.is_payload kind payload ≡ true → (to_bidder.is_kind kind ≡ true) × (to_bidder.allows kind (length payload) ≡ true)
bidder_is kind payload is = let b = both _ _ is in (bidder_kinds kind (length payload) b.0, b.0)
