-- The report of a frame that is well formed has the quantities of some bundles.
use Rattle.std.proofs.Common.{◌≡◌, ◌≤◌, ℕ, ◌+◌, ◌*◌, true, ◌&&◌, List, [], ◌∷◌, length, refl, subst, sym, ◌∙◌, arith, mul_comm, nat_eq}
use Rattle.std.specs.Prelude.{nat_le, nat_lt}
use Rattle.byte_numbers.specs.Spelling.{big_bytes}
use Rattle.std.specs.List.{flat_map}
use Rattle.std.proofs.lemmas.Bool.{and_parts, and_from}
use Rattle.std.proofs.lemmas.Bool.Decides.{nat_tests}
use Rattle.lot_base.specs.declared.raw.RawDemand.{RawDemand}
use Rattle.demand_set.specs.Reading.{AreWhole}
use Rattle.report_wire.specs.Frames.{IsMessage}
use Rattle.report_wire.specs.Payloads.{report_payload, is_report_payload, is_between, goods_in, bundles_in, price_payload, is_phase, phase_number, halted_good}
use Rattle.report_wire.specs.Messages.{to_house, house_kind, house_payload, to_bidder}
use Rattle.session.specs.Asking.{IsGoodOf}
use Rattle.lot_base.specs.declared.phases.Phase.{Phase}
use Rattle.lot_base.specs.declared.phases.Phase.TheVariants.{Running, Ended, Halted}
use Rattle.report_wire.specs.declared.kinds.TheConstants.{REPORT, PRICE}
use Rattle.report_wire.specs.declared.messages.ToHouse.{ToHouse}
use Rattle.report_wire.specs.declared.messages.ToHouse.TheVariants as house
use Rattle.report_wire.proofs.Spelling.{length-pairs}

pub whole_of : (m : ToHouse) (clock round : ℕ) (d : RawDemand) → m ≡ house.Report clock round d → IsMessage to_house (house_kind m) (house_payload m) → AreWhole d.goods d.quantities
whole_of m clock round d is message =
    let here : IsMessage to_house REPORT (report_payload clock round d.goods d.quantities) = subst (λ (n : ToHouse). IsMessage to_house (house_kind n) (house_payload n)) is message in
    let payload = report_payload clock round d.goods d.quantities in
    let formed : is_report_payload payload ≡ true = here.formed in
    let t = and_parts (nat_le 8 (length payload) && is_between 1 6 (goods_in payload)) _ formed in
    let u = and_parts (nat_le 8 (length payload)) (is_between 1 6 (goods_in payload)) t.0 in
    let v = and_parts (nat_le 1 (goods_in payload)) (nat_le (goods_in payload) 6) u.1 in
    let low : 1 ≤ d.goods = (let w = v.0 in grind (arith, nat_tests)) in
    let high : d.goods ≤ 6 = (let w = v.1 in grind (arith, nat_tests)) in
    let size : length payload ≡ 8 + 2 * (d.goods * bundles_in payload) = (let w = t.1 in grind (arith, nat_tests)) in
    let n = length-pairs d.quantities in
    let long : length payload ≡ 8 + 2 * length d.quantities = omega (arith, n) in
    let whole : length d.quantities ≡ d.goods * bundles_in payload = omega (arith, size, long) in
    record { some_good = low; few_goods = high; count = bundles_in payload; whole = whole ∙ mul_comm d.goods (bundles_in payload) }

length_prices : (prices : List ℕ) → length (flat_map (big_bytes 4) prices) ≡ 4 * length prices
length_prices [] = refl
length_prices (p ∷ ps) = let h = length_prices ps in omega (arith, h)

phase_formed : (phase : Phase) (goods : ℕ) → IsGoodOf goods phase → is_phase (phase_number phase) (halted_good phase) goods ≡ true
phase_formed Running goods is = refl
phase_formed Ended goods is = refl
phase_formed (Halted good) goods is = let h : nat_lt good goods ≡ true = grind (arith, nat_tests) in h

pub price_formed : (clock round : ℕ) (phase : Phase) (prices : List ℕ) (goods : ℕ) → length prices ≡ goods → 1 ≤ goods → goods ≤ 6 → IsGoodOf goods phase → IsMessage to_bidder PRICE (price_payload clock round phase prices)
price_formed clock round phase prices goods is low high good =
    let payload = price_payload clock round phase prices in
    let n = length_prices prices in
    let size : length payload ≡ 8 + 4 * length prices = omega (arith, n) in
    let long : nat_le 8 (length payload) ≡ true = grind (arith, nat_tests) in
    let a : nat_le 1 (length prices) ≡ true = grind (arith, nat_tests) in
    let b : nat_le (length prices) 6 ≡ true = grind (arith, nat_tests) in
    let e : nat_eq (length payload) (8 + 4 * length prices) ≡ true = grind (arith, nat_tests) in
    let p : is_phase (phase_number phase) (halted_good phase) (length prices) ≡ true = subst (λ (k : ℕ). is_phase (phase_number phase) (halted_good phase) k ≡ true) (sym is) (phase_formed phase goods good) in
    record { formed = and_from _ _ (and_from _ _ long (and_from _ _ a b)) (and_from _ _ e p); short = omega (arith, size, is, high) }
