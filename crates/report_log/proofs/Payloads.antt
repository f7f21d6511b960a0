-- Payloads: what one spells where it is written in the words of the format, and how one is written where it spells a report.
use Rattle.std.proofs.Common.{◌≡◌, ◌<◌, ◌≤◌, ◌^◌, ℕ, ◌+◌, ◌*◌, Bool, true, false, ◌&&◌, nat_eq, cond, List, [], ◌∷◌, ◌++◌, length, get_or, take, drop, Some, None, refl, sym, ◌∙◌, ap, subst, arith, length-drop, mul_comm}
use Rattle.std.specs.Prelude.{nat_le}
use Rattle.byte_numbers.specs.Spelling.{big_bytes, big_number, short_numbers}
use Rattle.byte_numbers.proofs.Parts.{later_bytes, part_bytes}
use Rattle.byte_numbers.proofs.Pairs.{length-short_numbers, pairs_again}
use Rattle.byte_numbers.proofs.Spelled.{read_back, same_bytes}
use Rattle.std.specs.List.{flat_map}
use Rattle.std.proofs.lemmas.Bool.Decides.{nat_tests}
use Rattle.std.proofs.lemmas.List.{length-take-le}
use Rattle.lot_base.proofs.Within.{both}
use Rattle.report_wire.specs.Payloads.{is_report_payload}
use Rattle.report_wire.proofs.Spelling.{parts}
use Rattle.report_log.specs.Entries.{SpelledReport, spelled_in}
use Rattle.report_log.specs.Logs.{AreBytes}

-- a payload of these numbers
abbrev pub payload : ℕ → ℕ → ℕ → ℕ → List ℕ → List ℕ
payload bidder round goods count body = bidder ∷ big_bytes 4 round ++ goods ∷ big_bytes 2 count ++ body

pub payload-spelled : (bidder round goods count : ℕ) (body : List ℕ) → round < 2 ^ 32 → count < 2 ^ 16 → 1 ≤ goods → goods ≤ 6 → length body ≡ 2 * (goods * count)
    → spelled_in (payload bidder round goods count body) ≡ Some (record { bidder = bidder; round = round; goods = goods; quantities = short_numbers body })
payload-spelled bidder round goods count body small few some_good few_goods long =
    let whole = payload bidder round goods count body in
    let round_is : big_number 4 (big_bytes 4 round) ≡ round = read_back 4 round small in
    let count_is : big_number 2 (big_bytes 2 count) ≡ count = read_back 2 count few in
    let size : length whole ≡ 8 + 2 * (goods * count) = omega arith in
    let reaches : nat_le 8 (length whole) ≡ true = grind (arith, nat_tests) in
    let low : nat_le 1 goods ≡ true = grind (arith, nat_tests) in
    let high : nat_le goods 6 ≡ true = grind (arith, nat_tests) in
    let fits : nat_eq (length whole) (8 + 2 * (goods * count)) ≡ true = grind (arith, nat_tests) in
    λ i. cond ((reaches i && (low i && high i)) && (ap (λ k. nat_eq (length whole) (8 + 2 * (goods * k))) count_is ∙ fits) i) (Some (record { bidder = bidder; round = round_is i; goods = goods; quantities = short_numbers body })) None

-- what a payload spells is written in it
pub record IsWritten (bytes : List ℕ) (s : SpelledReport) : Type 0 where
  pub some_good : 1 ≤ s.goods
  pub few_goods : s.goods ≤ 6
  pub count : ℕ
  pub whole : length s.quantities ≡ count * s.goods
  pub is : bytes ≡ payload s.bidder s.round s.goods count (flat_map (big_bytes 2) s.quantities)

passed : (fits : Bool) (s t : SpelledReport) → cond fits (Some t) None ≡ Some s → (fits ≡ true) × (t ≡ s)
passed true s t e = (refl, let f : Some t ≡ Some s = e in cc)
passed false s t e = absurd (let f : None ≡ Some s = e in cc)

pub spelled-written : (bytes : List ℕ) (s : SpelledReport) → AreBytes bytes → spelled_in bytes ≡ Some s → IsWritten bytes s
spelled-written bytes s are e =
    let goods = get_or bytes 5 0 in
    let count = big_number 2 (take 2 (drop 6 bytes)) in
    let said : SpelledReport = record { bidder = get_or bytes 0 0; round = big_number 4 (take 4 (drop 1 bytes)); goods = goods; quantities = short_numbers (drop 8 bytes) } in
    let p = passed (is_report_payload bytes) s said e in
    let t = both (nat_le 8 (length bytes) && (nat_le 1 goods && nat_le goods 6)) (nat_eq (length bytes) (8 + 2 * (goods * count))) p.0 in
    let u = both (nat_le 8 (length bytes)) (nat_le 1 goods && nat_le goods 6) t.0 in
    let v = both (nat_le 1 goods) (nat_le goods 6) u.1 in
    let long : 8 ≤ length bytes = (let w = u.0 in grind (arith, nat_tests)) in
    let low : 1 ≤ goods = (let w = v.0 in grind (arith, nat_tests)) in
    let high : goods ≤ 6 = (let w = v.1 in grind (arith, nat_tests)) in
    let size : length bytes ≡ 8 + 2 * (goods * count) = (let w = t.1 in grind (arith, nat_tests)) in
    let behind : length (drop 8 bytes) ≡ 2 * (goods * count) = omega (arith, length-drop 8 bytes, size) in
    let round_is : big_bytes 4 (big_number 4 (take 4 (drop 1 bytes))) ≡ take 4 (drop 1 bytes) =
    same_bytes 4 (take 4 (drop 1 bytes)) (big_number 4 (take 4 (drop 1 bytes))) (length-take-le 4 (drop 1 bytes) (omega (arith, length-drop 1 bytes, long))) (part_bytes bytes 1 4 are) refl in
    let count_is : big_bytes 2 count ≡ take 2 (drop 6 bytes) =
    same_bytes 2 (take 2 (drop 6 bytes)) count (length-take-le 2 (drop 6 bytes) (omega (arith, length-drop 6 bytes, long))) (part_bytes bytes 6 2 are) refl in
    let body_is : flat_map (big_bytes 2) (short_numbers (drop 8 bytes)) ≡ drop 8 bytes = pairs_again (goods * count) (drop 8 bytes) behind (later_bytes bytes 8 are) in
    let found : IsWritten bytes said = record {
      some_good = low;
      few_goods = high;
      count = count;
      whole = length-short_numbers (goods * count) (drop 8 bytes) behind ∙ mul_comm goods count;
      is = parts bytes long ∙ sym (λ i. get_or bytes 0 0 ∷ round_is i ++ goods ∷ count_is i ++ body_is i);
    } in
    subst (IsWritten bytes) p.1 found
