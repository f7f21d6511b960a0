-- What two bytes of a payload spell, and that a payload is that of one report.
use Rattle.std.proofs.Common.{◌≡◌, ◌<◌, ◌≤◌, ◌^◌, ℕ, ◌+◌, List, length, get_or, take, drop, refl, sym, ◌∙◌, ap, arith, length-drop}
use Rattle.std.proofs.lemmas.List.{length-take-le}
use Rattle.std.specs.List.{AllByRecursion, flat_map}
use Rattle.byte_numbers.specs.Spelling.{big_bytes, big_number, short_numbers}
use Rattle.byte_numbers.proofs.Spelled.{one_number, same_bytes}
use Rattle.byte_numbers.proofs.Parts.{part_bytes}
use Rattle.byte_numbers.proofs.Pairs.{numbers_again}
use Rattle.lot_base.specs.declared.raw.RawReport.{RawReport}
use Rattle.report_wire.specs.Entries.{entry_payload}

-- the number of two bytes of some bytes has these two bytes
pub pair-spelled : (bytes : List ℕ) (from : ℕ) → ((k : ℕ) → get_or bytes k 0 < 256) → from + 2 ≤ length bytes → big_bytes 2 (big_number 2 (take 2 (drop from bytes))) ≡ take 2 (drop from bytes)
pair-spelled bytes from are long =
    same_bytes 2 (take 2 (drop from bytes)) (big_number 2 (take 2 (drop from bytes))) (length-take-le 2 (drop from bytes) (let n = length-drop from bytes in omega (arith, n, long))) (part_bytes bytes from 2 are) refl

-- a payload is that of one report
pub one-report : (r s : RawReport) → r.round < 2 ^ 32 → s.round < 2 ^ 32 → AllByRecursion (λ n. n < 2 ^ 16) r.demand.quantities → AllByRecursion (λ n. n < 2 ^ 16) s.demand.quantities
    → entry_payload r ≡ entry_payload s → r ≡ s
one-report r s r_small s_small r_short s_short same =
    let bidder : r.bidder ≡ s.bidder = ap (λ (l : List ℕ). get_or l 0 0) same in
    let rounds : big_bytes 4 r.round ≡ big_bytes 4 s.round = ap (λ (l : List ℕ). take 4 (drop 1 l)) same in
    let round : r.round ≡ s.round = one_number 4 r.round s.round r_small s_small rounds in
    let goods : r.demand.goods ≡ s.demand.goods = ap (λ (l : List ℕ). get_or l 5 0) same in
    let bodies : flat_map (big_bytes 2) r.demand.quantities ≡ flat_map (big_bytes 2) s.demand.quantities = ap (λ (l : List ℕ). drop 8 l) same in
    let quantities : r.demand.quantities ≡ s.demand.quantities = sym (numbers_again r.demand.quantities r_short) ∙ ap short_numbers bodies ∙ numbers_again s.demand.quantities s_short in
    λ i. record { bidder = bidder i; round = round i; demand = record { goods = goods i; quantities = quantities i } }
