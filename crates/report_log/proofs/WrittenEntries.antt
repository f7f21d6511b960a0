-- The first entry of a log: that of a report that is judged Take is read, and what is read is the entry of such a report.
use Rattle.std.proofs.Common.{◌≡◌, ◌<◌, ◌≤◌, ℕ, ◌+◌, ◌*◌, ◌/◌, true, false, ◌&&◌, ◌||◌, nat_lt, cond, List, ◌++◌, length, take, drop, Some, None, Ok, refl, sym, ◌∙◌, ap, arith, length-append}
use Rattle.std.specs.Prelude.{nat_le}
use Rattle.byte_numbers.specs.Spelling.{big_bytes, big_number, short_numbers}
use Rattle.byte_numbers.proofs.Pairs.{length-short_numbers}
use Rattle.byte_numbers.proofs.Spelled.{read_back}
use Rattle.std.proofs.lemmas.Bool.Decides.{nat_tests}
use Rattle.std.proofs.lemmas.List.{take_at, drop_at}
use Rattle.std.proofs.Math.Nat.{mul-le-mul, mul-div_cancel}
use Rattle.lot_base.specs.Demands.{IsDemand}
use Rattle.demand_set.specs.declared.reports.Report.{Report}
use Rattle.demand_set.specs.Reading.{demand_of, bundles_of, groups}
use Rattle.clock.specs.Reports.{ClockHistory}
use Rattle.clock.specs.Judging.{judgement_of}
use Rattle.clock.specs.declared.judging.Judgement.TheVariants.{Take}
use Rattle.recovery.proofs.Demands.{few-bundles, one-length}
use Rattle.report_log.specs.Entries.{SpelledReport, spelled_in, taken, judged_in, report_in, payload_in, entry_in}
use Rattle.report_log.specs.Logs.{entry_of}
use Rattle.report_log.proofs.PlainPayloads.{payload-plain, plain_payload, quantity_bytes}
use Rattle.report_log.proofs.Quantities.{groups-quantities, length-quantities}
use Rattle.report_log.proofs.Payloads.{payload-spelled}
use Rattle.report_log.proofs.Faultless.{demand-found, small-quantities}
use Rattle.report_log.proofs.LastRound.{in-round, small-round}

-- an entry of this payload
payload-read : (c : ClockHistory) (size : ℕ) (whole rest : List ℕ) (s : SpelledReport) (r : Report) → size ≡ length whole → size ≤ 32768 → spelled_in whole ≡ Some s → report_in c (Some s) rest ≡ Some (r, rest)
    → entry_in c ((big_bytes 4 size ++ whole) ++ rest) ≡ Some (r, rest)
payload-read c size whole rest s r size_is few spells gives =
    let bytes = (big_bytes 4 size ++ whole) ++ rest in
    let value : big_number 4 (take 4 bytes) ≡ size = read_back 4 size (omega arith) in
    let reaches : nat_lt (length bytes) 4 ≡ false = grind (arith, nat_tests) in
    let long = length-append whole rest in
    let within : (nat_lt 32768 size || nat_lt (length (whole ++ rest)) size) ≡ false = grind (arith, nat_tests) in
    let front : take size (whole ++ rest) ≡ whole = take_at whole rest size (sym size_is) in
    let behind : drop size (whole ++ rest) ≡ rest = drop_at whole rest size (sym size_is) in
    ap (λ b. cond b None (payload_in c (big_number 4 (take 4 bytes)) (whole ++ rest))) reaches
    ∙ ap (λ n. payload_in c n (whole ++ rest)) value
    ∙ ap (λ b. cond b None (report_in c (spelled_in (take size (whole ++ rest))) (drop size (whole ++ rest)))) within
    ∙ (λ i. report_in c ((ap spelled_in front ∙ spells) i) (behind i)) ∙ gives

-- the report of a payload
report-read : (c : ClockHistory) (r : Report) (rest : List ℕ) → judgement_of c r ≡ Take → IsDemand c.terms.goods r.demand
    → report_in c (Some (record { bidder = r.bidder; round = r.round; goods = length c.terms.goods; quantities = short_numbers (quantity_bytes r.demand) })) rest ≡ Some (r, rest)
report-read c r rest take is =
    let goods = length c.terms.goods in
    let member = (in-round c r take).member in
    let low : nat_le 1 r.bidder ≡ true = (let m = member.from_one in grind (arith, nat_tests)) in
    let high : nat_le r.bidder c.terms.bidders ≡ true = (let m = member.to_last in grind (arith, nat_tests)) in
    let ns = short_numbers (quantity_bytes r.demand) in
    let same = one-length c.terms.goods r.demand is in
    let some : 0 < goods = (let s = c.terms.supply.some_good in omega arith) in
    let long : length ns ≡ length r.demand * goods = length-short_numbers (length r.demand * goods) (quantity_bytes r.demand) (omega (arith, length-quantities goods r.demand same)) in
    let count : length ns / goods ≡ length r.demand = ap (λ n. n / goods) long ∙ mul-div_cancel (length r.demand) some in
    let bundles : bundles_of goods ns ≡ r.demand =
    ap (λ n. groups n goods ns) count ∙ groups-quantities goods r.demand same (small-quantities c.terms.goods r.demand c.terms.supply is) in
    let demand : demand_of c.terms.goods goods (bundles_of goods ns) ≡ Ok r.demand = ap (demand_of c.terms.goods goods) bundles ∙ demand-found c.terms.goods r.demand is in
    let s : SpelledReport = record { bidder = r.bidder; round = r.round; goods = goods; quantities = ns } in
    (λ i. cond (low i && high i) (judged_in c s (demand i) rest) None) ∙ ap (λ j. taken j r rest) take

plain-read : (c : ClockHistory) (r : Report) (rest : List ℕ) → judgement_of c r ≡ Take → IsDemand c.terms.goods r.demand
    → entry_in c ((big_bytes 4 (length (plain_payload (length c.terms.goods) r)) ++ plain_payload (length c.terms.goods) r) ++ rest) ≡ Some (r, rest)
plain-read c r rest take is =
    let goods = length c.terms.goods in
    let few = few-bundles c.terms.goods r.demand c.terms.supply is in
    let same = one-length c.terms.goods r.demand is in
    let long : length (quantity_bytes r.demand) ≡ 2 * (goods * length r.demand) = length-quantities goods r.demand same in
    let most : goods * length r.demand ≤ 6 * 2048 = mul-le-mul c.terms.supply.few_goods few in
    let size : length (plain_payload goods r) ≡ 8 + 2 * (goods * length r.demand) = omega arith in
    payload-read c (length (plain_payload goods r)) (plain_payload goods r) rest
    (record { bidder = r.bidder; round = r.round; goods = goods; quantities = short_numbers (quantity_bytes r.demand) }) r refl (omega arith)
    (payload-spelled r.bidder r.round goods (length r.demand) (quantity_bytes r.demand) (small-round c r take) (omega arith) c.terms.supply.some_good c.terms.supply.few_goods long)
    (report-read c r rest take is)

pub entry-read : (c : ClockHistory) (r : Report) (rest : List ℕ) → judgement_of c r ≡ Take → IsDemand c.terms.goods r.demand → entry_in c (entry_of (length c.terms.goods) r ++ rest) ≡ Some (r, rest)
entry-read c r rest take is = ap (λ p. entry_in c ((big_bytes 4 (length p) ++ p) ++ rest)) (payload-plain c.terms.goods r c.terms.supply is) ∙ plain-read c r rest take is
