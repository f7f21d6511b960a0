-- How many bytes and quantities reports take, and that there is room for one more.
use Rattle.std.proofs.Common.{◌≡◌, ◌≤◌, ℕ, ◌+◌, ◌*◌, min, List, [], ◌∷◌, ◌++◌, length, map, None, refl, sym, ap, subst, arith, length-append}
use Rattle.byte_numbers.specs.Spelling.{big_bytes}
use Rattle.std.specs.List.{concat}
use Rattle.std.proofs.Math.Nat.{mul-le-mul_right}
use Rattle.std.proofs.lemmas.List.{map-append}
use Rattle.lot_base.specs.Goods.{box_size}
use Rattle.lot_base.specs.Demands.{IsDemand}
use Rattle.lot_base.specs.declared.limits.TheConstants.{GREATEST_PAYLOAD, GREATEST_FILE}
use Rattle.lot_base.specs.declared.auction_terms.Terms.{Terms}
use Rattle.lot_base.proofs.Order.{box_size-some}
use Rattle.demand_set.specs.declared.reports.Report.{Report}
use Rattle.demand_set.proofs.Faults.{are-good}
use Rattle.demand_set.proofs.Joined.{faultless, after-nothing}
use Rattle.report_wire.proofs.Spelling.{length-pairs}
use Rattle.report_journal.specs.Format.{Contents, header_bytes, records, front}
use Rattle.report_journal.specs.Puts.{with_one_more}
use Rattle.report_journal.proofs.Records.{front-push}
use Rattle.recovery.specs.Entries.{payload_of, IsReportOf, AreReportsOf}
use Rattle.recovery.specs.Journaled.{Owner, header_of, contents_of}
use Rattle.recovery.proofs.Demands.{demand-few, demand-long}
use Rattle.clock.specs.Reports.{most_reports}
use Rattle.clock_book.specs.DeskHistories.{NotedOf, HasRoomFor}
use Rattle.clock_book.specs.Books.{quantities_in, most_quantities, HasRoom}
use Rattle.clock_book.specs.Offers.{record_end}

pub payload-length : (goods : ℕ) (r : Report) → length (payload_of goods r) ≡ 8 + 2 * length (concat r.demand)
unfolding payload_of
payload-length goods r = let n = length-pairs (concat r.demand) in omega (arith, n)

pub payload-short : (terms : Terms) (r : Report) → IsDemand terms.goods r.demand → length (payload_of (length terms.goods) r) ≤ GREATEST_PAYLOAD
payload-short terms r fits = let n = payload-length (length terms.goods) r in let few = demand-few terms.goods r.demand terms.supply fits in omega (arith, n, few)

-- one report more
pub contents-push : (owner : Owner) (reports : List Report) (r : Report) → contents_of owner (reports ++ r ∷ []) ≡ with_one_more (contents_of owner reports) (payload_of (length owner.terms.goods) r)
contents-push owner reports r = ap (λ (ps : List (List ℕ)). record { header = header_of owner; payloads = ps }) (map-append (payload_of (length owner.terms.goods)) reports (r ∷ []))

pub end-push : (owner : Owner) (reports : List Report) (r : Report) → length (front (contents_of owner (reports ++ r ∷ []))) ≡ length (front (contents_of owner reports)) + 5 + length (payload_of (length owner.terms.goods) r)
end-push owner reports r =
    let payload = payload_of (length owner.terms.goods) r in
    let e = ap (λ (x : Contents). length (front x)) (contents-push owner reports r) in
    let f = ap length (front-push (contents_of owner reports) payload) in
    omega (arith, e, f, length-append (front (contents_of owner reports)) (0xa5 ∷ big_bytes 4 (length payload) ++ payload), length-append (big_bytes 4 (length payload)) payload)

pub quantities-push : (reports : List Report) (r : Report) → quantities_in (reports ++ r ∷ []) ≡ quantities_in reports + length (concat r.demand)
quantities-push [] r = omega arith
quantities-push (x ∷ reports) r = let e = quantities-push reports r in omega (arith, e)

-- two bytes to a quantity
quantities-records : (goods : ℕ) (reports : List Report) → 2 * quantities_in reports ≤ length (records (map (payload_of goods) reports))
quantities-records goods [] = omega arith
quantities-records goods (r ∷ reports) =
    let payload = payload_of goods r in
    let e = quantities-records goods reports in
    let n = payload-length goods r in
    let a = length-append (big_bytes 4 (length payload) ++ payload) (records (map (payload_of goods) reports)) in
    let b = length-append (big_bytes 4 (length payload)) payload in
    omega (arith, e, n, a, b)

pub quantities-front : (owner : Owner) (reports : List Report) → 2 * quantities_in reports ≤ length (front (contents_of owner reports))
quantities-front owner reports =
    let e = quantities-records (length owner.terms.goods) reports in
    let a = length-append (header_bytes (header_of owner)) (records (map (payload_of (length owner.terms.goods)) reports)) in
    omega (arith, e, a)

demand-box : (supply : List ℕ) (bundles : List (List ℕ)) → IsDemand supply bundles → length (concat bundles) ≤ length supply * box_size supply
demand-box supply bundles is =
    let good = are-good supply 0 None bundles (box_size-some supply) refl (faultless supply 0 None bundles (after-nothing bundles) is.ascending is.in_box) in
    let few : length bundles ≤ box_size supply = omega (arith, good.few) in
    let m = mul-le-mul_right (length supply) few in
    let e : length bundles * length supply ≡ length supply * length bundles = grind arith in
    let f : box_size supply * length supply ≡ length supply * box_size supply = grind arith in
    let l = demand-long supply bundles is in
    omega (arith, l, m, e, f)

quantities-box : (terms : Terms) (reports : List Report) → AreReportsOf terms reports → quantities_in reports ≤ length reports * (length terms.goods * box_size terms.goods)
quantities-box terms [] are = omega arith
quantities-box terms (r ∷ reports) are =
    let e = quantities-box terms reports are.1 in
    let f = demand-box terms.goods r.demand are.0.fits in
    let b = length terms.goods * box_size terms.goods in
    let s : (length reports + 1) * b ≡ length reports * b + b = grind arith in
    omega (arith, e, f, s)

at-most : (m n a : ℕ) → a ≤ m → a ≤ n → a ≤ min m n
at-most m n a low high = omega (arith, low, high)

-- the quantities of the reports and of one more are within the most
within-most : (owner : Owner) (number : ℕ) (reports : List Report) (r : Report) → AreReportsOf owner.terms reports → IsReportOf owner.terms r → length reports + 1 ≤ most_reports owner.terms number → record_end owner reports r ≤ GREATEST_FILE
    → quantities_in reports + length (concat r.demand) ≤ most_quantities owner.terms number
within-most owner number reports r are report more within =
    let terms = owner.terms in
    let b = length terms.goods * box_size terms.goods in
    let bytes : quantities_in reports + length (concat r.demand) ≤ 33554432 =
    let f = quantities-front owner reports in let n = payload-length (length terms.goods) r in omega (arith, f, n, within) in
    let e = quantities-box terms reports are in
    let d = demand-box terms.goods r.demand report.fits in
    let m : (length reports + 1) * b ≤ most_reports terms number * b = mul-le-mul_right b more in
    let s : (length reports + 1) * b ≡ length reports * b + b = grind arith in
    at-most 33554432 (most_reports terms number * b) (quantities_in reports + length (concat r.demand)) bytes (omega (arith, e, d, m, s))

-- there is room for one more report
pub room-for : (owner : Owner) (n : NotedOf) (records : ℕ) (r : Report) → HasRoom n records → n.clock.terms ≡ owner.terms → AreReportsOf owner.terms n.clock.reports → IsReportOf owner.terms r
    → length n.clock.reports + 1 ≤ most_reports n.clock.terms n.clock.number → record_end owner n.clock.reports r ≤ GREATEST_FILE → HasRoomFor n r × (1 ≤ records)
room-for owner n records r room same are report more within =
    let w = within-most owner n.clock.number n.clock.reports r are report (subst (λ (t : Terms). length n.clock.reports + 1 ≤ most_reports t n.clock.number) same more) within in
    let q = subst (λ (t : Terms). quantities_in n.clock.reports + length (concat r.demand) ≤ most_quantities t n.clock.number) (sym same) w in
    let reports : 1 ≤ n.spare_reports = omega (arith, more, room.reports) in
    let quantities : length (concat r.demand) ≤ n.spare_quantities = omega (arith, q, room.quantities) in
    (record { reports = reports; quantities = quantities }, omega (arith, more, room.records_are))
