-- A payload spells at most one report, and what is read from it is the report that it spells.
use Rattle.std.proofs.Common.{◌≡◌, ◌<◌, ◌≤◌, ◌^◌, ℕ, suc, ◌*◌, ◌/◌, true, List, [], ◌∷◌, length, get_or, take, drop, Ok, Err, refl, sym, ◌∙◌, ap, arith}
use Rattle.byte_numbers.specs.Spelling.{big_bytes, short_numbers}
use Rattle.byte_numbers.proofs.Spelled.{one_number}
use Rattle.byte_numbers.proofs.Pairs.{length-pairs}
use Rattle.std.specs.Prelude.{nat_le}
use Rattle.std.proofs.lemmas.Bool.{and_from}
use Rattle.std.proofs.lemmas.Bool.Decides.{nat_tests}
use Rattle.std.specs.List.{flat_map, concat}
use Rattle.std.proofs.Math.Nat.{mul-div_cancel}
use Rattle.lot_base.specs.Demands.{IsDemand}
use Rattle.lot_base.specs.declared.auction_terms.Terms.{Terms}
use Rattle.demand_set.specs.declared.reports.Report.{Report}
use Rattle.demand_set.specs.declared.reading.DemandFault.{DemandFault}
use Rattle.demand_set.specs.Reading.{bundles_of, demand_of, AreWhole}
use Rattle.demand_set.proofs.Joined.{bundles_of-concat, demand_of-demand}
use Rattle.report_wire.specs.Payloads.{report_payload}
use Rattle.report_wire.specs.Entries.{is_entry}
use Rattle.report_wire.proofs.Spelling.{whole_is_formed}
use Rattle.recovery.specs.Entries.{AreSmall, payload_of, Spells, SpellsNone}
use Rattle.recovery.proofs.Demands.{one-length, small-demand, demand-few, demand-some, demand-whole, concat-groups, found-by}

-- numbers are told by their bytes
one-numbers : (p q : List ℕ) → AreSmall p → AreSmall q → flat_map (big_bytes 2) p ≡ flat_map (big_bytes 2) q → p ≡ q
one-numbers [] [] small small' e = refl
one-numbers [] (y ∷ q) small small' e = absurd (let n = ap length e in omega arith)
one-numbers (x ∷ p) [] small small' e = absurd (let n = ap length e in omega arith)
one-numbers (x ∷ p) (y ∷ q) small small' e =
    let first : big_bytes 2 x ≡ big_bytes 2 y = ap (λ (l : List ℕ). take 2 l) e in
    let rest : flat_map (big_bytes 2) p ≡ flat_map (big_bytes 2) q = ap (λ (l : List ℕ). drop 2 l) e in
    let heads : x ≡ y = one_number 2 x y small.0 small'.0 first in
    let tails : p ≡ q = one-numbers p q small.1 small'.1 rest in
    λ i. heads i ∷ tails i

-- what two spellings of one payload have in common
pub record IsSame (bidder round goods : ℕ) (quantities : List ℕ) (bidder' round' goods' : ℕ) (quantities' : List ℕ) : Type 0 where
  pub bidder_is : bidder ≡ bidder'
  pub round_is : round < 2 ^ 32 → round' < 2 ^ 32 → round ≡ round'
  pub goods_are : goods ≡ goods'
  pub quantities_are : quantities ≡ quantities'

pub one-entry : (bidder round goods : ℕ) (quantities : List ℕ) (bidder' round' goods' : ℕ) (quantities' : List ℕ) → AreSmall quantities → AreSmall quantities'
    → report_payload bidder round goods quantities ≡ report_payload bidder' round' goods' quantities' → IsSame bidder round goods quantities bidder' round' goods' quantities'
one-entry bidder round goods quantities bidder' round' goods' quantities' small small' e =
    let rounds : big_bytes 4 round ≡ big_bytes 4 round' = ap (λ (l : List ℕ). take 4 (drop 1 l)) e in
    record {
      bidder_is = ap (λ (l : List ℕ). get_or l 0 0) e;
      round_is = λ few few'. one_number 4 round round' few few' rounds;
      goods_are = ap (λ (l : List ℕ). get_or l 5 0) e;
      quantities_are = one-numbers quantities quantities' small small' (ap (λ (l : List ℕ). drop 8 l) e);
    }

-- what is spelled by numbers is the same as what is spelled by a report
pub spelled-same : (terms : Terms) (r : Report) (bidder round goods : ℕ) (quantities : List ℕ) → AreSmall quantities → Spells terms (report_payload bidder round goods quantities) r
    → IsSame bidder round goods quantities r.bidder r.round (length terms.goods) (concat r.demand)
unfolding payload_of
spelled-same terms r bidder round goods quantities small spells =
    one-entry bidder round goods quantities r.bidder r.round (length terms.goods) (concat r.demand) small (small-demand terms.goods r.demand terms.supply spells.report.fits) spells.is

-- the payload of a report is an entry
pub spelled-formed : (terms : Terms) (payload : List ℕ) (r : Report) → Spells terms payload r → is_entry payload ≡ true
unfolding payload_of
spelled-formed terms payload r spells =
    let goods = length terms.goods in
    let numbers = concat r.demand in
    let few = demand-few terms.goods r.demand terms.supply spells.report.fits in
    let long = length-pairs numbers in
    let short : nat_le (length (report_payload r.bidder r.round goods numbers)) 32768 ≡ true = grind (arith, nat_tests) in
    let formed = whole_is_formed r.bidder r.round goods numbers (demand-whole terms.goods r.demand terms.supply spells.report.fits) (omega (arith, few)) in
    ap is_entry spells.is ∙ and_from _ _ short formed

-- the demand that a report spells is read
spelled-demand : (terms : Terms) (r : Report) (bidder round goods : ℕ) (quantities : List ℕ) → AreSmall quantities → Spells terms (report_payload bidder round goods quantities) r
    → demand_of terms.goods goods (bundles_of goods quantities) ≡ Ok r.demand
spelled-demand terms r bidder round goods quantities small spells =
    let same = spelled-same terms r bidder round goods quantities small spells in
    (λ i. demand_of terms.goods (same.goods_are i) (bundles_of (same.goods_are i) (same.quantities_are i)))
    ∙ ap (demand_of terms.goods (length terms.goods)) (bundles_of-concat (length terms.goods) r.demand terms.supply.some_good (one-length terms.goods r.demand spells.report.fits))
    ∙ demand_of-demand terms.goods (length terms.goods) r.demand spells.report.fits refl

pub spelled-none : (terms : Terms) (bidder round goods : ℕ) (quantities : List ℕ) (fault : DemandFault) → AreSmall quantities → Err fault ≡ demand_of terms.goods goods (bundles_of goods quantities)
    → SpellsNone terms (report_payload bidder round goods quantities)
spelled-none terms bidder round goods quantities fault small refused r spells =
    let e : Err fault ≡ Ok r.demand = refused ∙ spelled-demand terms r bidder round goods quantities small spells in cc

pub spelled-empty : (terms : Terms) (bidder round goods : ℕ) (quantities : List ℕ) → AreSmall quantities → (1 ≤ length quantities → ⊥) → SpellsNone terms (report_payload bidder round goods quantities)
spelled-empty terms bidder round goods quantities small none r spells =
    let same = spelled-same terms r bidder round goods quantities small spells in
    none (omega (arith, ap length same.quantities_are, demand-some terms.goods r.demand terms.supply spells.report.fits))

-- no report is of a bidder that there is not
pub spelled-bidder : (terms : Terms) (bidder round goods : ℕ) (quantities : List ℕ) → ((1 ≤ bidder) → (bidder ≤ terms.bidders) → ⊥) → SpellsNone terms (report_payload bidder round goods quantities)
unfolding payload_of
spelled-bidder terms bidder round goods quantities none r spells =
    let e : bidder ≡ r.bidder = ap (λ (l : List ℕ). get_or l 0 0) spells.is in
    none (omega (arith, e, spells.report.from_one)) (omega (arith, e, spells.report.to_last))

-- and a demand that was read is spelled
pub spelled-some : (terms : Terms) (bidder round goods : ℕ) (quantities : List ℕ) (demand : List (List ℕ)) → 1 ≤ bidder → bidder ≤ terms.bidders → round < 2 ^ 32 → AreWhole goods quantities
    → IsDemand terms.goods demand → Ok demand ≡ demand_of terms.goods goods (bundles_of goods quantities) → Spells terms (report_payload bidder round goods quantities) (record { bidder = bidder; round = round; demand = demand })
unfolding payload_of
spelled-some terms bidder round goods quantities demand low high few whole fits read =
    let found = found-by terms.goods goods (bundles_of goods quantities) demand (sym read) in
    let n = length quantities / goods in
    let count : n ≡ whole.count = ap (λ k. k / goods) whole.whole ∙ mul-div_cancel whole.count whole.some_good in
    let long : length quantities ≡ n * goods = whole.whole ∙ ap (λ k. k * goods) (sym count) in
    let joined : quantities ≡ concat demand = sym (concat-groups n goods quantities long) ∙ ap concat found.same in
    record {
      report = record { from_one = low; to_last = high; round = few; fits = fits };
      is = λ i. report_payload bidder round (found.goods_are i) (joined i);
    }

-- two reports that one payload spells are one
pub one-report : (terms : Terms) (payload : List ℕ) (r s : Report) → Spells terms payload r → Spells terms payload s → r ≡ s
unfolding payload_of
one-report terms payload r s one two =
    let goods = length terms.goods in
    let small = small-demand terms.goods r.demand terms.supply one.report.fits in
    let small' = small-demand terms.goods s.demand terms.supply two.report.fits in
    let same = one-entry r.bidder r.round goods (concat r.demand) s.bidder s.round goods (concat s.demand) small small' (sym one.is ∙ two.is) in
    let apart : r.demand ≡ s.demand =
    sym (bundles_of-concat goods r.demand terms.supply.some_good (one-length terms.goods r.demand one.report.fits))
    ∙ ap (bundles_of goods) same.quantities_are
    ∙ bundles_of-concat goods s.demand terms.supply.some_good (one-length terms.goods s.demand two.report.fits) in
    λ i. record { bidder = same.bidder_is i; round = same.round_is one.report.round two.report.round i; demand = apart i }

-- numbers that two bytes spell fit them
pub numbers-small : (bytes : List ℕ) → ((i : ℕ) → get_or bytes i 0 < 2 ^ 8) → AreSmall (short_numbers bytes)
numbers-small [] each = tt
numbers-small (a ∷ []) each = tt
numbers-small (a ∷ b ∷ bytes) each = (let x = each 0 in let y = each 1 in omega (arith, x, y), numbers-small bytes (λ i. each (suc (suc i))))

-- no bytes spell no numbers, and some numbers take some bytes
pub numbers-some : (bytes : List ℕ) → 1 ≤ length (short_numbers bytes) → 1 ≤ length bytes
numbers-some [] some = some
numbers-some (a ∷ bytes) some = omega arith
