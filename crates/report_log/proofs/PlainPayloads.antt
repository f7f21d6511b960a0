-- The payload of a report by its bundles: their number, and then the quantities of each.
use Rattle.std.proofs.Common.{◌≡◌, ◌∙◌, ◌≤◌, ◌*◌, ◌/◌, ◌++◌, ℕ, List, [], ◌∷◌, length, refl, ap, arith}
use Rattle.byte_numbers.specs.Spelling.{big_bytes}
use Rattle.std.specs.List.{concat, flat_map}
use Rattle.std.proofs.Math.Nat.{mul-div_cancel}
use Rattle.std.proofs.lemmas.Grind.{flat_map-append}
use Rattle.lot_base.specs.Demands.{IsDemand}
use Rattle.lot_base.specs.Goods.{IsSupply}
use Rattle.demand_set.specs.declared.reports.Report.{Report}
use Rattle.recovery.specs.Entries.{payload_of}
use Rattle.recovery.proofs.Demands.{demand-few, demand-long}

-- the quantities of all bundles, one after another
abbrev pub quantity_bytes : List (List ℕ) → List ℕ
quantity_bytes bundles = flat_map (λ bundle. flat_map (big_bytes 2) bundle) bundles

abbrev pub plain_payload : ℕ → Report → List ℕ
plain_payload goods r = r.bidder ∷ big_bytes 4 r.round ++ goods ∷ big_bytes 2 (length r.demand) ++ quantity_bytes r.demand

joined : (bundles : List (List ℕ)) → flat_map (big_bytes 2) (concat bundles) ≡ quantity_bytes bundles
joined [] = refl
joined (x ∷ bundles) = flat_map-append (big_bytes 2) x (concat bundles) ∙ ap (λ bytes. flat_map (big_bytes 2) x ++ bytes) (joined bundles)

pub payload-plain : (supply : List ℕ) (r : Report) → IsSupply supply → IsDemand supply r.demand → payload_of (length supply) r ≡ plain_payload (length supply) r
unfolding payload_of
payload-plain supply r sold is =
    let goods = length supply in
    let some : 1 ≤ goods = sold.some_good in
    let count : length (concat r.demand) / goods ≡ length r.demand = ap (λ n. n / goods) (demand-long supply r.demand is) ∙ mul-div_cancel (length r.demand) some in
    λ i. r.bidder ∷ big_bytes 4 r.round ++ goods ∷ big_bytes 2 (count i) ++ joined r.demand i

long : (ns : List ℕ) → length (flat_map (big_bytes 2) ns) ≡ 2 * length ns
long [] = refl
long (n ∷ ns) = let h = long ns in omega (arith, h)

pub payload-small : (supply : List ℕ) (r : Report) → IsSupply supply → IsDemand supply r.demand → length (payload_of (length supply) r) ≤ 32768
unfolding payload_of
payload-small supply r sold is = let few = demand-few supply r.demand sold is in let size = long (concat r.demand) in omega arith
