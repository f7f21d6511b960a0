-- Quantities in two bytes each. The numbers that their bytes spell are the quantities, in groups the bundles.
use Rattle.std.proofs.Common.{◌≡◌, ◌<◌, ◌^◌, ℕ, zero, suc, ◌*◌, List, [], ◌∷◌, ◌++◌, length, take, drop, refl, sym, ◌∙◌, ap, arith, length-append, length-drop, take-append-drop}
use Rattle.byte_numbers.specs.Spelling.{big_bytes, short_numbers}
use Rattle.byte_numbers.proofs.Pairs.{length-pairs, numbers_before}
use Rattle.std.specs.List.{flat_map, AllByRecursion}
use Rattle.std.proofs.lemmas.List.{take_at, drop_at}
use Rattle.std.proofs.lemmas.Grind.{flat_map-append}
use Rattle.demand_set.specs.Reading.{groups}
use Rattle.report_log.proofs.PlainPayloads.{quantity_bytes}

-- each quantity fits two bytes
abbrev pub AreSmall : List ℕ → Type 0
AreSmall ns = AllByRecursion (λ n. n < 2 ^ 16) ns

pub groups-quantities : (goods : ℕ) (bundles : List (List ℕ)) → AllByRecursion (λ x. length x ≡ goods) bundles → AllByRecursion AreSmall bundles → groups (length bundles) goods (short_numbers (quantity_bytes bundles)) ≡ bundles
groups-quantities goods [] long small = refl
groups-quantities goods (x ∷ bundles) long small =
    let rest = short_numbers (quantity_bytes bundles) in
    ap (λ ns. take goods ns ∷ groups (length bundles) goods (drop goods ns)) (numbers_before x (quantity_bytes bundles) small.0)
    ∙ (λ i. take_at x rest goods long.0 i ∷ groups (length bundles) goods (drop_at x rest goods long.0 i))
    ∙ ap (λ others. x ∷ others) (groups-quantities goods bundles long.1 small.1)

pub length-quantities : (goods : ℕ) (bundles : List (List ℕ)) → AllByRecursion (λ x. length x ≡ goods) bundles → length (quantity_bytes bundles) ≡ 2 * (goods * length bundles)
length-quantities goods [] long = omega arith
length-quantities goods (x ∷ bundles) long =
    let rest = length-quantities goods bundles long.1 in
    let first = length-pairs x in
    let same = long.0 in
    omega (arith, length-append (flat_map (big_bytes 2) x) (quantity_bytes bundles))

-- numbers in groups have the bytes of the numbers
pub bytes-groups : (n goods : ℕ) (ns : List ℕ) → length ns ≡ n * goods → quantity_bytes (groups n goods ns) ≡ flat_map (big_bytes 2) ns
bytes-groups zero goods [] e = refl
bytes-groups zero goods (a ∷ ns) e = absurd (omega arith)
bytes-groups (suc n) goods ns e =
    let left : length (drop goods ns) ≡ n * goods = omega (arith, length-drop goods ns, e) in
    ap (λ rest. flat_map (big_bytes 2) (take goods ns) ++ rest) (bytes-groups n goods (drop goods ns) left)
    ∙ sym (flat_map-append (big_bytes 2) (take goods ns) (drop goods ns))
    ∙ ap (flat_map (big_bytes 2)) (take-append-drop goods ns)
