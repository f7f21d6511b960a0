-- The first fault of bundles, and what bundles without a fault are.
use Rattle.std.proofs.Common.{◌≡◌, ◌<◌, ◌≤◌, ℕ, ◌+◌, ◌-◌, ◌/◌, Bool, true, false, nat_eq, cond, List, [], ◌∷◌, length, take, drop, Option, Some, None, refl, sym, ◌∙◌, ap, arith, subst, Result, Ok, Err}
use Rattle.std.specs.Prelude.{nat_le, zip}
use Rattle.std.specs.List.{list_all, AllByRecursion}
use Rattle.std.specs.Cmp.Lexicographic.{slice_cmp}
use Rattle.std.specs.Ordering.{nat_cmp}
use Rattle.std.proofs.lemmas.Bool.Decides.{nat_tests}
use Rattle.lot_base.specs.Goods.{box_size, is_within, AtMost, IsRange}
use Rattle.lot_base.specs.Demands.{IsAscending, IsDemand}
use Rattle.lot_base.proofs.Within.{both, within-at_most}
use Rattle.lot_base.proofs.Order.{box_size-some, is_lt-less}
use Rattle.demand_set.specs.Reading.{is_after, groups, fault_at, fault_from, or_else, unless, bundles_of, demand_of, IsOrNoMemory}
use Rattle.demand_set.specs.Held.{IsSomeDemand}
use Rattle.demand_set.specs.declared.reading.DemandFault.{DemandFault}
use Rattle.demand_set.specs.declared.reading.DemandFault.TheVariants.{Empty, NotAscending, OutsideSupply, WrongGoods, NoMemory}
use Rattle.demand_set.proofs.Ranks.{IsRankedAt, ranked-box, ranked-next}
use Rattle.demand_set.proofs.Groups.{groups-next, length-groups}

-- an answer that is the wanted one
pub exactly : (answer wanted : Result (List (List ℕ)) DemandFault) → answer ≡ wanted → IsOrNoMemory answer wanted
exactly (Ok bundles) wanted e = e
exactly (Err Empty) wanted e = e
exactly (Err (NotAscending place)) wanted e = e
exactly (Err (OutsideSupply place)) wanted e = e
exactly (Err (WrongGoods goods)) wanted e = e
exactly (Err NoMemory) wanted e = tt

-- a bundle with a fault is the first one
pub fault-here : (supply : List ℕ) (place : ℕ) (before : Option (List ℕ)) (x : List ℕ) (rest : List (List ℕ)) (fault : DemandFault) → Some fault ≡ fault_at supply place before x → fault_from supply place before (x ∷ rest) ≡ Some fault
fault-here supply place before x rest fault e = ap (λ o. or_else o (fault_from supply (place + 1) (Some x) rest)) (sym e)

-- a bundle without one is within the supply and after the one before
pub record IsPlaced (supply : List ℕ) (before : Option (List ℕ)) (x : List ℕ) : Type 0 where
  pub within : is_within supply x ≡ true
  pub after : is_after before x ≡ true

cond-none : (w a : Bool) (place : ℕ) → cond w (cond a None (Some (NotAscending place))) (Some (OutsideSupply place)) ≡ None → (w ≡ true) × (a ≡ true)
cond-none true true place e = (refl, refl)
cond-none true false place e = absurd (let f : Some (NotAscending place) ≡ None = e in cc)
cond-none false a place e = absurd (let f : Some (OutsideSupply place) ≡ None = e in cc)

pub faultless-placed : (supply : List ℕ) (place : ℕ) (before : Option (List ℕ)) (x : List ℕ) → fault_at supply place before x ≡ None → IsPlaced supply before x
faultless-placed supply place before x e = let h = cond-none (is_within supply x) (is_after before x) place e in record { within = h.0; after = h.1 }

pub fault-later : (supply : List ℕ) (place : ℕ) (before : Option (List ℕ)) (x : List ℕ) (rest : List (List ℕ)) → is_within supply x ≡ true → is_after before x ≡ true → fault_from supply place before (x ∷ rest) ≡ fault_from supply (place + 1) (Some x) rest
fault-later supply place before x rest e f = λ i. or_else (cond (e i) (cond (f i) None (Some (NotAscending place))) (Some (OutsideSupply place))) (fault_from supply (place + 1) (Some x) rest)

-- the faults from a place on, by its bundle and the others
pub fault-split : (goods rest x : List ℕ) (place end size : ℕ) (before : Option (List ℕ)) (all : Option DemandFault) → place < end → size ≡ length goods → x ≡ take size rest
    → fault_from goods place before (groups (end - place) (length goods) rest) ≡ all → fault_from goods place before (x ∷ groups (end - (place + 1)) (length goods) (drop (length goods) rest)) ≡ all
fault-split goods rest x place end size before all below e f g =
    let front : x ≡ take (length goods) rest = f ∙ ap (λ n. take n rest) e in
    ap (λ y. fault_from goods place before (y ∷ groups (end - (place + 1)) (length goods) (drop (length goods) rest))) front
    ∙ ap (fault_from goods place before) (sym (groups-next end place (length goods) rest below)) ∙ g

abbrev pub AfterFirst : Option (List ℕ) → List (List ℕ) → Type 0
AfterFirst before [] = Unit {0}
AfterFirst before (x ∷ bundles) = is_after before x ≡ true

-- what bundles without a fault are
pub record AreGood (supply : List ℕ) (place : ℕ) (before : Option (List ℕ)) (bundles : List (List ℕ)) : Type 0 where
  pub few : place + length bundles ≤ box_size supply
  pub ascending : IsAscending bundles
  pub one_length : AllByRecursion (λ x. length x ≡ length supply) bundles
  pub in_box : AllByRecursion (λ x. AtMost x supply) bundles
  pub later : AfterFirst before bundles

no-fault : (w a : Bool) (place : ℕ) (rest : Option DemandFault) → or_else (cond w (cond a None (Some (NotAscending place))) (Some (OutsideSupply place))) rest ≡ None → (w ≡ true) × (a ≡ true) × (rest ≡ None)
no-fault true true place rest e = (refl, refl, e)
no-fault true false place rest e = absurd (let f : Some (NotAscending place) ≡ None = e in cc)
no-fault false a place rest e = absurd (let f : Some (OutsideSupply place) ≡ None = e in cc)

within-length : (supply x : List ℕ) → is_within supply x ≡ true → length x ≡ length supply
within-length supply x e = let h = both (nat_eq (length supply) (length x)) (list_all (λ p. nat_le p.1 p.0) (zip supply x)) e in let t = h.0 in grind (arith, nat_tests)

ascending-first : (x : List ℕ) (bundles : List (List ℕ)) → AfterFirst (Some x) bundles → IsAscending bundles → IsAscending (x ∷ bundles)
ascending-first x [] later up = tt
ascending-first x (y ∷ bundles) later up = (is_lt-less (slice_cmp nat_cmp x y) later, up)

pub are-good : (supply : List ℕ) (place : ℕ) (before : Option (List ℕ)) (bundles : List (List ℕ)) → 1 ≤ box_size supply → IsRankedAt supply place before → fault_from supply place before bundles ≡ None → AreGood supply place before bundles
are-good supply place before [] some ranked e = record { few = omega (arith, ranked-box supply place before some ranked); ascending = tt; one_length = tt; in_box = tt; later = tt }
are-good supply place before (x ∷ bundles) some ranked e =
    let h = no-fault (is_within supply x) (is_after before x) place (fault_from supply (place + 1) (Some x) bundles) e in
    let r = are-good supply (place + 1) (Some x) bundles some (ranked-next supply place before x ranked h.0 h.1) h.2 in
    record { few = omega (arith, r.few); ascending = ascending-first x bundles r.later r.ascending; one_length = (within-length supply x h.0, r.one_length); in_box = (within-at_most supply x h.0, r.in_box); later = h.1 }

unless-ok : (o : Option DemandFault) (bundles items : List (List ℕ)) → Ok items ≡ unless o bundles → (o ≡ None) × (items ≡ bundles)
unless-ok None bundles items e = (refl, cc)
unless-ok (Some f) bundles items e = absurd (cc)

-- the bundles that were read are what every demand holds
pub some-demand : (supply : List ℕ) (items : List (List ℕ)) (quantities : List ℕ) → IsRange 1 6 (length supply) → box_size supply ≤ 2048 → 1 ≤ length quantities / length supply → Ok items ≡ unless (fault_from supply 0 None (bundles_of (length supply) quantities)) (bundles_of (length supply) quantities) → IsSomeDemand items
some-demand supply items quantities range small some e =
    let h = unless-ok (fault_from supply 0 None (bundles_of (length supply) quantities)) (bundles_of (length supply) quantities) items e in
    let g = are-good supply 0 None (bundles_of (length supply) quantities) (box_size-some supply) refl h.0 in
    let n = length-groups (length quantities / length supply) (length supply) quantities in
    let demand : IsSomeDemand (bundles_of (length supply) quantities) = record { some = omega (arith, n); few = omega (arith, g.few); ascending = g.ascending; one_length = (length supply, range, g.one_length) } in
    subst IsSomeDemand (sym h.1) demand

-- and a demand of these goods
pub read-fits : (supply : List ℕ) (items : List (List ℕ)) (quantities : List ℕ) → 1 ≤ length quantities / length supply → Ok items ≡ unless (fault_from supply 0 None (bundles_of (length supply) quantities)) (bundles_of (length supply) quantities) → IsDemand supply items
read-fits supply items quantities some e =
    let h = unless-ok (fault_from supply 0 None (bundles_of (length supply) quantities)) (bundles_of (length supply) quantities) items e in
    let g = are-good supply 0 None (bundles_of (length supply) quantities) (box_size-some supply) refl h.0 in
    let n = length-groups (length quantities / length supply) (length supply) quantities in
    let demand : IsDemand supply (bundles_of (length supply) quantities) = record { some = omega (arith, n); ascending = g.ascending; in_box = g.in_box } in
    subst (IsDemand supply) (sym h.1) demand

-- the answer, where the number of goods is right and there is some bundle
pub read-answer : (supply : List ℕ) (bundles : List (List ℕ)) (goods : ℕ) (answer : Result (List (List ℕ)) DemandFault) → goods ≡ length supply → 1 ≤ length bundles → answer ≡ unless (fault_from supply 0 None bundles) bundles → answer ≡ demand_of supply goods bundles
read-answer supply bundles goods answer same some e =
    let a : nat_eq goods (length supply) ≡ true = grind (arith, nat_tests) in
    let b : nat_eq (length bundles) 0 ≡ false = grind (arith, nat_tests) in
    e ∙ sym (λ i. cond (a i) (cond (b i) (Err Empty) (unless (fault_from supply 0 None bundles) bundles)) (Err (WrongGoods goods)))
