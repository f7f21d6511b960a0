-- Bundles within a supply are in the order of their places, so the first fault is found by the places.
use Rattle.std.proofs.Common.{◌≡◌, ◌≢◌, ◌<◌, ◌≤◌, ℕ, suc, ◌+◌, ◌*◌, Bool, true, false, nat_eq, ◌&&◌, cond, List, [], ◌∷◌, length, drop, Option, Some, None, refl, sym, ◌∙◌, ap, subst, arith, get_or}
use Rattle.std.specs.Prelude.{nat_le, nat_lt, zip}
use Rattle.std.specs.List.{list_all}
use Rattle.std.specs.Cmp.Lexicographic.{slice_cmp}
use Rattle.std.specs.Ordering.{nat_cmp, ordering_then, is_lt}
use Rattle.std.specs.declared.cmp.Ordering.{Ordering}
use Rattle.std.specs.declared.cmp.Ordering.TheVariants.{Less, Equal, Greater}
use Rattle.std.proofs.lemmas.Bool.Decides.{nat_tests}
use Rattle.std.proofs.Math.Nat.{mul-le-mul_right}
use Rattle.std.proofs.Math.Seq.{drop-cons}
use Rattle.lot_base.specs.Goods.{box_size, is_within}
use Rattle.lot_base.specs.Box.{index_of}
use Rattle.lot_base.proofs.Within.{within-first, within-short, within-long}
use Rattle.lot_base.proofs.Order.{box_size-some, index_of-below, index_of-less}
use Rattle.demand_set.specs.Reading.{is_after, fault_from, or_else}
use Rattle.demand_set.specs.declared.reading.DemandFault.{DemandFault}
use Rattle.demand_set.specs.declared.reading.DemandFault.TheVariants.{NotAscending, OutsideSupply}
use Rattle.demand_set.specs.Places.{place_in}

-- a bundle whose place is lower comes first
pub less-index_of : (supply xs ys : List ℕ) → is_within supply xs ≡ true → is_within supply ys ≡ true → index_of supply xs < index_of supply ys → slice_cmp nat_cmp xs ys ≡ Less
less-index_of [] [] [] e f less = absurd (omega arith)
less-index_of [] (x ∷ xs) ys e f less = absurd (within-long x xs e)
less-index_of [] [] (y ∷ ys) e f less = absurd (within-long y ys f)
less-index_of (s ∷ supply) [] ys e f less = absurd (within-short s supply e)
less-index_of (s ∷ supply) (x ∷ xs) [] e f less = absurd (within-short s supply f)
less-index_of (s ∷ supply) (x ∷ xs) (y ∷ ys) e f less =
    let h = within-first s x supply xs e in
    let k = within-first s y supply ys f in
    let r = index_of-below supply xs h.1 in
    let r' = index_of-below supply ys k.1 in
    let ih = less-index_of supply xs ys h.1 k.1 in
    by (nat_cmp x y) refl (box_size supply) (index_of supply xs) (index_of supply ys) r r' ih less
  where
    by : (o : Ordering) → nat_cmp x y ≡ o → (size i j : ℕ) → i < size → j < size → (i < j → slice_cmp nat_cmp xs ys ≡ Less) → x * size + i < y * size + j → ordering_then o (slice_cmp nat_cmp xs ys) ≡ Less
    by Less o size i j a b rest less = refl
    by Equal o size i j a b rest less =
        let u : x ≡ y = grind (arith, nat_tests) in
        let m : x * size ≡ y * size = ap (λ n. n * size) u in
        rest (omega (arith, m, less))
    by Greater o size i j a b rest less =
        let u : y + 1 ≤ x = grind (arith, nat_tests) in
        let m : (y + 1) * size ≤ x * size = mul-le-mul_right size u in
        absurd (omega (arith, m, less, b))

-- the place that the next bundle must reach
abbrev pub IsReached : List ℕ → Option (List ℕ) → ℕ → Type 0
IsReached supply None least = least ≡ 0
IsReached supply (Some before) least = (is_within supply before ≡ true) × (least ≡ index_of supply before + 1)

not-less : (o : Ordering) → o ≢ Less → is_lt o ≡ false
not-less Less other = absurd (other refl)
not-less Equal other = refl
not-less Greater other = refl

pub comes-after : (supply : List ℕ) (before : Option (List ℕ)) (x : List ℕ) (least : ℕ) → IsReached supply before least → is_within supply x ≡ true → least ≤ index_of supply x → is_after before x ≡ true
comes-after supply None x least reached within up = refl
comes-after supply (Some b) x least reached within up = ap is_lt (less-index_of supply b x reached.0 within (omega (arith, reached.1, up)))

pub not-after : (supply : List ℕ) (before : Option (List ℕ)) (x : List ℕ) (least : ℕ) → IsReached supply before least → is_within supply x ≡ true → index_of supply x < least → is_after before x ≡ false
not-after supply None x least reached within low = absurd (omega (arith, reached, low))
not-after supply (Some b) x least reached within low =
    not-less (slice_cmp nat_cmp b x) (λ less. let r = index_of-less supply b x reached.0 within less in omega (arith, r, reached.1, low))

-- the first fault, by the places
pub fault_by_place : List ℕ → ℕ → ℕ → List (List ℕ) → Option DemandFault
fault_by_place supply place least [] = None
fault_by_place supply place least (x ∷ rest) =
    cond (is_within supply x) (cond (nat_lt (index_of supply x) least) (Some (NotAscending place)) (fault_by_place supply (place + 1) (index_of supply x + 1) rest)) (Some (OutsideSupply place))

by-within : (supply : List ℕ) (place least : ℕ) (before : Option (List ℕ)) (x : List ℕ) (rest : List (List ℕ)) → IsReached supply before least
    → ((least' : ℕ) → IsReached supply (Some x) least' → fault_by_place supply (place + 1) least' rest ≡ fault_from supply (place + 1) (Some x) rest)
    → (w : Bool) → is_within supply x ≡ w → (l : Bool) → nat_lt (index_of supply x) least ≡ l
    → cond w (cond l (Some (NotAscending place)) (fault_by_place supply (place + 1) (index_of supply x + 1) rest)) (Some (OutsideSupply place))
    ≡ or_else (cond w (cond (is_after before x) None (Some (NotAscending place))) (Some (OutsideSupply place))) (fault_from supply (place + 1) (Some x) rest)
by-within supply place least before x rest reached ih false e l f = refl
by-within supply place least before x rest reached ih true e true f =
    let low : index_of supply x < least = grind (arith, nat_tests) in
    ap (λ b. or_else (cond b None (Some (NotAscending place))) (fault_from supply (place + 1) (Some x) rest)) (sym (not-after supply before x least reached e low))
by-within supply place least before x rest reached ih true e false f =
    let up : least ≤ index_of supply x = grind (arith, nat_tests) in
    ih (index_of supply x + 1) (e, refl)
    ∙ ap (λ b. or_else (cond b None (Some (NotAscending place))) (fault_from supply (place + 1) (Some x) rest)) (sym (comes-after supply before x least reached e up))

pub fault_by_place-is : (supply : List ℕ) (place least : ℕ) (before : Option (List ℕ)) (bundles : List (List ℕ)) → IsReached supply before least → fault_by_place supply place least bundles ≡ fault_from supply place before bundles
unfolding fault_by_place
fault_by_place-is supply place least before [] reached = refl
fault_by_place-is supply place least before (x ∷ rest) reached =
    by-within supply place least before x rest reached (λ least' r. fault_by_place-is supply (place + 1) least' (Some x) rest r) (is_within supply x) refl (nat_lt (index_of supply x) least) refl

pub none-left : (supply : List ℕ) (place least : ℕ) → fault_by_place supply place least [] ≡ None
unfolding fault_by_place
none-left supply place least = refl

-- one step of it
pub outside : (supply : List ℕ) (place least : ℕ) (x : List ℕ) (rest : List (List ℕ)) → place_in supply x ≡ None → fault_by_place supply place least (x ∷ rest) ≡ Some (OutsideSupply place)
unfolding fault_by_place
outside supply place least x rest e = by (is_within supply x) e
  where
    by : (w : Bool) → cond w (Some (index_of supply x)) None ≡ None → cond w (cond (nat_lt (index_of supply x) least) (Some (NotAscending place)) (fault_by_place supply (place + 1) (index_of supply x + 1) rest)) (Some (OutsideSupply place)) ≡ Some (OutsideSupply place)
    by true e = absurd (let f : Some (index_of supply x) ≡ None = e in cc)
    by false e = refl

pub record IsFound (supply x : List ℕ) (index : ℕ) : Type 0 where
  pub within : is_within supply x ≡ true
  pub index_is : index ≡ index_of supply x

pub found-at : (supply x : List ℕ) (index : ℕ) → place_in supply x ≡ Some index → IsFound supply x index
found-at supply x index e = by (is_within supply x) refl e
  where
    by : (w : Bool) → is_within supply x ≡ w → cond w (Some (index_of supply x)) None ≡ Some index → IsFound supply x index
    by true is e = record { within = is; index_is = (let f : Some (index_of supply x) ≡ Some index = e in cc) }
    by false is e = absurd (let f : None ≡ Some index = e in cc)

pub too-low : (supply : List ℕ) (place least index : ℕ) (x : List ℕ) (rest : List (List ℕ)) → IsFound supply x index → index < least → fault_by_place supply place least (x ∷ rest) ≡ Some (NotAscending place)
unfolding fault_by_place
too-low supply place least index x rest found low =
    let is = found.index_is in
    let l : nat_lt (index_of supply x) least ≡ true = grind (arith, nat_tests) in
    λ i. cond (found.within i) (cond (l i) (Some (NotAscending place)) (fault_by_place supply (place + 1) (index_of supply x + 1) rest)) (Some (OutsideSupply place))

pub goes-on : (supply : List ℕ) (place least index : ℕ) (x : List ℕ) (rest : List (List ℕ)) → IsFound supply x index → least ≤ index → fault_by_place supply place least (x ∷ rest) ≡ fault_by_place supply (place + 1) (index + 1) rest
unfolding fault_by_place
goes-on supply place least index x rest found up =
    let is = found.index_is in
    let l : nat_lt (index_of supply x) least ≡ false = grind (arith, nat_tests) in
    (λ i. cond (found.within i) (cond (l i) (Some (NotAscending place)) (fault_by_place supply (place + 1) (index_of supply x + 1) rest)) (Some (OutsideSupply place)))
    ∙ ap (λ n. fault_by_place supply (place + 1) (n + 1) rest) (sym is)

pub found-small : (supply x : List ℕ) (index : ℕ) → IsFound supply x index → index < box_size supply
found-small supply x index found = let b = index_of-below supply x found.within in omega (arith, b, found.index_is)

-- The place of a bundle, digit by digit.
pub place_from : ℕ → List ℕ → List ℕ → Option ℕ
place_from place [] xs = Some place
place_from place (s ∷ supply) [] = None
place_from place (s ∷ supply) (x ∷ xs) = cond (nat_le x s) (place_from (place * (s + 1) + x) supply xs) None

pub place_from-is : (supply xs : List ℕ) (place : ℕ) → length supply ≡ length xs → place_from place supply xs ≡ cond (is_within supply xs) (Some (place * box_size supply + index_of supply xs)) None
unfolding place_from
place_from-is [] [] place same = ap Some (omega arith)
place_from-is [] (x ∷ xs) place same = absurd (omega arith)
place_from-is (s ∷ supply) [] place same = absurd (omega arith)
place_from-is (s ∷ supply) (x ∷ xs) place same =
    let n : length supply ≡ length xs = omega arith in
    by (nat_le x s) (list_all (λ p. nat_le p.1 p.0) (zip supply xs)) n (place_from-is supply xs (place * (s + 1) + x) n)
  where
    by : (a b : Bool) → length supply ≡ length xs → place_from (place * (s + 1) + x) supply xs ≡ cond (nat_eq (length supply) (length xs) && b) (Some ((place * (s + 1) + x) * box_size supply + index_of supply xs)) None
        → cond a (place_from (place * (s + 1) + x) supply xs) None ≡ cond (nat_eq (suc (length supply)) (suc (length xs)) && (a && b)) (Some (place * ((s + 1) * box_size supply) + (x * box_size supply + index_of supply xs))) None
    by true b n ih =
        let t : nat_eq (suc (length supply)) (suc (length xs)) ≡ true = grind (arith, nat_tests) in
        let u : nat_eq (length supply) (length xs) ≡ true = grind (arith, nat_tests) in
        let v : (place * (s + 1) + x) * box_size supply + index_of supply xs ≡ place * ((s + 1) * box_size supply) + (x * box_size supply + index_of supply xs) = omega arith in
        ih ∙ (λ i. cond (u i && b) (Some (v i)) None) ∙ sym (λ i. cond (t i && b) (Some (place * ((s + 1) * box_size supply) + (x * box_size supply + index_of supply xs))) None)
    by false b n ih =
        let t : nat_eq (suc (length supply)) (suc (length xs)) ≡ true = grind (arith, nat_tests) in
        sym (λ i. cond (t i && false) (Some (place * ((s + 1) * box_size supply) + (x * box_size supply + index_of supply xs))) None)

pub place_from-all : (supply xs : List ℕ) → length supply ≡ length xs → place_from 0 supply xs ≡ place_in supply xs
place_from-all supply xs same =
    let z : 0 * box_size supply + index_of supply xs ≡ index_of supply xs = omega arith in
    place_from-is supply xs 0 same ∙ ap (λ n. cond (is_within supply xs) (Some n) None) z

-- the digits from a good on
pub digit-step : (supply xs : List ℕ) (place good : ℕ) → good < length supply → length supply ≡ length xs
    → place_from place (drop good supply) (drop good xs) ≡ cond (nat_le (get_or xs good 0) (get_or supply good 0)) (place_from (place * (get_or supply good 0 + 1) + get_or xs good 0) (drop (good + 1) supply) (drop (good + 1) xs)) None
unfolding place_from
digit-step supply xs place good below same =
    let e : suc good ≡ good + 1 = omega arith in
    let f : good < length xs = omega arith in
    (λ i. place_from place (drop-cons supply good 0 below i) (drop-cons xs good 0 f i))
    ∙ ap (λ n. cond (nat_le (get_or xs good 0) (get_or supply good 0)) (place_from (place * (get_or supply good 0 + 1) + get_or xs good 0) (drop n supply) (drop n xs)) None) e

pub digit-above : (a b : ℕ) (o : Option ℕ) → b < a → cond (nat_le a b) o None ≡ None
digit-above a b o above = let e : nat_le a b ≡ false = grind (arith, nat_tests) in ap (λ t. cond t o None) e

pub digit-within : (a b : ℕ) (o : Option ℕ) → a ≤ b → cond (nat_le a b) o None ≡ o
digit-within a b o within = let e : nat_le a b ≡ true = grind (arith, nat_tests) in ap (λ t. cond t o None) e

pub place_from-end : (place : ℕ) (supply xs : List ℕ) → supply ≡ [] → place_from place supply xs ≡ Some place
unfolding place_from
place_from-end place supply xs e = ap (λ s. place_from place s xs) e

-- and their number is small
pub digits-small : (supply : List ℕ) (place good x : ℕ) → good < length supply → x ≤ get_or supply good 0 → (place + 1) * box_size (drop good supply) ≤ box_size supply
    → (place * (get_or supply good 0 + 1) + x + 1) * box_size (drop (good + 1) supply) ≤ box_size supply
digits-small supply place good x below within small =
    let e : suc good ≡ good + 1 = omega arith in
    let d : box_size (drop good supply) ≡ (get_or supply good 0 + 1) * box_size (drop (good + 1) supply) = ap box_size (drop-cons supply good 0 below) ∙ ap (λ n. (get_or supply good 0 + 1) * box_size (drop n supply)) e in
    at (get_or supply good 0) (box_size (drop (good + 1) supply)) (box_size supply) within (subst (λ n. (place + 1) * n ≤ box_size supply) d small)
  where
    at : (s size all : ℕ) → x ≤ s → (place + 1) * ((s + 1) * size) ≤ all → (place * (s + 1) + x + 1) * size ≤ all
    at s size all within small =
        let m : (place * (s + 1) + x + 1) * size ≤ ((place + 1) * (s + 1)) * size = (let u : place * (s + 1) + x + 1 ≤ (place + 1) * (s + 1) = omega (arith, within) in mul-le-mul_right size u) in
        let n : ((place + 1) * (s + 1)) * size ≡ (place + 1) * ((s + 1) * size) = omega arith in
        omega (arith, m, n, small)

pub place-small : (supply : List ℕ) (place good : ℕ) → (place + 1) * box_size (drop good supply) ≤ box_size supply → place + 1 ≤ box_size supply
place-small supply place good small =
    let some = box_size-some (drop good supply) in
    let m : 1 * (place + 1) ≤ box_size (drop good supply) * (place + 1) = mul-le-mul_right (place + 1) some in
    let n : box_size (drop good supply) * (place + 1) ≡ (place + 1) * box_size (drop good supply) = omega arith in
    omega (arith, m, n, small)
