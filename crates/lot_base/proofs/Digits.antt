-- One turn, and the end, of the loops between a bundle and its place.
use Rattle.std.proofs.Common.{◌≡◌, ◌≤◌, ◌<◌, ℕ, suc, ◌+◌, ◌*◌, ◌/◌, ◌%◌, List, [], ◌∷◌, ◌++◌, length, get_or, take, drop, set, sym, ap, ◌∙◌, arith, add-one, append_assoc}
use Rattle.std.specs.Prelude.{min}
use Rattle.std.proofs.Math.Nat.{mul-le-mul_left, mul-div_cancel_left, div-lt_iff_lt-mul}
use Rattle.std.proofs.Math.Seq.{drop-cons}
use Rattle.std.proofs.lemmas.List.{take_more_set, drop-set-lt, drop_all}
use Rattle.lot_base.specs.Goods.{box_size, AtMost}
use Rattle.lot_base.specs.Box.{index_of, bundle_at}
use Rattle.lot_base.proofs.Index.{box_size-above_0, index_of-small}
use Rattle.lot_base.proofs.Sums.{box_of_drop}
use Rattle.lot_base.proofs.Vec.{length-below}

index_of-drop : (supply bundle : List ℕ) (i : ℕ) → i < length supply → i < length bundle →
    index_of (drop i supply) (drop i bundle) ≡ get_or bundle i 0 * box_size (drop (i + 1) supply) + index_of (drop (i + 1) supply) (drop (i + 1) bundle)
index_of-drop supply bundle i in_supply in_bundle = rw (add-one, drop-cons supply i 0, drop-cons bundle i 0)

-- the place so far and the goods to come make the place of the bundle
abbrev pub IsSoFar : List ℕ → List ℕ → ℕ → ℕ → Type 0
IsSoFar supply bundle i place = place * box_size (drop i supply) + index_of (drop i supply) (drop i bundle) ≡ index_of supply bundle

pub record Turn (supply bundle : List ℕ) (next place : ℕ) : Type 0 where
  pub so_far : IsSoFar supply bundle next place
  pub small : place < 2048

-- the two numbers stand at the same place of two lists
abbrev pub StandAt : List ℕ → List ℕ → ℕ → ℕ → ℕ → Type 0
StandAt xs ys i x y = (i < length xs) × (i < length ys) × ((other : ℕ) → x ≡ get_or xs i other) × ((other : ℕ) → y ≡ get_or ys i other)

pub turn : (supply bundle : List ℕ) (i next place units quantity : ℕ) → AtMost bundle supply → box_size supply ≤ 2048 → IsSoFar supply bundle i place →
    next ≡ i + 1 → StandAt supply bundle i units quantity → Turn supply bundle next (place * (units + 1) + quantity)
turn supply bundle i next place units quantity within small so_far one_on stand =
    let behind = box_size (drop (i + 1) supply) in
    let index = index_of (drop (i + 1) supply) (drop (i + 1) bundle) in
    let now = place * (units + 1) + quantity in
    let size : box_size (drop i supply) ≡ (units + 1) * behind = box_of_drop supply i stand.0 ∙ ap (λ n. (n + 1) * behind) (sym (stand.2 0)) in
    let digit : index_of (drop i supply) (drop i bundle) ≡ quantity * behind + index =
    index_of-drop supply bundle i stand.0 stand.1 ∙ ap (λ n. n * behind + index) (sym (stand.3 0)) in
    let split : place * ((units + 1) * behind) + (quantity * behind + index) ≡ index_of supply bundle = (λ j. place * sym size j + sym digit j) ∙ so_far in
    let whole : now * behind + index ≡ index_of supply bundle = omega (arith, split) in
    let least : now * 1 ≤ now * behind = mul-le-mul_left now (box_size-above_0 (drop (i + 1) supply)) in
    record {
      so_far = ap (λ n. now * box_size (drop n supply) + index_of (drop n supply) (drop n bundle)) one_on ∙ whole;
      small = omega (arith, whole, least, index_of-small supply bundle within);
    }

pub at_end : (supply bundle : List ℕ) (i place : ℕ) → AtMost bundle supply → i ≡ min (length supply) (length bundle) → IsSoFar supply bundle i place → place ≡ index_of supply bundle
at_end supply bundle i place within all so_far =
    let same = length-below bundle supply within in
    let none : drop i supply ≡ [] = drop_all i supply (omega arith) in
    let last : place * box_size (drop i supply) + index_of (drop i supply) (drop i bundle) ≡ place * 1 + 0 = ap (λ s. place * box_size s + index_of s (drop i bundle)) none in
    omega (arith, last, so_far)

-- the quantities so far, and the number that the goods to come share
pub record Digit (old units : List ℕ) (i rest bundles : ℕ) : Type 0 where
  pub whole : take i units ++ bundle_at (drop i units) rest ≡ old
  pub size : bundles ≡ box_size (drop i units)
  pub below : rest < bundles
  pub small : bundles ≤ 2048

pub digit : (old units : List ℕ) (i rest bundles share : ℕ) → Digit old units i rest bundles → i < length units → share ≡ bundles / (get_or units i 0 + 1) →
    (rest / share < 2048) × Digit old (set units i (rest / share)) (i + 1) (rest % share) share
digit old units i rest bundles share d in_units share_is =
    let unit = get_or units i 0 in
    let others = drop (i + 1) units in
    let some = box_size-above_0 others in
    let split : bundles ≡ (unit + 1) * box_size others = d.size ∙ box_of_drop units i in_units in
    let above : 0 < unit + 1 = omega arith in
    let size : share ≡ box_size others = share_is ∙ ap (λ n. n / (unit + 1)) split ∙ mul-div_cancel_left (box_size others) above in
    let share_some : 0 < share = omega arith in
    let product : bundles ≡ (unit + 1) * share = split ∙ ap (λ n. (unit + 1) * n) (sym size) in
    let below = d.below in
    let small = d.small in
    let least : (unit + 1) * 1 ≤ (unit + 1) * share = mul-le-mul_left (unit + 1) share_some in
    let in_row : rest < (unit + 1) * share = omega arith in
    let digit_fits : rest / share < unit + 1 = (div-lt_iff_lt-mul share_some).1 in_row in
    let written : drop (i + 1) (set units i (rest / share)) ≡ others = drop-set-lt (i + 1) units i (rest / share) (omega arith) in
    let one_on : drop (suc i) units ≡ others = (let e : suc i ≡ i + 1 = omega arith in ap (λ n. drop n units) e) in
    let share_of : box_size (drop (suc i) units) ≡ share = ap box_size one_on ∙ sym size in
    let row : bundle_at (drop i units) rest ≡ (rest / share) ∷ bundle_at others (rest % share) =
    ap (λ xs. bundle_at xs rest) (drop-cons units i 0 in_units) ∙ (λ j. (rest / share_of j) ∷ bundle_at (one_on j) (rest % share_of j)) in
    let front : take (i + 1) (set units i (rest / share)) ≡ take i units ++ (rest / share) ∷ [] = take_more_set units i (rest / share) in_units in (
      omega arith,
      record {
        whole =
            (λ j. front j ++ bundle_at (written j) (rest % share))
            ∙ append_assoc (take i units) ((rest / share) ∷ []) (bundle_at others (rest % share))
            ∙ ap (λ xs. take i units ++ xs) (sym row)
            ∙ d.whole;
        size = size ∙ ap box_size (sym written);
        below = omega arith;
        small = omega arith;
      },
    )
