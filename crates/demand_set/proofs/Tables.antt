-- A table over all sets of goods that keeps the least, or the greatest, number of one bundle after another.
use Rattle.std.proofs.Common.{◌≡◌, ◌<◌, ◌≤◌, ℕ, zero, suc, ◌+◌, ◌-◌, ◌*◌, ◌/◌, ◌%◌, ◌^◌, List, [], ◌∷◌, length, take, drop, get_or, replicate, refl, sym, ◌∙◌, ap, subst, arith, min, max}
use Rattle.std.specs.List.{fold, AllByRecursion}
use Rattle.std.proofs.Math.Nat.{pow-le-pow_right, div-add-mod'}
use Rattle.lot_base.specs.Goods.{quantity_in}
use Rattle.lot_base.specs.Demands.{IsTable, least, greatest}
use Rattle.demand_set.specs.Reading.{groups}
use Rattle.demand_set.specs.Sums.{IsShort, AreHalves, KeepsRows, CopiesSets}
use Rattle.demand_set.proofs.Groups.{groups-next}

-- what is still to be done gives the number over all bundles
abbrev pub IsFolding : (ℕ → ℕ → ℕ) → ℕ → ℕ → List (List ℕ) → List (List ℕ) → List ℕ → Type 0
IsFolding pick goods start all left table =
    (set : ℕ) → set < 2 ^ goods → fold (λ a y. pick a (quantity_in y set)) (get_or table set 0) left ≡ fold (λ a y. pick a (quantity_in y set)) start all

pub entry-next : (pick : ℕ → ℕ → ℕ) (goods rows : ℕ) (x low high old new : List ℕ) → 2 ^ goods ≤ 8 * rows → rows ≤ 8 → AreHalves x low high → KeepsRows pick rows low high old new
    → (set : ℕ) → set < 2 ^ goods → get_or new set 0 ≡ pick (get_or old set 0) (quantity_in x set)
entry-next pick goods rows x low high old new all few halves keeps set below =
    let row : set / 8 < rows = omega (arith, below, all) in
    let column : set % 8 < 8 = omega arith in
    let e : 8 * (set / 8) + set % 8 ≡ set = omega arith in
    ap (λ k. get_or new k 0) (sym e) ∙ keeps (set / 8) (set % 8) row column
    ∙ (λ i. pick (get_or old (e i) 0) (halves (set / 8) (set % 8) (omega (arith, row, few)) column i)) ∙ ap (λ k. pick (get_or old set 0) (quantity_in x k)) e

pub folding-next : (pick : ℕ → ℕ → ℕ) (goods rows start place end size : ℕ) (rest x others low high old new : List ℕ) (all : List (List ℕ)) → place < end → size ≡ goods → x ≡ take size rest → others ≡ drop size rest
    → 2 ^ goods ≤ 8 * rows → rows ≤ 8 → AreHalves x low high → KeepsRows pick rows low high old new
    → IsFolding pick goods start all (groups (end - place) goods rest) old → IsFolding pick goods start all (groups (end - (place + 1)) goods others) new
folding-next pick goods rows start place end size rest x others low high old new all below same front back wide few halves keeps folding = λ set inside.
    let f = λ (a : ℕ) (y : List ℕ). pick a (quantity_in y set) in
    let front' : take goods rest ≡ x = ap (λ n. take n rest) (sym same) ∙ sym front in
    let back' : drop goods rest ≡ others = ap (λ n. drop n rest) (sym same) ∙ sym back in
    let step : fold f (get_or old set 0) (groups (end - place) goods rest) ≡ fold f (get_or new set 0) (groups (end - (place + 1)) goods others) =
    ap (fold f (get_or old set 0)) (groups-next end place goods rest below)
    ∙ (λ i. fold f (pick (get_or old set 0) (quantity_in (front' i) set)) (groups (end - (place + 1)) goods (back' i)))
    ∙ ap (λ a. fold f a (groups (end - (place + 1)) goods others)) (sym (entry-next pick goods rows x low high old new wide few halves keeps set inside)) in
    sym step ∙ folding set inside

-- the first of the bundles that are left is short, and so are the others
pub short-next : (goods place end size : ℕ) (rest x others : List ℕ) → place < end → size ≡ goods → x ≡ take size rest → others ≡ drop size rest
    → AllByRecursion IsShort (groups (end - place) goods rest) → IsShort x × AllByRecursion IsShort (groups (end - (place + 1)) goods others)
short-next goods place end size rest x others below same front back all =
    let A : List (List ℕ) → Type 0 = λ xs. AllByRecursion IsShort xs in
    let h = subst A (groups-next end place goods rest below) all in
    let S : List ℕ → Type 0 = λ y. IsShort y in
    let B : List ℕ → Type 0 = λ ys. AllByRecursion IsShort (groups (end - (place + 1)) goods ys) in
    (subst S (ap (λ n. take n rest) (sym same) ∙ sym front) h.0, subst B (ap (λ n. drop n rest) (sym same) ∙ sym back) h.1)

pub fits-rows : (x low high : List ℕ) → IsShort x → AreHalves x low high → (row set : ℕ) → row < 8 → set < 8 → get_or low set 0 + get_or high row 0 < 2 ^ 16
fits-rows x low high short halves row set up below = let h = halves row set up below in let s = short (8 * row + set) in omega (arith, h, s)

ended : (pick : ℕ → ℕ → ℕ) (goods start : ℕ) (all : List (List ℕ)) (count : ℕ) (rest table : List ℕ) → count ≡ 0 → IsFolding pick goods start all (groups count goods rest) table
    → (set : ℕ) → set < 2 ^ goods → get_or table set 0 ≡ fold (λ a y. pick a (quantity_in y set)) start all
ended pick goods start all count rest table none folding set below =
    ap (λ n. fold (λ a y. pick a (quantity_in y set)) (get_or table set 0) (groups n goods rest)) (sym none) ∙ folding set below

least-all : (all : List (List ℕ)) (set : ℕ) → 1 ≤ length all → AllByRecursion IsShort all → fold (λ a y. min a (quantity_in y set)) 65535 all ≡ least all set
least-all [] set some short = absurd (omega arith)
least-all (x ∷ all) set some short =
    let s = short.0 set in
    let m : min 65535 (quantity_in x set) ≡ quantity_in x set = omega (arith, s) in
    ap (λ a. fold (λ b y. min b (quantity_in y set)) a all) m

greatest-all : (all : List (List ℕ)) (set : ℕ) → 1 ≤ length all → fold (λ a y. max a (quantity_in y set)) 0 all ≡ greatest all set
greatest-all [] set some = absurd (omega arith)
greatest-all (x ∷ all) set some =
    let m : max 0 (quantity_in x set) ≡ quantity_in x set = omega arith in
    ap (λ a. fold (λ b y. max b (quantity_in y set)) a all) m

pub least-done : (goods : ℕ) (all : List (List ℕ)) (count : ℕ) (rest table copy : List ℕ) → count ≡ 0 → 1 ≤ length all → AllByRecursion IsShort all → CopiesSets goods table copy
    → IsFolding min goods 65535 all (groups count goods rest) table → IsTable goods (least all) copy
least-done goods all count rest table copy none some short copies folding = record {
  entries = λ set below. copies.entries set below ∙ ended min goods 65535 all count rest table none folding set below ∙ least-all all set some short;
  others = copies.others;
}

pub greatest-done : (goods : ℕ) (all : List (List ℕ)) (count : ℕ) (rest table copy : List ℕ) → count ≡ 0 → 1 ≤ length all → CopiesSets goods table copy
    → IsFolding max goods 0 all (groups count goods rest) table → IsTable goods (greatest all) copy
greatest-done goods all count rest table copy none some copies folding = record {
  entries = λ set below. copies.entries set below ∙ ended max goods 0 all count rest table none folding set below ∙ greatest-all all set some;
  others = copies.others;
}

pub few-sets : (goods : ℕ) → goods ≤ 6 → 2 ^ goods ≤ 64
few-sets goods few = let two : 0 < 2 = omega arith in pow-le-pow_right two few

-- a table with one number at each place
pub get_or-replicate : (n v k : ℕ) → k < n → get_or (replicate n v) k 0 ≡ v
get_or-replicate zero v k below = absurd (omega arith)
get_or-replicate (suc n) v zero below = refl
get_or-replicate (suc n) v (suc k) below = get_or-replicate n v k (omega arith)

pub get_or-blank : (n k : ℕ) → let none : ℕ = 0 in get_or (replicate n none) k none ≡ none
get_or-blank zero k = refl
get_or-blank (suc n) zero = refl
get_or-blank (suc n) (suc k) = get_or-blank n k

pub folding-first : (pick : ℕ → ℕ → ℕ) (goods start : ℕ) (all : List (List ℕ)) → 2 ^ goods ≤ 64 → IsFolding pick goods start all all (replicate 64 start)
folding-first pick goods start all few = λ set below. ap (λ a. fold (λ b y. pick b (quantity_in y set)) a all) (get_or-replicate 64 start set (omega (arith, below, few)))

-- where a bundle is left, its quantities are there
pub room-first : (end place goods left : ℕ) → place < end → left ≡ (end - place) * goods → goods ≤ left
room-first end place goods left below is =
    let k : end - place ≡ end - (place + 1) + 1 = omega arith in
    let m : (end - place) * goods ≡ (end - (place + 1) + 1) * goods = ap (λ n. n * goods) k in
    let n : (end - (place + 1) + 1) * goods ≡ (end - (place + 1)) * goods + goods = omega arith in
    omega (arith, m, n, is)

-- before the first bundle
pub record Begins (pick : ℕ → ℕ → ℕ) (goods start : ℕ) (quantities table : List ℕ) : Type 0 where
  pub left : length quantities ≡ (length quantities / goods - 0) * goods
  pub short : AllByRecursion IsShort (groups (length quantities / goods - 0) goods quantities)
  pub folding : IsFolding pick goods start (groups (length quantities / goods) goods quantities) (groups (length quantities / goods - 0) goods quantities) table

pub begins : (pick : ℕ → ℕ → ℕ) (goods start : ℕ) (quantities : List ℕ) → goods ≤ 6 → length quantities % goods ≡ 0 → AllByRecursion IsShort (groups (length quantities / goods) goods quantities) → Begins pick goods start quantities (replicate 64 start)
begins pick goods start quantities few whole short =
    let all : length quantities / goods - 0 ≡ length quantities / goods = omega arith in
    let d = div-add-mod' (length quantities) goods in
    let m : (length quantities / goods - 0) * goods ≡ (length quantities / goods) * goods = ap (λ n. n * goods) all in
    let S : ℕ → Type 0 = λ n. AllByRecursion IsShort (groups n goods quantities) in
    let F : ℕ → Type 0 = λ n. IsFolding pick goods start (groups (length quantities / goods) goods quantities) (groups n goods quantities) (replicate 64 start) in
    record {
      left = omega (arith, d, m, whole);
      short = subst S (sym all) short;
      folding = subst F (sym all) (folding-first pick goods start (groups (length quantities / goods) goods quantities) (few-sets goods few));
    }
