-- The bundles whose number is the greatest, one after another.
use Rattle.std.proofs.Common.{◌≡◌, ◌<◌, ◌≤◌, ℕ, zero, suc, ◌+◌, Bool, true, false, nat_eq, cond, List, [], ◌∷◌, ◌++◌, length, slice_index, take, arith, ap, refl, sym, ◌∙◌, append-nil, Result, Ok, Err, subst}
use Rattle.std.specs.Prelude.{filter, ◌==◌, slice_get, Some, IfOk, ℤ, pos, ◌-ℤ◌, ◌+ℤ◌}
use Rattle.std.specs.List.{concat, AllByRecursion}
use Rattle.std.proofs.lemmas.Int.{ints}
use Rattle.std.proofs.lemmas.Bool.Decides.{nat_tests}
use Rattle.std.proofs.lemmas.List.Folds.{concat-append}
use Rattle.lot_base.specs.Goods.{AtMost, IsSupply}
use Rattle.lot_base.specs.Box.{box, index_of, bundle_at}
use Rattle.lot_base.specs.Demands.{IsDemand}
use Rattle.lot_base.specs.Goods.{box_size}
use Rattle.lot_base.proofs.Index.{box-bundle_at, index_of-bundle_at}
use Rattle.lot_base.proofs.Vec.{length-below}
use Rattle.demand_set.specs.Reading.{bundles_of, demand_of}
use Rattle.demand_set.specs.declared.reading.DemandFault.{DemandFault}
use Rattle.demand_set.proofs.Joined.{IsWritten, written-length}
use Rattle.valuation.specs.Carried.{CarriesAt, cut, best_before}

-- one element more of a list that is filtered
cond-append : (b : Bool) (y : List ℕ) (f l : List (List ℕ)) → cond b (y ∷ (f ++ l)) (f ++ l) ≡ cond b (y ∷ f) f ++ l
cond-append true y f l = refl
cond-append false y f l = refl

filter-suc : (t : List ℕ → Bool) (xs : List (List ℕ)) (i : ℕ) (x : List ℕ) → slice_get xs i ≡ Some x →
    filter t (take (suc i) xs) ≡ filter t (take i xs) ++ cond (t x) (x ∷ []) []
filter-suc t [] i x is = absurd (cc)
filter-suc t (y ∷ ys) zero x is = (let e : y ≡ x = cc in ap (λ z. cond (t z) (z ∷ []) []) e)
filter-suc t (y ∷ ys) (suc i) x is =
    ap (λ rest. cond (t y) (y ∷ rest) rest) (filter-suc t ys i x is)
    ∙ cond-append (t y) y (filter t (take i ys)) (cond (t x) (x ∷ []) [])

filter-next : (t : List ℕ → Bool) (xs : List (List ℕ)) (i : ℕ) (x : List ℕ) → slice_get xs i ≡ Some x →
    filter t (take (i + 1) xs) ≡ filter t (take i xs) ++ cond (t x) (x ∷ []) []
filter-next t xs i x is = (let e : i + 1 ≡ suc i = omega arith in ap (λ n. filter t (take n xs)) e) ∙ filter-suc t xs i x is

joined : (b : Bool) (x : List ℕ) → concat (cond b (x ∷ []) []) ≡ cond b x []
joined true x = append-nil x
joined false x = refl

-- the quantities so far, and those of the bundle at a place where it is one of the best
pub collect-next : (s worth : List ℕ) (best i : ℕ) (old new : List ℕ) → i < box_size s →
    old ≡ concat (filter (λ x. slice_index worth (index_of s x) == best) (take i (box s))) →
    new ≡ old ++ cond (nat_eq (slice_index worth i) best) (bundle_at s i) [] →
    new ≡ concat (filter (λ x. slice_index worth (index_of s x) == best) (take (i + 1) (box s)))
collect-next s worth best i old new inside is more =
    let t : List ℕ → Bool = λ x. slice_index worth (index_of s x) == best in
    let x = bundle_at s i in
    let test : cond (nat_eq (slice_index worth i) best) x [] ≡ concat (cond (t x) (x ∷ []) []) =
    ap (λ k. cond (nat_eq (slice_index worth k) best) x []) (sym (index_of-bundle_at s i inside)) ∙ sym (joined (t x) x) in
    more
    ∙ (λ j. is j ++ test j)
    ∙ sym (concat-append (filter t (take i (box s))) (cond (t x) (x ∷ []) []))
    ∙ ap concat (sym (filter-next t (box s) i x (box-bundle_at s i inside)))

pub IfOk-weaker : {X E : Type 0} (P Q : X → Type 0) → ((x : X) → P x → Q x) → (r : Result X E) → IfOk r P → IfOk r Q
IfOk-weaker P Q more (Ok x) h = more x h
IfOk-weaker P Q more (Err e) h = h

pub one-length : (s : List ℕ) (bundles : List (List ℕ)) → AllByRecursion (λ x. AtMost x s) bundles → AllByRecursion (λ x. length x ≡ length s) bundles
one-length s [] all = tt
one-length s (x ∷ bundles) all = (length-below x s all.0, one-length s bundles all.1)

-- bundles of which none is one of the best change nothing
pub collect-none : (s worth : List ℕ) (best first count : ℕ) → first + count ≤ box_size s → ((i : ℕ) → first ≤ i → i < first + count → slice_index worth i ≡ best → ⊥) →
    best_before s worth best (first + count) ≡ best_before s worth best first
collect-none s worth best first zero within none = ap (best_before s worth best) (omega arith)
collect-none s worth best first (suc count) within none =
    let before = collect-none s worth best first count (omega arith) (λ i low below. none i low (omega arith)) in
    let one : first + suc count ≡ first + count + 1 = omega arith in
    let other : nat_eq (slice_index worth (first + count)) best ≡ false = is-other _ _ (none (first + count) (omega arith) (omega arith)) in
    let next = collect-next s worth best (first + count) (best_before s worth best (first + count)) (best_before s worth best (first + count)) (omega arith) refl
    (sym (append-nil _) ∙ ap (λ b. best_before s worth best (first + count) ++ cond b (bundle_at s (first + count)) []) (sym other)) in
    ap (best_before s worth best) one ∙ sym next ∙ before
  where
    is-other : (a b : ℕ) → (a ≡ b → ⊥) → nat_eq a b ≡ false
    is-other a b h = grind (arith, nat_tests)

-- numbers are the surpluses of some valuation at some prices
abbrev pub itself : List ℕ → List ℕ → List ℕ → ℤ
itself supply worth x = pos (slice_index worth (index_of supply x)) -ℤ pos 1

pub itself-carried : (supply worth : List ℕ) → CarriesAt supply worth (itself supply worth) []
itself-carried supply worth x within = ap cut (back (slice_index worth (index_of supply x)))
  where
    back : (w : ℕ) → pos w ≡ ((pos w -ℤ pos 1) -ℤ pos 0) +ℤ pos 1
    back w = omega (arith, ints)

-- the quantities of a demand are those of its bundles
pub written-demand : (s : List ℕ) (bundles : List (List ℕ)) (count : ℕ) (quantities : List ℕ) → IsSupply s → count ≡ length s → IsDemand s bundles → quantities ≡ concat bundles → IsWritten bundles count quantities
written-demand s bundles count quantities supply size is e =
    let W : ℕ → Type 0 = λ g. IsWritten bundles g quantities in
    subst W (sym size) (written-length bundles (length s) quantities is.some (record { at_least = supply.some_good; at_most = supply.few_goods }) (one-length s bundles is.in_box) e)

-- what is read from these quantities is the demand
pub read-written : (s : List ℕ) (bundles found : List (List ℕ)) (count : ℕ) (quantities : List ℕ) → IsWritten bundles count quantities → IsDemand s bundles →
    ◌≡◌ {A = Result (List (List ℕ)) DemandFault} (Ok found) (demand_of s count (bundles_of count quantities)) → found ≡ bundles
read-written s bundles found count quantities w is e = same (e ∙ w.read_back s is)
  where
    same : ◌≡◌ {A = Result (List (List ℕ)) DemandFault} (Ok found) (Ok bundles) → found ≡ bundles
    same h = cc h
