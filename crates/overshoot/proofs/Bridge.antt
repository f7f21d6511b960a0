-- From the words of the definitions, where a set of goods is a number, to those of the proofs of existence, where it is a list of
-- digits and a demand is whatever list has some bundle, lies in the box and has the exchange property.
use Rattle.std.proofs.Common.{Bool, true, false, ◌≡◌, inl, inr, ℕ, zero, suc, ◌+◌, ◌/◌, ◌%◌, ◌≤◌, nat_eq, cond, List, [], ◌∷◌, length, map, arith, ap, refl, sym, subst, ◌∙◌}
use Rattle.std.specs.Prelude.{ℤ}
use Rattle.std.specs.List.{AllByRecursion}
use Rattle.std.proofs.lemmas.Int.{ints}
use Rattle.std.proofs.lemmas.Bool.{cases_lt}
use Rattle.std.proofs.lemmas.Bool.Decides.{nat_tests}
use Rattle.lot_base.specs.Goods.{quantity_in, cost, plus, zeros, AtMost}
use Rattle.lot_base.specs.Box.{IsIn}
use Rattle.lot_base.specs.Demands.{least_of, greatest_of, least, greatest, IsDemand}
use Rattle.lot_base.specs.Economy.{total_units, demand, IsStrongSubstitutes}
use Rattle.lot_base.specs.Choices.{Clears, IsChoice, IsClearingChoice, sum_of}
use Rattle.lot_base.specs.Steps.{excess, step_set}
use Rattle.lot_base.proofs.Vectors.{above, set_of}
use Rattle.lot_base.proofs.Vec.{length-below}
use Rattle.lot_base.proofs.Demand.{least_bounds, greatest_bounds_units}
use Rattle.lot_base.proofs.Sets.{quantity_in-cost, least-same, greatest-same}
use Rattle.lot_base.proofs.StepSet.{first_set-step_set}
use Rattle.lyapunov.proofs.Digits.{number_of}
use Rattle.lyapunov.proofs.Totals.{AreDemands, IsPriced, HasNoExcess, HasNoOvershoot}
use Rattle.lyapunov.proofs.Existence.{clearing_exists, true_demands}
use Rattle.overshoot.specs.Exchange.{HasExchange}
use Rattle.overshoot.specs.Shortfall.{AllRisen, IsOvershoot}

pub demand-exchange : (s p : List ℕ) (u : List ℕ → ℤ) → IsStrongSubstitutes s u → HasExchange (demand s u p)
demand-exchange s p u strong = (true_demands s (λ _. u) p (0 ∷ []) (strong, tt)).0.2

-- what a demand is, bundle by bundle
all-in : (P : List ℕ → Type 0) (xs : List (List ℕ)) → AllByRecursion P xs → (x : List ℕ) → IsIn x xs → P x
all-in P [] all x h = absurd h
all-in P (y ∷ ys) all x (inl e) = subst P (sym e) all.0
all-in P (y ∷ ys) all x (inr h) = all-in P ys all.1 x h

pub in-box : (s : List ℕ) (xs : List (List ℕ)) → IsDemand s xs → (x : List ℕ) → IsIn x xs → AtMost x s
in-box s xs d = all-in (λ x. AtMost x s) xs d.in_box

some-in : (xs : List (List ℕ)) → 1 ≤ length xs → (x : List ℕ) × IsIn x xs
some-in [] h = absurd (omega arith)
some-in (x ∷ xs) h = (x, inl refl)

pub are-demands : (s : List ℕ) (d : ℕ → List (List ℕ)) (js : List ℕ) → AllByRecursion (λ j. IsDemand s (d j)) js → AllByRecursion (λ j. HasExchange (d j)) js
    → AreDemands s d js
are-demands s d [] fit has = tt
are-demands s d (j ∷ js) fit has = ((some-in (d j) fit.0.some, in-box s (d j) fit.0, has.0), are-demands s d js fit.1 has.1)

-- least and greatest quantities by the digits of the set
total-least : (s : List ℕ) (d : ℕ → List (List ℕ)) (js : List ℕ) → AllByRecursion (λ j. IsDemand s (d j)) js → (set : ℕ)
    → total_units (λ j. least (d j) set) js ≡ total_units (λ j. least_of (cost (set_of (length s) set)) (d j)) js
total-least s d [] fit set = refl
total-least s d (j ∷ js) fit set =
    let first = least-same (λ x. quantity_in x set) (cost (set_of (length s) set)) (d j) (λ x m. quantity_in-cost x set ∙ ap (λ n. cost (set_of n set) x) (length-below x s (in-box s (d j) fit.0 x m))) in
    let rest = total-least s d js fit.1 set in
    λ i. first i + rest i

total-greatest : (s : List ℕ) (d : ℕ → List (List ℕ)) (js : List ℕ) → AllByRecursion (λ j. IsDemand s (d j)) js → (set : ℕ)
    → total_units (λ j. greatest (d j) set) js ≡ total_units (λ j. greatest_of (cost (set_of (length s) set)) (d j)) js
total-greatest s d [] fit set = refl
total-greatest s d (j ∷ js) fit set =
    let first = greatest-same (λ x. quantity_in x set) (cost (set_of (length s) set)) (d j) (λ x m. quantity_in-cost x set ∙ ap (λ n. cost (set_of n set) x) (length-below x s (in-box s (d j) fit.0 x m))) in
    let rest = total-greatest s d js fit.1 set in
    λ i. first i + rest i

-- of the empty set nobody demands anything
pub quantity-none : (x : List ℕ) → quantity_in x 0 ≡ 0
quantity-none [] = refl
quantity-none (q ∷ x) = let rest = quantity-none x in omega arith

least-none : (s : List ℕ) (d : ℕ → List (List ℕ)) (js : List ℕ) → AllByRecursion (λ j. IsDemand s (d j)) js → total_units (λ j. least (d j) 0) js ≡ 0
least-none s d [] fit = refl
least-none s d (j ∷ js) fit =
    let z = some-in (d j) fit.0.some in
    let b = least_bounds (λ x. quantity_in x 0) z.0 (d j) z.1 in
    let q = quantity-none z.0 in
    let rest = least-none s d js fit.1 in
    omega arith

-- where the step set is empty no set is in excess demand
pub no-excess : (s : List ℕ) (d : ℕ → List (List ℕ)) (js : List ℕ) → AllByRecursion (λ j. IsDemand s (d j)) js → step_set s d js ≡ 0 → HasNoExcess s d js
unfolding step_set
no-excess s d js fit none f is_set =
    let step = first_set-step_set (length s) (excess s d js) in
    let n = number_of s f is_set in
    let g = step.greatest n.number n.below in
    let e = ap (excess s d js) none in
    let z = least-none s d js fit in
    let q = quantity-none s in
    let t = total-least s d js fit n.number in
    let u = quantity_in-cost s n.number in
    let v = ap (λ e. total_units (λ j. least_of (cost e) (d j)) js) n.is in
    let w = ap (λ e. cost e s) n.is in
    omega (arith, ints)

-- the digits of a set of risen goods are at most the rises
risen-digits : (o p : List ℕ) (n set : ℕ) → IsPriced (set_of n set) (above p o) → length o ≡ n → length p ≡ n → AllRisen o p set
unfolding set_of
risen-digits [] p n set priced lo lp = tt
risen-digits (q ∷ o) [] n set priced lo lp = tt
risen-digits (q ∷ o) (a ∷ p) zero set priced lo lp = absurd (omega arith)
risen-digits (q ∷ o) (a ∷ p) (suc n) set priced lo lp =
    let h = priced.0 in
    ((λ e. omega arith), risen-digits o p n (set / 2) priced.1 (omega arith) (omega arith))

pub no-overshoot : (s o p : List ℕ) (d : ℕ → List (List ℕ)) (js : List ℕ) → AllByRecursion (λ j. IsDemand s (d j)) js → AtMost o p → length o ≡ length s
    → ((set : ℕ) → IsOvershoot s o p d js set → ⊥) → HasNoOvershoot s d js (above p o)
no-overshoot s o p d js fit op lo none f is_set priced =
    let n = number_of s f is_set in
    let R : List ℕ → Type 0 = λ e. IsPriced e (above p o) in
    let lp : length p ≡ length s = sym (length-below o p op) ∙ lo in
    let risen = risen-digits o p (length s) n.number (subst R (sym n.is) priced) lo lp in
    let t = total-greatest s d js fit n.number in
    let u = quantity_in-cost s n.number in
    let v = ap (λ e. total_units (λ j. greatest_of (cost e) (d j)) js) n.is in
    let w = ap (λ e. cost e s) n.is in
    elim (cases_lt (total_units (λ j. greatest (d j) n.number) js) (quantity_in s n.number)) [
      | inl short ↦ absurd (none n.number (record { is_set = n.below; risen = risen; short = short }))
      | inr enough ↦ omega arith
    ]

-- some choice clears
pub choice-exists : (s o p js : List ℕ) (d : ℕ → List (List ℕ)) → AtMost o p → length o ≡ length s → AllByRecursion (λ j. IsDemand s (d j)) js
    → step_set s d js ≡ 0 → AllByRecursion (λ j. HasExchange (d j)) js → ((set : ℕ) → IsOvershoot s o p d js set → ⊥)
    → (choice : List (List ℕ)) × IsClearingChoice s o p (map d js) choice
choice-exists s o p js d op lo fit ended has none =
    clearing_exists o p s d js op lo (are-demands s d js fit has) (no-excess s d js fit ended) (no-overshoot s o p d js fit op lo none)

-- a choice takes at most the greatest quantities
quantity-sum : (x y : List ℕ) (set : ℕ) → quantity_in (plus x y) set ≡ quantity_in x set + quantity_in y set
quantity-sum [] y set = omega arith
quantity-sum (a ∷ x) [] set = omega arith
quantity-sum (a ∷ x) (b ∷ y) set =
    let rest = quantity-sum x y (set / 2) in
    let first = by (nat_eq (set % 2) 1) in
    omega arith
  where
    by : (t : Bool) → cond t (a + b) 0 ≡ cond t a 0 + cond t b 0
    by true = refl
    by false = refl

quantity-zeros : (s : List ℕ) (set : ℕ) → quantity_in (zeros s) set ≡ 0
quantity-zeros [] set = refl
quantity-zeros (a ∷ s) set = let rest = quantity-zeros s (set / 2) in let first = same (nat_eq (set % 2) 1) 0 in omega arith
  where
    same : (t : Bool) (n : ℕ) → cond t n n ≡ n
    same true n = refl
    same false n = refl

choice-bounded : (s : List ℕ) (d : ℕ → List (List ℕ)) (js : List ℕ) (xs : List (List ℕ)) (set : ℕ) → IsChoice (map d js) xs
    → quantity_in (sum_of s xs) set ≤ total_units (λ j. greatest (d j) set) js
choice-bounded s d [] [] set c = let e = quantity-zeros s set in omega arith
choice-bounded s d [] (x ∷ xs) set c = absurd c
choice-bounded s d (j ∷ js) [] set c = absurd c
choice-bounded s d (j ∷ js) (x ∷ xs) set c =
    let rest = choice-bounded s d js xs set c.1 in
    let first = greatest_bounds_units (λ x. quantity_in x set) x (d j) c.0 in
    let e = quantity-sum x (sum_of s xs) set in
    omega arith

-- of risen goods all is sold
sold-out : (o p t s : List ℕ) (set : ℕ) → Clears o p t s → AllRisen o p set → quantity_in t set ≡ quantity_in s set
sold-out [] [] [] [] set c r = refl
sold-out [] [] [] (m ∷ s) set c r = absurd c
sold-out [] [] (a ∷ t) s set c r = absurd c
sold-out [] (b ∷ p) t s set c r = absurd c
sold-out (q ∷ o) [] t s set c r = absurd c
sold-out (q ∷ o) (b ∷ p) [] s set c r = absurd c
sold-out (q ∷ o) (b ∷ p) (a ∷ t) [] set c r = absurd c
sold-out (q ∷ o) (b ∷ p) (a ∷ t) (m ∷ s) set c r =
    let rest = sold-out o p t s (set / 2) c.2 r.1 in
    let first = by (set % 2) (λ e. c.1 (r.0 e)) in
    omega arith
  where
    by : (digit : ℕ) → (digit ≡ 1 → a ≡ m) → cond (nat_eq digit 1) a 0 ≡ cond (nat_eq digit 1) m 0
    by zero e = refl
    by (suc zero) e = e refl
    by (suc (suc digit)) e = grind (arith, nat_tests)

pub none-overshoots : (s o p js : List ℕ) (d : ℕ → List (List ℕ)) (choice : List (List ℕ)) (set : ℕ) → IsClearingChoice s o p (map d js) choice
    → IsOvershoot s o p d js set → ⊥
none-overshoots s o p js d choice set c over =
    let bound = choice-bounded s d js choice set c.chosen in
    let sold = sold-out o p (sum_of s choice) s set c.clears over.risen in
    let short = over.short in
    omega arith
