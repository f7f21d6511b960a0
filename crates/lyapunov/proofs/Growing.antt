-- Paths that grow by a step at their end, as a clock's path does, and lists of bundles that are what the bidders truly demand.
use Rattle.std.proofs.Common.{◌≡◌, ◌≢◌, ℕ, ◌+◌, List, [], ◌∷◌, ◌++◌, length, arith, ap, refl}
use Rattle.std.specs.Prelude.{ℤ, pos, ◌+ℤ◌, ◌-ℤ◌}
use Rattle.std.specs.List.{AllByRecursion}
use Rattle.std.proofs.lemmas.Int.{ints}
use Rattle.lot_base.specs.Goods.{quantity_in, raised}
use Rattle.lot_base.specs.Demands.{least}
use Rattle.lot_base.specs.Economy.{demand, total_units}
use Rattle.lot_base.specs.Steps.{excess, first_set, step_set}
use Rattle.lyapunov.specs.Paths.{true_step, prices_along, AllSteps, account_along}

pub prices_along-append : (p sets : List ℕ) (set : ℕ) → prices_along p (sets ++ set ∷ []) ≡ raised (prices_along p sets) set
prices_along-append p [] set = refl
prices_along-append p (first ∷ sets) set = prices_along-append (raised p first) sets set

pub AllSteps-append : (s : List ℕ) (u : ℕ → List ℕ → ℤ) (js p sets : List ℕ) (set : ℕ) → AllSteps s u js p sets → set ≢ 0
    → set ≡ true_step s u js (prices_along p sets) → AllSteps s u js p (sets ++ set ∷ [])
AllSteps-append s u js p [] set steps some is = (some, is, tt)
AllSteps-append s u js p (first ∷ sets) set steps some is = (steps.0, steps.1, AllSteps-append s u js (raised p first) sets set steps.2 some is)

pub account_along-append : (s : List ℕ) (u : ℕ → List ℕ → ℤ) (js p sets : List ℕ) (set : ℕ)
    → account_along s u js p (sets ++ set ∷ []) ≡ account_along s u js p sets +ℤ (pos (quantity_in s set) -ℤ pos (total_units (λ j. least (demand s (u j) (prices_along p sets)) set) js))
account_along-append s u js p [] set = omega (arith, ints)
account_along-append s u js p (first ∷ sets) set = let rest = account_along-append s u js (raised p first) sets set in omega (arith, ints)

-- the same lists of bundles have the same excess and the same step set
pub total_least-same : (d e : ℕ → List (List ℕ)) (js : List ℕ) (set : ℕ) → AllByRecursion (λ j. d j ≡ e j) js
    → total_units (λ j. least (d j) set) js ≡ total_units (λ j. least (e j) set) js
total_least-same d e [] set same = refl
total_least-same d e (j ∷ js) set same = let first = same.0 in let rest = total_least-same d e js set same.1 in λ i. least (first i) set + rest i

pub excess-same : (s : List ℕ) (d e : ℕ → List (List ℕ)) (js : List ℕ) (set : ℕ) → AllByRecursion (λ j. d j ≡ e j) js
    → excess s d js set ≡ excess s e js set
excess-same s d e js set same = ap (λ n. pos n -ℤ pos (quantity_in s set)) (total_least-same d e js set same)

pub step_set-same : (s : List ℕ) (d e : ℕ → List (List ℕ)) (js : List ℕ) → AllByRecursion (λ j. d j ≡ e j) js
    → step_set s d js ≡ step_set s e js
unfolding step_set
step_set-same s d e js same = λ i. first_set (λ set. excess-same s d e js set same i) (length s)

-- so where the bidders listed what they demand, the step set is that of their true demands
pub step_set-true : (s : List ℕ) (u : ℕ → List ℕ → ℤ) (d : ℕ → List (List ℕ)) (js p : List ℕ)
    → AllByRecursion (λ j. d j ≡ demand s (u j) p) js → step_set s d js ≡ true_step s u js p
step_set-true s u d js p same = step_set-same s d (λ j. demand s (u j) p) js same
