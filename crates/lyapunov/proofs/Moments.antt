-- At every moment of a path: how many steps it has taken, and what its prices minimise.
use Rattle.std.proofs.Common.{◌≡◌, ℕ, zero, suc, ◌+◌, ◌-◌, ◌≤◌, List, [], ◌∷◌, length, arith, ap, refl, sym, subst, ◌∙◌, ◌/◌, ◌%◌, nat_eq, cond, Bool, true, false}
use Rattle.std.specs.Prelude.{ℤ, pos, ◌-ℤ◌, ◌≤ℤ◌, max}
use Rattle.std.proofs.lemmas.Int.{ints}
use Rattle.lot_base.specs.Goods.{at, AtMost, zeros, raised}
use Rattle.lot_base.specs.Economy.{indirect_utility, sum_over, AllStrongSubstitutes, AllValuations, lyapunov, IsLeastMinimiser}
use Rattle.lot_base.proofs.Vectors.{above}
use Rattle.lot_base.proofs.Vec.{at-below}
use Rattle.lot_base.proofs.Demand.{surplus_bounds, AtMost-zeros}
use Rattle.lyapunov.specs.Paths.{true_step, prices_along, AllSteps, account_along, highest, highest_rise, IsLeastNear}
use Rattle.lyapunov.proofs.Descent.{lyapunov-convex, lyapunov-raised}
use Rattle.lyapunov.proofs.Entrywise.{at-rest, highest-within}
use Rattle.lyapunov.proofs.Duality.{cost-zeros}
use Rattle.lyapunov.proofs.Lattice.{AtMost-self}
use Rattle.lyapunov.proofs.Chosen.{count_after, first_from}
use Rattle.lyapunov.proofs.Nearest.{Standing, standing, least_near, best_still, least_still}
use Rattle.lyapunov.proofs.Digits.{true_step-lowers, still, digits_of, prices-digits, length-digits, length-raised, length-prices, chosen_along, none_empty}

-- the account of some bidders is how far their function has risen, along any sets
pub account-rises : (s : List ℕ) (u : ℕ → List ℕ → ℤ) (js : List ℕ) → AllStrongSubstitutes s u js → (p sets : List ℕ) → length p ≡ length s
    → account_along s u js p sets ≡ lyapunov s u js (prices_along p sets) -ℤ lyapunov s u js p
account-rises s u js strong p [] same = omega (arith, ints)
account-rises s u js strong p (set ∷ sets) same =
    let step = lyapunov-raised s u js strong p set same in
    let rest = account-rises s u js strong (raised p set) sets (length-raised p set ∙ same) in
    omega (arith, ints)

pub lyapunov-positive : (s : List ℕ) (u : ℕ → List ℕ → ℤ) (js p : List ℕ) → AllValuations s u js → pos 0 ≤ℤ lyapunov s u js p
unfolding lyapunov
lyapunov-positive s u js p h = let i = all js h in omega (arith, ints)
  where
    all : (js : List ℕ) → AllValuations s u js → pos 0 ≤ℤ sum_over (λ j. indirect_utility s (u j) p) js
    all [] h = omega (arith, ints)
    all (j ∷ js) h =
        let i = all js h.1 in let k = surplus_bounds s (u j) p (zeros s) (AtMost-zeros s) in let z = h.0 in let d = cost-zeros p s in omega (arith, ints)

-- each step takes at least 1 off a function that is never below 0
pub few_steps : (s : List ℕ) (u : ℕ → List ℕ → ℤ) (js : List ℕ) → AllStrongSubstitutes s u js → AllValuations s u js → (p sets : List ℕ)
    → length p ≡ length s → AllSteps s u js p sets → pos (length sets) ≤ℤ lyapunov s u js p
few_steps s u js strong values p [] same steps = lyapunov-positive s u js p values
few_steps s u js strong values p (set ∷ sets) same steps =
    let low = true_step-lowers s u js strong p same (λ none. steps.0 (steps.1 ∙ none)) in
    let e = ap (λ n. lyapunov s u js (raised p n)) steps.1 in
    let rest = few_steps s u js strong values (raised p set) sets (length-raised p set ∙ same) steps.2 in
    omega (arith, ints)

pub highest-above : (o p : List ℕ) → length p ≡ length o → highest_rise o p ≡ highest (above p o)
highest-above [] [] same = refl
highest-above [] (q ∷ p) same = absurd (omega arith)
highest-above (a ∷ o) [] same = absurd (omega arith)
highest-above (a ∷ o) (q ∷ p) same = let same' : length p ≡ length o = omega arith in ap (λ n. max (q - a) n) (highest-above o p same')

-- the steps are as many as the highest rise of a price
pub as_many : (s : List ℕ) (u : ℕ → List ℕ → ℤ) (js : List ℕ) → AllStrongSubstitutes s u js → (o sets : List ℕ) → length o ≡ length s
    → AllSteps s u js o sets → length sets ≡ highest_rise o (prices_along o sets)
as_many s u js strong o sets same steps =
    let g = lyapunov s u js in
    let mid = lyapunov-convex s u js strong in
    let es = digits_of s sets in
    let chosen = chosen_along s u js strong o sets same steps in
    let count = count_after s g mid o o es same (AtMost-self o) chosen (none_empty s u js o sets steps) (first_from s g mid o es same chosen) in
    sym (length-digits s sets) ∙ count ∙ ap (λ q. highest (above q o)) (sym (prices-digits s o sets same))
    ∙ sym (highest-above o (prices_along o sets) (length-prices o sets))

-- no other sets raise the prices as far in fewer steps
one_higher : (p : List ℕ) (set k : ℕ) → at (raised p set) k ≤ at p k + 1
one_higher [] set k = omega arith
one_higher (a ∷ p) set zero = by (nat_eq (set % 2) 1)
  where
    by : (b : Bool) → cond b (a + 1) a ≤ a + 1
    by true = omega arith
    by false = omega arith
one_higher (a ∷ p) set (suc k) = one_higher p (set / 2) k

as_high : (p sets : List ℕ) (k : ℕ) → at (prices_along p sets) k ≤ at p k + length sets
as_high p [] k = omega arith
as_high p (set ∷ sets) k = let rest = as_high (raised p set) sets k in omega (arith, rest, one_higher p set k)

pub fastest : (s : List ℕ) (u : ℕ → List ℕ → ℤ) (js : List ℕ) → AllStrongSubstitutes s u js → (o sets others : List ℕ) → length o ≡ length s
    → AllSteps s u js o sets → AtMost (prices_along o sets) (prices_along o others) → length sets ≤ length others
fastest s u js strong o sets others same steps below =
    let p = prices_along o sets in
    let count = as_many s u js strong o sets same steps in
    let rise = highest-within (length others) (above p o) (λ k. omega (arith, at-rest p o k, at-below p (prices_along o others) k below, as_high o others k)) in
    omega (arith, count, rise, highest-above o p (length-prices o sets))

-- from an opening of 0 they are as many as the highest price
pub highest-zeros : (s p : List ℕ) → length p ≡ length s → highest_rise (zeros s) p ≡ highest p
highest-zeros [] [] same = refl
highest-zeros [] (q ∷ p) same = absurd (omega arith)
highest-zeros (a ∷ s) [] same = absurd (omega arith)
highest-zeros (a ∷ s) (q ∷ p) same =
    let same' : length p ≡ length s = omega arith in
    let rest = highest-zeros s p same' in
    omega arith

-- what stands at every moment
pub stands : (s : List ℕ) (u : ℕ → List ℕ → ℤ) (js : List ℕ) → AllStrongSubstitutes s u js → (o sets : List ℕ) → length o ≡ length s
    → AllSteps s u js o sets → Standing (lyapunov s u js) o (length sets) (prices_along o sets)
stands s u js strong o sets same steps =
    let t = standing s (lyapunov s u js) (lyapunov-convex s u js strong) o (digits_of s sets) same (chosen_along s u js strong o sets same steps) in
    let P : ℕ → Type 0 = λ n. Standing (lyapunov s u js) o n (prices_along o sets) in
    let Q : List ℕ → Type 0 = λ q. Standing (lyapunov s u js) o (length (digits_of s sets)) q in
    subst P (length-digits s sets) (subst Q (sym (prices-digits s o sets same)) t)

-- the prices after t steps are the least that minimise the function over all prices within t of the opening
pub least_near_opening : (s : List ℕ) (u : ℕ → List ℕ → ℤ) (js : List ℕ) → AllStrongSubstitutes s u js → (o sets : List ℕ)
    → length o ≡ length s → AllSteps s u js o sets → IsLeastNear o (length sets) (lyapunov s u js) (prices_along o sets)
least_near_opening s u js strong o sets same steps =
    let t = stands s u js strong o sets same steps in
    record {
      above = t.above_opening;
      near = t.near;
      best = λ q oq near. t.best q oq near;
      least = λ q oq near low. least_near (lyapunov s u js) (lyapunov-convex s u js strong) o (length sets) (prices_along o sets) t q oq near low;
    }

-- where no set is in excess demand, the prices are the least minimiser
pub ended-least : (s : List ℕ) (u : ℕ → List ℕ → ℤ) (js : List ℕ) → AllStrongSubstitutes s u js → (o sets : List ℕ) → length o ≡ length s
    → AllSteps s u js o sets → true_step s u js (prices_along o sets) ≡ 0 → IsLeastMinimiser o (lyapunov s u js) (prices_along o sets)
ended-least s u js strong o sets same steps none =
    let g = lyapunov s u js in
    let mid = lyapunov-convex s u js strong in
    let p = prices_along o sets in
    let t = stands s u js strong o sets same steps in
    let rest = still s u js strong p (length-prices o sets ∙ same) none in
    ((t.above_opening, best_still s g mid o (length sets) p same t rest), λ q least. least_still s g mid o (length sets) p same t rest q least.0 (least.1 p t.above_opening))
