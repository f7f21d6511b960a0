-- Weak duality: no allocation is worth more than the Lyapunov function at any prices from the opening on, and a choice of demanded
-- bundles that clears is worth as much. So such a choice has the greatest worth, and its prices minimise the function.
use Rattle.std.proofs.Common.{◌≡◌, inl, inr, ℕ, zero, suc, ◌+◌, ◌-◌, ◌*◌, ◌≤◌, ◌<◌, List, [], ◌∷◌, length, map, arith, ap, refl, sym, subst}
use Rattle.std.specs.Prelude.{ℤ, pos, ◌+ℤ◌, ◌≤ℤ◌}
use Rattle.std.specs.List.{AllByRecursion}
use Rattle.std.proofs.lemmas.Int.{ints}
use Rattle.std.proofs.lemmas.Bool.{cases_lt}
use Rattle.std.proofs.Math.Nat.{mul-le-mul_left}
use Rattle.lot_base.specs.Goods.{cost, plus, zeros, at, AtMost}
use Rattle.lot_base.specs.Economy.{indirect_utility, demand, sum_over, lyapunov, IsMinimiser}
use Rattle.lot_base.specs.Equilibrium.{total_bundle, IsAllocation, total_value, worth, IsWelfare, AllDemanded, IsWalrasian}
use Rattle.lot_base.specs.Choices.{sum_of, Clears, IsChoice, IsClearingChoice}
use Rattle.lot_base.proofs.Vec.{cost-plus_right}
use Rattle.lot_base.proofs.Demand.{surplus_bounds, worth_of_demanded, demand-IsIn, AtMost-zeros}

pub cost-zeros : (p s : List ℕ) → cost p (zeros s) ≡ 0
cost-zeros [] s = refl
cost-zeros (a ∷ p) [] = refl
cost-zeros (a ∷ p) (c ∷ s) = let i = cost-zeros p s in omega arith

-- the seller gains by the prices, over the opening, at least what it gains on the units that are sold
pub cost-within : (o p t s : List ℕ) → AtMost o p → AtMost t s → cost p t + cost o s ≤ cost p s + cost o t
cost-within [] [] t s op ts = omega arith
cost-within [] (a ∷ p) t s op ts = absurd op
cost-within (b ∷ o) [] t s op ts = absurd op
cost-within (b ∷ o) (a ∷ p) [] [] op ts = omega arith
cost-within (b ∷ o) (a ∷ p) [] (m ∷ s) op ts = absurd ts
cost-within (b ∷ o) (a ∷ p) (n ∷ t) [] op ts = absurd ts
cost-within (b ∷ o) (a ∷ p) (n ∷ t) (m ∷ s) op ts = let i = cost-within o p t s op.1 ts.1 in let j = products b a n m op.0 ts.0 in omega arith
  where
    products : (b a n m : ℕ) → b ≤ a → n ≤ m → a * n + b * m ≤ a * m + b * n
    products b a n m h k =
        let d = a - b in
        let e : a ≡ b + d = omega arith in
        let less = mul-le-mul_left d k in
        let f = ap (λ z. z * n) e in
        let g = ap (λ z. z * m) e in
        omega arith

-- and exactly this where each good with an unsold unit is at its opening price
pub cost-sold : (o p t s : List ℕ) → AtMost o p → AtMost t s → ((k : ℕ) → at t k < at s k → at p k ≡ at o k)
    → cost p t + cost o s ≡ cost p s + cost o t
cost-sold [] [] t s op ts unsold = omega arith
cost-sold [] (a ∷ p) t s op ts unsold = absurd op
cost-sold (b ∷ o) [] t s op ts unsold = absurd op
cost-sold (b ∷ o) (a ∷ p) [] [] op ts unsold = omega arith
cost-sold (b ∷ o) (a ∷ p) [] (m ∷ s) op ts unsold = absurd ts
cost-sold (b ∷ o) (a ∷ p) (n ∷ t) [] op ts unsold = absurd ts
cost-sold (b ∷ o) (a ∷ p) (n ∷ t) (m ∷ s) op ts unsold =
    let i = cost-sold o p t s op.1 ts.1 (λ k h. unsold (suc k) h) in
    elim (cases_lt n m) [
      | inl less ↦ (let e : a ≡ b = unsold 0 less in let f = ap (λ z. z * n) e in let g = ap (λ z. z * m) e in omega arith)
      | inr all ↦ (let e : n ≡ m = (let h = ts.0 in omega arith) in let f = ap (λ z. a * z) e in let g = ap (λ z. b * z) e in omega arith)
    ]

-- the bidders' indirect utilities cover what their bundles are worth beyond their cost
pub covered : (s : List ℕ) (u : ℕ → List ℕ → ℤ) (p : List ℕ) (x : ℕ → List ℕ) (js : List ℕ) → AllByRecursion (λ j. AtMost (x j) s) js
    → total_value u js x ≤ℤ (sum_over (λ j. indirect_utility s (u j) p) js +ℤ pos (cost p (total_bundle s x js)))
covered s u p x [] h = let i = cost-zeros p s in omega (arith, ints)
covered s u p x (j ∷ js) h =
    let i = covered s u p x js h.1 in
    let k = surplus_bounds s (u j) p (x j) h.0 in
    let l = cost-plus_right p (x j) (total_bundle s x js) in
    omega (arith, ints)

pub met : (s : List ℕ) (u : ℕ → List ℕ → ℤ) (p : List ℕ) (x : ℕ → List ℕ) (js : List ℕ) → AllDemanded s u p js x
    → total_value u js x ≡ sum_over (λ j. indirect_utility s (u j) p) js +ℤ pos (cost p (total_bundle s x js))
met s u p x [] h = let i = cost-zeros p s in omega (arith, ints)
met s u p x (j ∷ js) h =
    let i = met s u p x js h.1 in
    let k = worth_of_demanded s (u j) p (x j) (demand-IsIn s (u j) p (x j) h.0) in
    let l = cost-plus_right p (x j) (total_bundle s x js) in
    omega (arith, ints)

pub weak_duality : (s o : List ℕ) (u : ℕ → List ℕ → ℤ) (js p : List ℕ) (x : ℕ → List ℕ) → AtMost o p → IsAllocation s js x
    → worth s o u js x ≤ℤ lyapunov s u js p
unfolding lyapunov
weak_duality s o u js p x op h =
    let i = covered s u p x js h.bundles in
    let k = cost-within o p (total_bundle s x js) s op h.within in
    omega (arith, ints)

pub walrasian-worth : (s o : List ℕ) (u : ℕ → List ℕ → ℤ) (js p : List ℕ) (x : ℕ → List ℕ) → IsWalrasian s o u js p x
    → worth s o u js x ≡ lyapunov s u js p
unfolding lyapunov
walrasian-worth s o u js p x h =
    let i = met s u p x js h.demanded in
    let k = cost-sold o p (total_bundle s x js) s h.prices h.allocation.within h.unsold in
    omega (arith, ints)

-- an equilibrium has the greatest worth
pub walrasian-welfare : (s o : List ℕ) (u : ℕ → List ℕ → ℤ) (js p : List ℕ) (x : ℕ → List ℕ) → IsWalrasian s o u js p x
    → IsWelfare s o u js (worth s o u js x)
walrasian-welfare s o u js p x h = record {
  best = x;
  allocation = h.allocation;
  reached = refl;
  bound = λ y a. let i = weak_duality s o u js p y h.prices a in let k = walrasian-worth s o u js p x h in omega (arith, ints);
}

-- and its prices minimise the function
pub walrasian-minimises : (s o : List ℕ) (u : ℕ → List ℕ → ℤ) (js p : List ℕ) (x : ℕ → List ℕ) → IsWalrasian s o u js p x
    → IsMinimiser o (lyapunov s u js) p
walrasian-minimises s o u js p x h =
    (h.prices, λ q oq. let i = weak_duality s o u js q x oq h.allocation in let k = walrasian-worth s o u js p x h in omega (arith, ints))

-- a choice as a list of bundles and as a bundle for each bidder
pub sum-total : (s : List ℕ) (x : ℕ → List ℕ) (js : List ℕ) → sum_of s (map x js) ≡ total_bundle s x js
sum-total s x [] = refl
sum-total s x (j ∷ js) = ap (plus (x j)) (sum-total s x js)

pub choice-demanded : (s : List ℕ) (u : ℕ → List ℕ → ℤ) (p : List ℕ) (x : ℕ → List ℕ) (js : List ℕ)
    → IsChoice (map (λ j. demand s (u j) p) js) (map x js) → AllDemanded s u p js x
choice-demanded s u p x [] h = tt
choice-demanded s u p x (j ∷ js) h = (h.0, choice-demanded s u p x js h.1)

pub demanded-choice : (s : List ℕ) (u : ℕ → List ℕ → ℤ) (p : List ℕ) (x : ℕ → List ℕ) (js : List ℕ)
    → AllDemanded s u p js x → IsChoice (map (λ j. demand s (u j) p) js) (map x js)
demanded-choice s u p x [] h = tt
demanded-choice s u p x (j ∷ js) h = (h.0, demanded-choice s u p x js h.1)

pub clears-within : (o p t s : List ℕ) → Clears o p t s → AtMost t s
clears-within [] [] [] [] h = tt
clears-within [] [] [] (m ∷ s) h = absurd h
clears-within [] [] (n ∷ t) s h = absurd h
clears-within [] (a ∷ p) t s h = absurd h
clears-within (b ∷ o) [] t s h = absurd h
clears-within (b ∷ o) (a ∷ p) [] s h = absurd h
clears-within (b ∷ o) (a ∷ p) (n ∷ t) [] h = absurd h
clears-within (b ∷ o) (a ∷ p) (n ∷ t) (m ∷ s) h = (h.0, clears-within o p t s h.2)

pub clears-unsold : (o p t s : List ℕ) → AtMost o p → Clears o p t s → (k : ℕ) → at t k < at s k → at p k ≡ at o k
clears-unsold [] [] [] [] op h k less = refl
clears-unsold [] [] [] (m ∷ s) op h k less = absurd h
clears-unsold [] [] (n ∷ t) s op h k less = absurd h
clears-unsold [] (a ∷ p) t s op h k less = absurd h
clears-unsold (b ∷ o) [] t s op h k less = absurd h
clears-unsold (b ∷ o) (a ∷ p) [] s op h k less = absurd h
clears-unsold (b ∷ o) (a ∷ p) (n ∷ t) [] op h k less = absurd h
clears-unsold (b ∷ o) (a ∷ p) (n ∷ t) (m ∷ s) op h zero less = elim (cases_lt b a) [
  | inl above ↦ absurd (let e = h.1 above in omega arith)
  | inr here ↦ (let low = op.0 in omega arith)
]
clears-unsold (b ∷ o) (a ∷ p) (n ∷ t) (m ∷ s) op h (suc k) less = clears-unsold o p t s op.1 h.2 k less

unsold-clears : (o p t s : List ℕ) → length o ≡ length s → AtMost o p → AtMost t s → ((k : ℕ) → at t k < at s k → at p k ≡ at o k)
    → Clears o p t s
unsold-clears [] [] [] [] same op ts unsold = tt
unsold-clears [] [] [] (m ∷ s) same op ts unsold = absurd ts
unsold-clears [] [] (n ∷ t) [] same op ts unsold = absurd ts
unsold-clears [] [] (n ∷ t) (m ∷ s) same op ts unsold = absurd (omega arith)
unsold-clears [] (a ∷ p) t s same op ts unsold = absurd op
unsold-clears (b ∷ o) [] t s same op ts unsold = absurd op
unsold-clears (b ∷ o) (a ∷ p) t [] same op ts unsold = absurd (omega arith)
unsold-clears (b ∷ o) (a ∷ p) [] (m ∷ s) same op ts unsold = absurd ts
unsold-clears (b ∷ o) (a ∷ p) (n ∷ t) (m ∷ s) same op ts unsold =
    let same' : length o ≡ length s = omega arith in
    (ts.0, (λ above. sold n m a b ts.0 (unsold 0) above), unsold-clears o p t s same' op.1 ts.1 (λ k h. unsold (suc k) h))
  where
    sold : (n m a b : ℕ) → n ≤ m → (n < m → a ≡ b) → b < a → n ≡ m
    sold n m a b low unsold above = elim (cases_lt n m) [ inl less ↦ absurd (let e = unsold less in omega arith) | inr all ↦ omega arith ]

in_box : (s : List ℕ) (u : ℕ → List ℕ → ℤ) (p : List ℕ) (x : ℕ → List ℕ) (js : List ℕ) → AllDemanded s u p js x
    → AllByRecursion (λ j. AtMost (x j) s) js
in_box s u p x [] h = tt
in_box s u p x (j ∷ js) h = ((demand-IsIn s (u j) p (x j) h.0).0, in_box s u p x js h.1)

-- a clearing choice of demanded bundles is an equilibrium, and the other way round
pub clearing-walrasian : (s o : List ℕ) (u : ℕ → List ℕ → ℤ) (js p : List ℕ) (x : ℕ → List ℕ) → AtMost o p
    → IsClearingChoice s o p (map (λ j. demand s (u j) p) js) (map x js) → IsWalrasian s o u js p x
clearing-walrasian s o u js p x op h =
    let all = choice-demanded s u p x js h.chosen in
    let P : List ℕ → Type 0 = λ t. Clears o p t s in
    let clears = subst P (sum-total s x js) h.clears in
    record {
      prices = op;
      allocation = record { bundles = in_box s u p x js all; within = clears-within o p (total_bundle s x js) s clears };
      demanded = all;
      unsold = clears-unsold o p (total_bundle s x js) s op clears;
    }

pub walrasian-clearing : (s o : List ℕ) (u : ℕ → List ℕ → ℤ) (js p : List ℕ) (x : ℕ → List ℕ) → length o ≡ length s
    → IsWalrasian s o u js p x → IsClearingChoice s o p (map (λ j. demand s (u j) p) js) (map x js)
walrasian-clearing s o u js p x same h =
    let P : List ℕ → Type 0 = λ t. Clears o p t s in
    record {
      chosen = demanded-choice s u p x js h.demanded;
      clears = subst P (sym (sum-total s x js)) (unsold-clears o p (total_bundle s x js) s same h.prices h.allocation.within h.unsold);
    }

-- at an opening of 0
pub AtMost-any : (s p : List ℕ) → length p ≡ length s → AtMost (zeros s) p
AtMost-any [] [] same = tt
AtMost-any [] (a ∷ p) same = absurd (omega arith)
AtMost-any (m ∷ s) [] same = absurd (omega arith)
AtMost-any (m ∷ s) (a ∷ p) same = let same' : length p ≡ length s = omega arith in (omega arith, AtMost-any s p same')

pub zeros-cost : (s x : List ℕ) → cost (zeros s) x ≡ 0
zeros-cost [] x = refl
zeros-cost (m ∷ s) [] = refl
zeros-cost (m ∷ s) (a ∷ x) = let i = zeros-cost s x in omega arith

pub worth-zeros : (s : List ℕ) (u : ℕ → List ℕ → ℤ) (js : List ℕ) (x : ℕ → List ℕ) → worth s (zeros s) u js x ≡ total_value u js x
worth-zeros s u js x = let i = zeros-cost s s in let k = zeros-cost s (total_bundle s x js) in omega (arith, ints)

-- the greatest worth is one number, and without bidders it is 0
pub welfare-one : (s o : List ℕ) (u : ℕ → List ℕ → ℤ) (js : List ℕ) (w v : ℤ) → IsWelfare s o u js w → IsWelfare s o u js v → w ≡ v
welfare-one s o u js w v a b =
    let h = a.bound b.best b.allocation in
    let k = b.bound a.best a.allocation in
    let d = a.reached in
    let e = b.reached in
    omega (arith, ints)

pub welfare-nobody : (s : List ℕ) (u : ℕ → List ℕ → ℤ) → IsWelfare s (zeros s) u [] (pos 0)
welfare-nobody s u = record {
  best = λ j. zeros s;
  allocation = record { bundles = tt; within = AtMost-zeros s };
  reached = worth-zeros s u [] (λ j. zeros s);
  bound = λ x allocation. let e = worth-zeros s u [] x in omega (arith, ints);
}
