-- Where no set of goods is in excess demand and none overshoots, the demands have a clearing choice: the supply lies, on each set of
-- goods, between two sums of a demanded bundle of each bidder and of what may stay unsold. At prices that minimise the Lyapunov
-- function this is so, as at the end of a path.
use Rattle.std.proofs.Common.{◌≡◌, inl, inr, ℕ, zero, suc, ◌+◌, ◌≤◌, List, [], ◌∷◌, length, map, arith, ap, sym, subst, ◌∙◌}
use Rattle.std.specs.Prelude.{ℤ, pos, ◌-ℤ◌}
use Rattle.std.proofs.lemmas.Int.{ints}
use Rattle.lot_base.specs.Goods.{cost, plus, zeros, at, one_more, one_less, AtMost}
use Rattle.lot_base.specs.Demands.{least_of, greatest_of}
use Rattle.lot_base.specs.Economy.{NoWorse, IsStrongSubstitutes, IsDemanded, indirect_utility, demand, sum_over, total_units, AllStrongSubstitutes, lyapunov, IsMinimiser}
use Rattle.lot_base.specs.Choices.{sum_of, IsClearingChoice}
use Rattle.lot_base.proofs.Vectors.{distance, Bits, above, inside}
use Rattle.lot_base.proofs.Vec.{cost-plus_left, length-below, at-below}
use Rattle.lot_base.proofs.Exchange.{Moved, moved_one, moved_two}
use Rattle.lot_base.proofs.Meet.{demanded_from}
use Rattle.lot_base.proofs.Demand.{surplus_reached, demanded_at, IsIn-demand, demand-IsIn}
use Rattle.lot_base.proofs.Steps.{greatest_of_step}
use Rattle.lot_base.specs.Equilibrium.{IsWalrasianPrices}
use Rattle.lyapunov.specs.Bidders.{AllDifferent, bundle_of}
use Rattle.lyapunov.specs.Paths.{true_step, prices_along, AllSteps}
use Rattle.lyapunov.proofs.Convex.{length-above, length-plus, length-inside, Bits-inside}
use Rattle.lyapunov.proofs.Entrywise.{at-rest, at-sum, same-at, AtMost-at}
use Rattle.lyapunov.proofs.Descent.{lyapunov-plus}
use Rattle.lyapunov.proofs.Lattice.{AtMost-more, AtMost-raised}
use Rattle.lyapunov.proofs.Moments.{ended-least}
use Rattle.lyapunov.proofs.Duality.{clearing-walrasian}
use Rattle.lyapunov.proofs.Bidders.{map-bundle_of, length-choice}
use Rattle.lyapunov.proofs.Taking.{reached}
use Rattle.lyapunov.proofs.Totals.{HasExchange, AreDemands, IsPriced, HasNoExcess, HasNoOvershoot, IsTotal, cap, length-cap, AtMost-cap, total-below, total_gives, total_takes, total-dec, low_total, high_total, free_of, cost-priced, priced-inside, parts_of, clears_from, length-sum}

-- where no set is in excess and none overshoots, the demands clear
pub clearing_exists : (o p s : List ℕ) (d : ℕ → List (List ℕ)) (js : List ℕ) → AtMost o p → length o ≡ length s → AreDemands s d js
    → HasNoExcess s d js → HasNoOvershoot s d js (above p o) → (xs : List (List ℕ)) × IsClearingChoice s o p (map d js) xs
clearing_exists o p s d js op lo h ended none =
    let w = above p o in
    let l : length w ≡ length s = length-above p o ∙ sym (length-below o p op) ∙ lo in
    let lc = length-cap s js in
    let a = low_total w s d js h l (zeros s) in
    let t = reached (cap s js) (IsTotal w s d js) (total_gives w s d js h) (total_takes w s d js h) (λ x i. total-below w s d js h x i) (λ x. total-dec w s d js h x) s (AtMost-cap s js)
    (λ e b k. low w e b k (low_total w s d js h l e)) (λ e b k. high l e b k (high_total w s d js h l e)) (distance a.0 s) a.0 a.1 (omega arith) in
    let r = parts_of w s d js s t in
    (r.choice, record { chosen = r.listed; clears = clears_from o p s (sum_of s r.choice) r.unsold op r.free (length-sum s d js r.choice h r.listed) r.is })
  where
    low : (w e : List ℕ) → Bits e → length e ≡ length (cap s js)
        → (y : List ℕ) × IsTotal w s d js y × (cost e y ≡ total_units (λ j. least_of (cost e) (d j)) js)
        → (y : List ℕ) × IsTotal w s d js y × (cost e y ≤ cost e s)
    low w e b k t = let lc = length-cap s js in let i = t.2 in let j = ended e (b, k ∙ lc) in (t.0, t.1, omega (arith, ints))

    high : length (above p o) ≡ length s → (e : List ℕ) → Bits e → length e ≡ length (cap s js)
        → (y : List ℕ) × IsTotal (above p o) s d js y × (total_units (λ j. greatest_of (cost (inside e (above p o))) (d j)) js + cost e (free_of (above p o) s) ≤ cost e y)
        → (y : List ℕ) × IsTotal (above p o) s d js y × (cost e s ≤ cost e y)
    high l e b k t =
        let w = above p o in
        let lc = length-cap s js in
        let i = t.2 in
        let li = length-inside e w in
        let le : length e ≡ length s = k ∙ lc in
        let lf : length (inside e w) ≡ length s = omega arith in
        let j = none (inside e w) (Bits-inside e w b, lf) (priced-inside e w) in
        let z = cost-priced e w s b le l in
        (t.0, t.1, omega arith)

-- an exchange between demanded bundles that is no worse gives demanded bundles
both_demanded : (s : List ℕ) (u : List ℕ → ℤ) (p x y x' y' : List ℕ) → IsDemanded s u p x → IsDemanded s u p y → Moved s x y x' y'
    → NoWorse u x y x' y' → IsDemanded s u p x' × IsDemanded s u p y'
both_demanded s u p x y x' y' dx dy m v =
    let t = m.total p in
    let a = dx.1 x' m.in_x in
    let b = dy.1 y' m.in_y in
    (demanded_from s u p x x' dx m.in_x (omega (arith, ints)), demanded_from s u p y y' dy m.in_y (omega (arith, ints)))

demand_exchange : (s : List ℕ) (u : List ℕ → ℤ) (p : List ℕ) → IsStrongSubstitutes s u → HasExchange (demand s u p)
demand_exchange s u p strong x y k hx hy h =
    let dx = demand-IsIn s u p x hx in
    let dy = demand-IsIn s u p y hy in
    elim (strong x y k dx.0 dy.0 h) [
      | inl v ↦ let t = both_demanded s u p x y (one_less x k) (one_more y k) dx dy (moved_one s x y k dx.0 dy.0 h) v in
          inl (IsIn-demand s u p (one_less x k) t.0, IsIn-demand s u p (one_more y k) t.1)
      | inr q ↦ let t = both_demanded s u p x y (one_more (one_less x k) q.0) (one_less (one_more y k) q.0) dx dy (moved_two s x y k q.0 dx.0 dy.0 h q.1) q.2 in
          inr (q.0, q.1, IsIn-demand s u p (one_more (one_less x k) q.0) t.0, IsIn-demand s u p (one_less (one_more y k) q.0) t.1)
    ]

pub true_demands : (s : List ℕ) (u : ℕ → List ℕ → ℤ) (p js : List ℕ) → AllStrongSubstitutes s u js → AreDemands s (λ j. demand s (u j) p) js
true_demands s u p [] strong = tt
true_demands s u p (j ∷ js) strong =
    let b = surplus_reached s (u j) p in (
      (
        (b.bundle, IsIn-demand s (u j) p b.bundle (demanded_at s (u j) p b.bundle b.below b.is)),
        (λ x h. (demand-IsIn s (u j) p x h).0),
        demand_exchange s (u j) p strong.0,
      ),
      true_demands s u p js strong.1,
    )

pub greatest_sum : (s : List ℕ) (u : ℕ → List ℕ → ℤ) (q e js : List ℕ) → AllStrongSubstitutes s u js → Bits e
    → pos (total_units (λ j. greatest_of (cost e) (demand s (u j) (plus q e))) js) ≡ sum_over (λ j. indirect_utility s (u j) q) js -ℤ sum_over (λ j. indirect_utility s (u j) (plus q e)) js
greatest_sum s u q e [] strong b = omega (arith, ints)
greatest_sum s u q e (j ∷ js) strong b = let i = greatest_sum s u q e js strong.1 b in let k = greatest_of_step s (u j) strong.0 q e b in omega (arith, ints)

pub at-priced : (e w : List ℕ) (k : ℕ) → length e ≡ length w → IsPriced e w → at e k ≤ at w k
at-priced [] w k l h = omega arith
at-priced (a ∷ e) [] k l h = absurd (omega arith)
at-priced (a ∷ e) (b ∷ w) zero l h = h.0
at-priced (a ∷ e) (b ∷ w) (suc k) l h = let l' : length e ≡ length w = omega arith in at-priced e w k l' h.1

-- at a minimiser no set of risen goods overshoots: lowering the prices on it would not raise the function
pub no_overshoot : (s o : List ℕ) (u : ℕ → List ℕ → ℤ) (js p : List ℕ) → AllStrongSubstitutes s u js → length o ≡ length s
    → IsMinimiser o (lyapunov s u js) p → HasNoOvershoot s (λ j. demand s (u j) p) js (above p o)
unfolding lyapunov
no_overshoot s o u js p strong lo m e es priced =
    let q = above p e in
    let lp = length-below o p m.0 in
    let lw = length-above p o in
    let le : length e ≡ length (above p o) = es.1 ∙ sym lo ∙ lp ∙ sym lw in
    let lq = length-above p e in
    let f = same-at (plus q e) p (omega (arith, length-plus q e, lq, le, lw)) (λ k. omega (arith, at-sum q e k, at-rest p e k, at-rest p o k, at-priced e (above p o) k le priced)) in
    let oq = AtMost-at o q (lp ∙ sym lq) (λ k. omega (arith, at-rest p e k, at-rest p o k, at-priced e (above p o) k le priced, at-below o p k m.0)) in
    let w = m.1 q oq in
    let P : List ℕ → Type 0 = λ r. pos (total_units (λ j. greatest_of (cost e) (demand s (u j) r)) js) ≡ sum_over (λ j. indirect_utility s (u j) q) js -ℤ sum_over (λ j. indirect_utility s (u j) r) js in
    let g = subst P f (greatest_sum s u q e js strong es.0) in
    let c = cost-plus_left q e s in
    let k = ap (λ r. cost r s) f in
    omega (arith, ints)

-- nor is any set in excess demand: raising the prices on it would not either
pub no_excess : (s o : List ℕ) (u : ℕ → List ℕ → ℤ) (js p : List ℕ) → AllStrongSubstitutes s u js → length o ≡ length s
    → IsMinimiser o (lyapunov s u js) p → HasNoExcess s (λ j. demand s (u j) p) js
no_excess s o u js p strong lo m e es =
    let l : length e ≡ length p = es.1 ∙ sym lo ∙ length-below o p m.0 in
    let i = lyapunov-plus s u js strong p e es.0 in
    let j = m.1 (plus p e) (AtMost-more o p (plus p e) m.0 (AtMost-raised p e l)) in
    omega (arith, ints)

-- so at a minimiser, the least or not, some choice clears
pub minimiser-clears : (s o : List ℕ) (u : ℕ → List ℕ → ℤ) (js p : List ℕ) → AllStrongSubstitutes s u js → length o ≡ length s
    → IsMinimiser o (lyapunov s u js) p → (xs : List (List ℕ)) × IsClearingChoice s o p (map (λ j. demand s (u j) p) js) xs
minimiser-clears s o u js p strong lo m =
    clearing_exists o p s (λ j. demand s (u j) p) js m.0 lo (true_demands s u p js strong) (no_excess s o u js p strong lo m)
    (no_overshoot s o u js p strong lo m)

-- a path that has ended has one, since it has ended at a minimiser
pub choice_exists : (s : List ℕ) (u : ℕ → List ℕ → ℤ) (js : List ℕ) → AllStrongSubstitutes s u js → (o sets : List ℕ) → length o ≡ length s
    → AllSteps s u js o sets → true_step s u js (prices_along o sets) ≡ 0
    → (xs : List (List ℕ)) × IsClearingChoice s o (prices_along o sets) (map (λ j. demand s (u j) (prices_along o sets)) js) xs
choice_exists s u js strong o sets lo steps none =
    minimiser-clears s o u js (prices_along o sets) strong lo (ended-least s u js strong o sets lo steps none).0

-- and where its bidders are all different, a Walrasian equilibrium
pub ended-walrasian : (s : List ℕ) (u : ℕ → List ℕ → ℤ) (js : List ℕ) → AllDifferent js → AllStrongSubstitutes s u js → (o sets : List ℕ)
    → length o ≡ length s → AllSteps s u js o sets → true_step s u js (prices_along o sets) ≡ 0
    → IsWalrasianPrices s o u js (prices_along o sets)
ended-walrasian s u js different strong o sets lo steps none =
    let p = prices_along o sets in
    let t = choice_exists s u js strong o sets lo steps none in
    let c = t.1 in
    let e = map-bundle_of js t.0 different (length-choice (λ j. demand s (u j) p) js t.0 c.chosen) in
    let P : List (List ℕ) → Type 0 = IsClearingChoice s o p (map (λ j. demand s (u j) p) js) in
    (bundle_of js t.0, clearing-walrasian s o u js p (bundle_of js t.0) (ended-least s u js strong o sets lo steps none).0.0 (subst P (sym e) c))
