-- A choice of what is reported on the clock of all is an allocation, and what a bidder pays there is the payment of Vickrey, Clarke and
-- Groves, where the others' reports are true.
use Rattle.std.proofs.Common.{◌≡◌, ◌<◌, inl, inr, ℕ, Bool, true, false, cond, List, [], ◌∷◌, map, Some, sym, ap, arith, subst}
use Rattle.std.specs.Prelude.{find, option_map, unwrap_or, ℤ, pos, ◌+ℤ◌, ◌-ℤ◌}
use Rattle.std.specs.List.{AllByRecursion}
use Rattle.std.proofs.lemmas.Int.{ints}
use Rattle.lot_base.specs.Goods.{cost, at, AtMost}
use Rattle.lot_base.specs.Box.{IsIn}
use Rattle.lot_base.specs.Demands.{IsDemand}
use Rattle.lot_base.specs.Choices.{Clears, IsChoice, IsClearingChoice}
use Rattle.lot_base.specs.Economy.{demand, sum_over, without, lyapunov}
use Rattle.lot_base.specs.Equilibrium.{total_bundle, worth, IsAllocation, AllDemanded, IsWalrasian, IsVcgPayment}
use Rattle.lot_base.specs.declared.phases.Phase.TheVariants.{Ended}
use Rattle.demand_set.specs.declared.reports.Report.{Report}
use Rattle.lyapunov.specs.Bidders.{IsOneOf, bundle_of}
use Rattle.lyapunov.proofs.Bidders.{map-bundle_of, all-without, sum-without}
use Rattle.lyapunov.proofs.Duality.{cost-sold, met, walrasian-worth, walrasian-welfare, sum-total, clears-within, clears-unsold}
use Rattle.lyapunov.proofs.Payment.{cost-total}
use Rattle.clock.specs.Reports.{ClockHistory, members_of, is_named, demands_in}
use Rattle.clock.specs.Standing.{prices_of, phase_of, steps_of, last_demands, last_round}
use Rattle.clock.specs.Judging.{IsLegal}
use Rattle.settlement.specs.Clocks.{choice_of}
use Rattle.settlement.proofs.Explained.{different-members}
use Rattle.clock.proofs.LastDemands.{full-ended}
use Rattle.settlement.proofs.Bounds.{choice-clears, choice-count}
use Rattle.settlement.specs.Incentives.{ExplainsBut}
use Rattle.settlement.proofs.ButOne.{others-true, above-opening}

-- An allocation at prices where each bidder but i demands its bundle, and each good with an unsold unit has its opening price.
pub record IsNearly (i : ℕ) (supply opening : List ℕ) (u : ℕ → List ℕ → ℤ) (js p : List ℕ) (x : ℕ → List ℕ) : Type 0 where
  pub prices : AtMost opening p
  pub allocation : IsAllocation supply js x
  pub demanded : AllDemanded supply u p (without i js) x
  pub unsold : (k : ℕ) → at (total_bundle supply x js) k < at supply k → at p k ≡ at opening k

-- a bundle of a list is what all of the list are
one-of : (P : List ℕ → Type 0) (x : List ℕ) (ys : List (List ℕ)) → AllByRecursion P ys → IsIn x ys → P x
one-of P x [] all is = absurd is
one-of P x (y ∷ ys) all (inl e) = subst P (sym e) all.0
one-of P x (y ∷ ys) all (inr later) = one-of P x ys all.1 later

-- what is chosen of each
chosen-of : (d : ℕ → List (List ℕ)) (x : ℕ → List ℕ) (js : List ℕ) → IsChoice (map d js) (map x js) → AllByRecursion (λ j. IsIn (x j) (d j)) js
chosen-of d x [] h = tt
chosen-of d x (j ∷ js) h = (h.0, chosen-of d x js h.1)

-- what is chosen of legal reports is within the supply
chosen-fits : (supply : List ℕ) (reports : List Report) (round j : ℕ) (x : List ℕ) → AllByRecursion (λ (r : Report). IsDemand supply r.demand) reports → IsIn x (demands_in reports round j) → AtMost x supply
chosen-fits supply [] round j x all is = absurd is
chosen-fits supply (r ∷ reports) round j x all is = by (is_named round j r) (chosen-fits supply reports round j x all.1) is
  where
    by : (b : Bool) → (IsIn x (demands_in reports round j) → AtMost x supply) → IsIn x (unwrap_or (option_map (λ (z : Report). z.demand) (cond b (Some r) (find (is_named round j) reports))) []) → AtMost x supply
    by true rest here = one-of (λ y. AtMost y supply) x r.demand all.0.in_box here
    by false rest later = rest later

all-fit : (c : ClockHistory) (x : ℕ → List ℕ) (js : List ℕ) → IsLegal c → AllByRecursion (λ j. IsIn (x j) (last_demands c j)) js → AllByRecursion (λ j. AtMost (x j) c.terms.goods) js
all-fit c x [] legal all = tt
all-fit c x (j ∷ js) legal all = (chosen-fits c.terms.goods c.reports (last_round c) j (x j) legal.demands all.0, all-fit c x js legal all.1)

all-true : (d e : ℕ → List (List ℕ)) (x : ℕ → List ℕ) (js : List ℕ) → AllByRecursion (λ j. IsIn (x j) (d j)) js → AllByRecursion (λ j. d j ≡ e j) js → AllByRecursion (λ j. IsIn (x j) (e j)) js
all-true d e x [] all same = tt
all-true d e x (j ∷ js) all same = (subst (IsIn (x j)) same.0 all.0, all-true d e x js all.1 same.1)

-- the first choice of a clock that has ended
pub choice-nearly : (i : ℕ) (u : ℕ → List ℕ → ℤ) (c : ClockHistory) (xs : List (List ℕ)) → IsLegal c → ExplainsBut i u c → phase_of c ≡ Ended → choice_of c ≡ Some xs
    → IsNearly i c.terms.goods c.terms.opening u (members_of c) (prices_of c) (bundle_of (members_of c) xs)
choice-nearly i u c xs legal explains ended chosen =
    let js = members_of c in
    let s = c.terms.goods in
    let o = c.terms.opening in
    let p = prices_of c in
    let x = bundle_of js xs in
    let e = map-bundle_of js xs (different-members c.terms.bidders c.number) (choice-count c xs chosen) in
    let X : List (List ℕ) → Type 0 = IsClearingChoice s o p (map (last_demands c) js) in
    let h = subst X (sym e) (choice-clears c xs chosen) in
    let T : List ℕ → Type 0 = λ t. Clears o p t s in
    let clears = subst T (sum-total s x js) h.clears in
    let all = chosen-of (last_demands c) x js h.chosen in
    let true-ones = others-true u c i (steps_of c) (omega arith) explains.reports js (full-ended c ended) in
    let up = above-opening c (steps_of c) in
    record {
      prices = up;
      allocation = record { bundles = all-fit c x js legal all; within = clears-within o p (total_bundle s x js) s clears };
      demanded = all-true (last_demands c) (λ j. demand s (u j) p) x (without i js) (all-without (λ j. IsIn (x j) (last_demands c j)) i js all) true-ones;
      unsold = clears-unsold o p (total_bundle s x js) s up clears;
    }

pub nearly-pays : (s o : List ℕ) (u : ℕ → List ℕ → ℤ) (js : List ℕ) (i : ℕ) (p q : List ℕ) (x y : ℕ → List ℕ) (z : ℤ) → IsOneOf i js
    → IsNearly i s o u js p x → IsWalrasian s o u (without i js) q y
    → IsVcgPayment s o u js x i ((pos (cost p (x i)) +ℤ (lyapunov s u (without i js) q -ℤ z)) -ℤ (lyapunov s u (without i js) p -ℤ z))
unfolding lyapunov
nearly-pays s o u js i p q x y z one wx wy = record {
  allocation = wx.allocation;
  others = worth s o u (without i js) y;
  welfare = walrasian-welfare s o u (without i js) q y wy;
  pays =
      let c = walrasian-worth s o u (without i js) q y wy in
      let d = met s u p x (without i js) wx.demanded in
      let e = cost-sold o p (total_bundle s x js) s wx.prices wx.allocation.within wx.unsold in
      let f = cost-total s p x js in
      let g = cost-total s p x (without i js) in
      let k = sum-without (λ j. pos (cost p (x j))) i js one in
      omega (arith, ints);
}
