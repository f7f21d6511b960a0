-- A clock that has ended, and whose reports valuations explain: its choice is an equilibrium of its members.
use Rattle.std.proofs.Common.{◌≡◌, ℕ, true, List, [], ◌∷◌, map, Some, refl, sym, arith, subst}
use Rattle.std.specs.Prelude.{ℤ}
use Rattle.std.specs.List.{AllByRecursion, range_with_len}
use Rattle.lot_base.specs.Economy.{demand}
use Rattle.lot_base.specs.Choices.{IsClearingChoice}
use Rattle.lot_base.specs.Equilibrium.{IsWalrasian}
use Rattle.lot_base.specs.declared.phases.Phase.TheVariants.{Ended}
use Rattle.lyapunov.specs.Bidders.{AllDifferent, bundle_of}
use Rattle.lyapunov.proofs.Bidders.{AllDifferent-range, AllDifferent-without, map-bundle_of}
use Rattle.lyapunov.proofs.Duality.{clearing-walrasian}
use Rattle.clock.specs.Reports.{ClockHistory, members, members_of, is_full}
use Rattle.clock.specs.Standing.{prices_of, phase_of, steps_of, last_demands, last_round}
use Rattle.clock.specs.Explained.{Explains, IsTrueReport}
use Rattle.clock.proofs.Truthful.{least-near, members-true}
use Rattle.settlement.specs.Clocks.{choice_of}
use Rattle.clock.proofs.LastDemands.{full-ended}
use Rattle.settlement.proofs.Bounds.{choice-clears, choice-count}

pub same-map : {A B : Type 0} (f g : A → B) (xs : List A) → AllByRecursion (λ x. f x ≡ g x) xs → map f xs ≡ map g xs
same-map f g [] all = refl
same-map f g (x ∷ xs) all = let e = all.0 in let r = same-map f g xs all.1 in λ i. e i ∷ r i

-- what the members demand in a full last round is what they truly demand there
pub demands-true : (u : ℕ → List ℕ → ℤ) (c : ClockHistory) → AllByRecursion (IsTrueReport u c) c.reports → (js : List ℕ) → is_full js c.reports (last_round c) ≡ true
    → map (last_demands c) js ≡ map (λ j. demand c.terms.goods (u j) (prices_of c)) js
demands-true u c all js full = same-map (last_demands c) (λ j. demand c.terms.goods (u j) (prices_of c)) js (members-true u c (steps_of c) (omega arith) all js full)

pub different-members : (n clock : ℕ) → AllDifferent (members n clock)
different-members n clock = AllDifferent-without clock (range_with_len 1 n) (AllDifferent-range 1 n)

pub explained-equilibrium : (u : ℕ → List ℕ → ℤ) (c : ClockHistory) (xs : List (List ℕ)) → Explains u c → phase_of c ≡ Ended → choice_of c ≡ Some xs
    → IsWalrasian c.terms.goods c.terms.opening u (members_of c) (prices_of c) (bundle_of (members_of c) xs)
explained-equilibrium u c xs explains ended chosen =
    let js = members_of c in
    let p = prices_of c in
    let d = demands-true u c explains.reports js (full-ended c ended) in
    let e = map-bundle_of js xs (different-members c.terms.bidders c.number) (choice-count c xs chosen) in
    let D : List (List (List ℕ)) → Type 0 = λ ds. IsClearingChoice c.terms.goods c.terms.opening p ds xs in
    let X : List (List ℕ) → Type 0 = IsClearingChoice c.terms.goods c.terms.opening p (map (λ j. demand c.terms.goods (u j) p) js) in
    clearing-walrasian c.terms.goods c.terms.opening u js p (bundle_of js xs) (least-near u c explains).above (subst X (sym e) (subst D d (choice-clears c xs chosen)))
