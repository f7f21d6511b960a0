-- Where every bundle is worth less than the ceiling, no price rises to it: at a price one below it, one more on the good takes
-- nothing from what any bidder can gain, so the least step set leaves the good out.
use Rattle.std.proofs.Common.{◌≡◌, inl, inr, ℕ, zero, suc, ◌+◌, ◌-◌, ◌*◌, ◌≤◌, ◌<◌, List, [], ◌∷◌, length, arith, ap, refl, sym, subst, ◌∙◌}
use Rattle.std.specs.Prelude.{ℤ, pos, ◌+ℤ◌, ◌≤ℤ◌}
use Rattle.std.proofs.lemmas.Int.{ints}
use Rattle.std.proofs.lemmas.Bool.{cases_lt}
use Rattle.lot_base.specs.Goods.{cost, plus, zeros, at, one_less, AtMost, raised}
use Rattle.lot_base.specs.Economy.{indirect_utility, sum_over, IsValuation, AllValuations, AllStrongSubstitutes, AllBelowCeiling, lyapunov}
use Rattle.lot_base.proofs.Vectors.{Bits, set_of, total}
use Rattle.lot_base.proofs.Vec.{cost-plus_left, cost-one_less, at-bits}
use Rattle.lot_base.proofs.Demand.{surplus_bounds, surplus_reached, AtMost-zeros}
use Rattle.lyapunov.specs.Paths.{prices_along, AllSteps}
use Rattle.lyapunov.proofs.Entrywise.{at-sum}
use Rattle.lyapunov.proofs.Descent.{raised-digits}
use Rattle.lyapunov.proofs.Units.{length-one_less}
use Rattle.lyapunov.proofs.Chosen.{IsSet, Chosen}
use Rattle.lyapunov.proofs.Digits.{true_step-chosen, length-raised}
use Rattle.lyapunov.proofs.Duality.{cost-zeros}

-- one good less in a set
shorter : (e x : List ℕ) (k : ℕ) → 0 < at e k → cost (one_less e k) x + at x k ≡ cost e x
shorter [] x k h = absurd (omega arith)
shorter (a ∷ e) [] zero h = refl
shorter (a ∷ e) [] (suc k) h = refl
shorter (suc a ∷ e) (b ∷ x) zero h = let f : suc a - 1 ≡ a = omega arith in let g = ap (λ t. t * b) f in omega arith
shorter (zero ∷ e) (b ∷ x) zero h = absurd (omega arith)
shorter (a ∷ e) (b ∷ x) (suc k) h = let i = shorter e x k h in omega arith

Bits-shorter : (e : List ℕ) (k : ℕ) → Bits e → Bits (one_less e k)
Bits-shorter [] k b = tt
Bits-shorter (a ∷ e) zero b = (let i = b.0 in omega arith, b.1)
Bits-shorter (a ∷ e) (suc k) b = (b.0, Bits-shorter e k b.1)

total-shorter : (e : List ℕ) (k : ℕ) → 0 < at e k → total (one_less e k) + 1 ≡ total e
total-shorter [] k h = absurd (omega arith)
total-shorter (a ∷ e) zero h = omega arith
total-shorter (a ∷ e) (suc k) h = let i = total-shorter e k h in omega arith

cost_single : (p x : List ℕ) (k : ℕ) → 0 < at x k → at p k ≤ cost p x
cost_single p x k h = let i = cost-one_less p x k h in omega arith

-- at a price of all that any bundle is worth, one more takes nothing from what a bidder can gain
utility-stays : (s : List ℕ) (u : List ℕ → ℤ) (c : ℕ) (p q : List ℕ) (k : ℕ) → IsValuation s u
    → ((y : List ℕ) → AtMost y s → (u y +ℤ pos 1) ≤ℤ pos (suc c)) → c ≤ at p k → ((x : List ℕ) → cost q x ≡ cost p x + at x k)
    → indirect_utility s u p ≤ℤ indirect_utility s u q
utility-stays s u c p q k value low high more =
    let b = surplus_reached s u p in
    let z = b.bundle in
    let is = b.is in
    let worth = low z b.below in
    let here = surplus_bounds s u q z b.below in
    let none = surplus_bounds s u q (zeros s) (AtMost-zeros s) in
    let free = cost-zeros q s in
    let step = more z in
    elim (cases_lt 0 (at z k)) [
      | inl some ↦ (let dear = cost_single p z k some in omega (arith, ints))
      | inr empty ↦ omega (arith, ints)
    ]

utilities-stay : (s : List ℕ) (u : ℕ → List ℕ → ℤ) (c : ℕ) (p q : List ℕ) (k : ℕ) (js : List ℕ) → AllValuations s u js
    → AllBelowCeiling s u (suc c) js → c ≤ at p k → ((x : List ℕ) → cost q x ≡ cost p x + at x k)
    → sum_over (λ j. indirect_utility s (u j) p) js ≤ℤ sum_over (λ j. indirect_utility s (u j) q) js
utilities-stay s u c p q k [] values low high more = omega (arith, ints)
utilities-stay s u c p q k (j ∷ js) values low high more =
    let i = utility-stays s (u j) c p q k values.0 low.0 high more in
    let r = utilities-stay s u c p q k js values.1 low.1 high more in
    omega (arith, ints)

lyapunov-stays : (s : List ℕ) (u : ℕ → List ℕ → ℤ) (c : ℕ) (p q : List ℕ) (k : ℕ) (js : List ℕ) → AllValuations s u js
    → AllBelowCeiling s u (suc c) js → c ≤ at p k → ((x : List ℕ) → cost q x ≡ cost p x + at x k) → lyapunov s u js p ≤ℤ lyapunov s u js q
unfolding lyapunov
lyapunov-stays s u c p q k js values low high more = let i = utilities-stay s u c p q k js values low high more in let j = more s in omega (arith, ints)

-- so no step raises such a good
never_higher : (s : List ℕ) (u : ℕ → List ℕ → ℤ) (c : ℕ) (js p e : List ℕ) (k : ℕ) → AllValuations s u js → AllBelowCeiling s u (suc c) js
    → Chosen s (lyapunov s u js) p e → 0 < at e k → at p k < c
never_higher s u c js p e k values low t he = elim (cases_lt (at p k) c) [
  | inl h ↦ h
  | inr h ↦ absurd (
      let f = one_less e k in
      let is_set : IsSet s f = (Bits-shorter e k t.set.0, length-one_less e k ∙ t.set.1) in
      let a = lyapunov-stays s u c (plus p f) (plus p e) k js values low (omega (arith, at-sum p f k)) (λ x. omega (arith, cost-plus_left p e x, cost-plus_left p f x, shorter e x k he)) in
      let few = t.fewest f is_set a in
      omega (arith, total-shorter e k he, few))
]

-- and no price that was below the ceiling reaches it
pub below_ceiling : (s : List ℕ) (u : ℕ → List ℕ → ℤ) (c : ℕ) (js : List ℕ) → AllStrongSubstitutes s u js → AllValuations s u js
    → AllBelowCeiling s u c js → (p sets : List ℕ) → length p ≡ length s → AllSteps s u js p sets → (k : ℕ) → at p k < c
    → at (prices_along p sets) k < c
below_ceiling s u c js strong values low p [] same steps k h = h
below_ceiling s u c js strong values low p (set ∷ sets) same steps k h =
    let P : ℕ → Type 0 = λ n. Chosen s (lyapunov s u js) p (set_of (length s) n) in
    let chosen = subst P (sym steps.1) (true_step-chosen s u js strong p) in
    let next = ap (λ q. at q k) (raised-digits s p set same) ∙ at-sum p (set_of (length s) set) k in
    below_ceiling s u c js strong values low (raised p set) sets (length-raised p set ∙ same) steps.2 k (once s u c js p (set_of (length s) set) k values low chosen h _ next)
  where
    once : (s : List ℕ) (u : ℕ → List ℕ → ℤ) (c : ℕ) (js p e : List ℕ) (k : ℕ) → AllValuations s u js → AllBelowCeiling s u c js
        → Chosen s (lyapunov s u js) p e → at p k < c → (n : ℕ) → n ≡ at p k + at e k → n < c
    once s u c js p e k values low chosen h n next = elim (cases_lt 0 (at e k)) [
      | inl some ↦
          (let f : c ≡ suc (c - 1) = omega arith in
          let P : ℕ → Type 0 = λ m. AllBelowCeiling s u m js in
          let a = never_higher s u (c - 1) js p e k values (subst P f low) chosen some in
          omega (arith, next, at-bits e k chosen.set.0))
      | inr empty ↦ omega (arith, next)
    ]
