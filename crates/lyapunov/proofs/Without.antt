-- The path without a bidder is never above the path of all bidders in the same round, nor above its end, and takes no more steps.
use Rattle.std.proofs.Common.{◌≡◌, ℕ, ◌≤◌, List, length, arith, ap, sym, ◌∙◌}
use Rattle.std.specs.Prelude.{ℤ, ◌+ℤ◌, ◌≤ℤ◌}
use Rattle.std.proofs.lemmas.Int.{ints}
use Rattle.lot_base.specs.Goods.{cost, AtMost}
use Rattle.lot_base.specs.Economy.{indirect_utility, without, AllStrongSubstitutes, lyapunov}
use Rattle.lot_base.proofs.Vectors.{above, join, lower}
use Rattle.lot_base.proofs.Vec.{cost-plus_left, length-below, at-below}
use Rattle.lot_base.proofs.Demand.{surplus_bounds, surplus_reached}
use Rattle.lyapunov.specs.Bidders.{IsOneOf}
use Rattle.lyapunov.specs.Paths.{true_step, prices_along, AllSteps}
use Rattle.lyapunov.proofs.Convex.{plus-above}
use Rattle.lyapunov.proofs.Descent.{lyapunov-convex}
use Rattle.lyapunov.proofs.Entrywise.{at-join, at-rest, same-at, highest-within}
use Rattle.lyapunov.proofs.Lattice.{lattice, length-join, AtMost-more, join-left, lower-left, lower-both, below_of_lower}
use Rattle.lyapunov.proofs.Nearest.{best_still}
use Rattle.lyapunov.proofs.Digits.{still, length-prices}
use Rattle.lyapunov.proofs.Moments.{stands, as_many, highest-above}
use Rattle.lyapunov.proofs.Bidders.{sum-without, strong-without}

-- at higher prices a bidder gains no more
indirect_utility-falls : (s : List ℕ) (u : List ℕ → ℤ) (p q : List ℕ) → AtMost p q → indirect_utility s u q ≤ℤ indirect_utility s u p
indirect_utility-falls s u p q h =
    let b = surplus_reached s u q in
    let i = b.is in
    let j = surplus_bounds s u p b.bundle b.below in
    let k = cost-plus_left p (above q p) b.bundle in
    let l = ap (λ z. cost z b.bundle) (plus-above p q h) in
    omega (arith, ints)

lyapunov-without : (s : List ℕ) (u : ℕ → List ℕ → ℤ) (i : ℕ) (js p : List ℕ) → IsOneOf i js
    → lyapunov s u js p ≡ lyapunov s u (without i js) p +ℤ indirect_utility s (u i) p
unfolding lyapunov
lyapunov-without s u i js p one = let a = sum-without (λ j. indirect_utility s (u j) p) i js one in omega (arith, ints)

join-swap : (r p : List ℕ) → length r ≡ length p → join r p ≡ join p r
join-swap r p l = same-at (join r p) (join p r) (omega (arith, length-join r p, length-join p r)) (λ k. omega (arith, at-join r p k, at-join p r k))

-- without a bidder the prices are at most any prices that the goodwise greater of both does not better
lower_without : (s : List ℕ) (u : ℕ → List ℕ → ℤ) (js : List ℕ) (i : ℕ) (o rests : List ℕ) → AllStrongSubstitutes s u js → IsOneOf i js
    → length o ≡ length s → AllSteps s u (without i js) o rests → (p : List ℕ) → AtMost o p
    → lyapunov s u js p ≤ℤ lyapunov s u js (join p (prices_along o rests)) → AtMost (prices_along o rests) p
lower_without s u js i o rests strong one lo steps p op best =
    let so = strong-without s u i js strong in
    let g = lyapunov s u (without i js) in
    let r = prices_along o rests in
    let t = stands s u (without i js) so o rests lo steps in
    let l : length r ≡ length p = sym (length-below o r t.above_opening) ∙ length-below o p op in
    let z = join p r in
    let a = lattice g (lyapunov-convex s u (without i js) so) r p l in
    let f = ap g (join-swap r p l) in
    let b = lyapunov-without s u i js p one in
    let c = lyapunov-without s u i js z one in
    let d = indirect_utility-falls s (u i) p z (join-left p r (sym l)) in
    below_of_lower r p l (t.first (lower r p) (lower-both o r p t.above_opening op) (lower-left r p l) (omega (arith, ints)))

pub lower_each_round : (s : List ℕ) (u : ℕ → List ℕ → ℤ) (js : List ℕ) (i : ℕ) (o sets rests : List ℕ) → AllStrongSubstitutes s u js
    → IsOneOf i js → length o ≡ length s → AllSteps s u js o sets → AllSteps s u (without i js) o rests → length rests ≤ length sets
    → AtMost (prices_along o rests) (prices_along o sets)
lower_each_round s u js i o sets rests strong one lo h0 h1 fewer =
    let p = prices_along o sets in
    let r = prices_along o rests in
    let t0 = stands s u js strong o sets lo h0 in
    let t1 = stands s u (without i js) (strong-without s u i js strong) o rests lo h1 in
    let l : length p ≡ length r = sym (length-below o p t0.above_opening) ∙ length-below o r t1.above_opening in
    lower_without s u js i o rests strong one lo h1 p t0.above_opening
    (t0.best (join p r) (AtMost-more o p (join p r) t0.above_opening (join-left p r l)) (λ k. let a = t0.near k in let b = t1.near k in omega (arith, at-join p r k)))

pub lower_at_end : (s : List ℕ) (u : ℕ → List ℕ → ℤ) (js : List ℕ) (i : ℕ) (o sets rests : List ℕ) → AllStrongSubstitutes s u js
    → IsOneOf i js → length o ≡ length s → AllSteps s u js o sets → true_step s u js (prices_along o sets) ≡ 0
    → AllSteps s u (without i js) o rests → AtMost (prices_along o rests) (prices_along o sets)
lower_at_end s u js i o sets rests strong one lo h0 none h1 =
    let p = prices_along o sets in
    let r = prices_along o rests in
    let t0 = stands s u js strong o sets lo h0 in
    let t1 = stands s u (without i js) (strong-without s u i js strong) o rests lo h1 in
    let l : length p ≡ length r = sym (length-below o p t0.above_opening) ∙ length-below o r t1.above_opening in
    lower_without s u js i o rests strong one lo h1 p t0.above_opening
    (best_still s (lyapunov s u js) (lyapunov-convex s u js strong) o (length sets) p lo t0 (still s u js strong p (length-prices o sets ∙ lo) none)
    (join p r) (AtMost-more o p (join p r) t0.above_opening (join-left p r l)))

-- so it takes no more steps
pub fewer_without : (s : List ℕ) (u : ℕ → List ℕ → ℤ) (js : List ℕ) (i : ℕ) (o sets rests : List ℕ) → AllStrongSubstitutes s u js
    → IsOneOf i js → length o ≡ length s → AllSteps s u js o sets → true_step s u js (prices_along o sets) ≡ 0
    → AllSteps s u (without i js) o rests → length rests ≤ length sets
fewer_without s u js i o sets rests strong one lo h0 none h1 =
    let b = lower_at_end s u js i o sets rests strong one lo h0 none h1 in
    let p = prices_along o sets in
    let r = prices_along o rests in
    let c = as_many s u (without i js) (strong-without s u i js strong) o rests lo h1 in
    let t0 = stands s u js strong o sets lo h0 in
    let n = highest-within (length sets) (above r o) (λ k. let m = t0.near k in omega (arith, at-rest r o k, at-below r p k b)) in
    omega (arith, highest-above o r (length-prices o rests))
