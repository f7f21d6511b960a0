-- The indirect utilities and the Lyapunov function are convex at midpoints, and raising prices on a set of goods lowers the
-- Lyapunov function by exactly the excess of the set.
use Rattle.std.proofs.Common.{◌≡◌, ℕ, ◌+◌, ◌*◌, ◌/◌, ◌%◌, List, [], ◌∷◌, length, map, arith, ap, refl, sym, ◌∙◌}
use Rattle.std.specs.Prelude.{ℤ, pos, ◌+ℤ◌, ◌-ℤ◌, ◌≤ℤ◌}
use Rattle.std.proofs.lemmas.Int.{ints}
use Rattle.lot_base.specs.Goods.{cost, plus, raised}
use Rattle.lot_base.specs.Demands.{least_of, least}
use Rattle.lot_base.specs.Economy.{indirect_utility, demand, IsStrongSubstitutes, sum_over, total_units, AllStrongSubstitutes, lyapunov}
use Rattle.lot_base.specs.Steps.{excess}
use Rattle.lot_base.proofs.Vectors.{Bits, odds, set_of}
use Rattle.lot_base.proofs.Vec.{cost-plus_left}
use Rattle.lot_base.proofs.Demand.{surplus_bounds, worth_of_demanded}
use Rattle.lot_base.proofs.Steps.{meeting, least_of_step}
use Rattle.lot_base.proofs.Loops.{Bits-set_of}
use Rattle.lot_base.proofs.Sets.{quantity_in-cost, raised-plus, least-cost}
use Rattle.lyapunov.specs.Paths.{halfway_down, halfway_up}
use Rattle.lyapunov.proofs.Convex.{IsMidConvex}

-- a bundle that is demanded at both middle prices is worth at most the indirect utilities at the two ends
pub indirect_utility-convex : (s : List ℕ) (u : List ℕ → ℤ) → IsStrongSubstitutes s u → IsMidConvex (indirect_utility s u)
indirect_utility-convex s u strong a b m e bits same =
    let t = meeting s u strong m e bits in
    let z = t.bundle in
    let d = t.before in
    let v = worth_of_demanded s u m z t.before in
    let w = worth_of_demanded s u (plus m e) z t.after in
    let i = surplus_bounds s u a z d.0 in
    let j = surplus_bounds s u b z d.0 in
    let k = same z in
    omega (arith, ints)

sum-convex : (s : List ℕ) (u : ℕ → List ℕ → ℤ) (js : List ℕ) → AllStrongSubstitutes s u js
    → IsMidConvex (λ p. sum_over (λ j. indirect_utility s (u j) p) js)
sum-convex s u [] strong a b m e bits same = omega (arith, ints)
sum-convex s u (j ∷ js) strong a b m e bits same =
    let i = indirect_utility-convex s (u j) strong.0 a b m e bits same in
    let k = sum-convex s u js strong.1 a b m e bits same in
    omega (arith, ints)

pub lyapunov-convex : (s : List ℕ) (u : ℕ → List ℕ → ℤ) (js : List ℕ) → AllStrongSubstitutes s u js → IsMidConvex (lyapunov s u js)
unfolding lyapunov
lyapunov-convex s u js strong a b m e bits same =
    let k = sum-convex s u js strong a b m e bits same in
    let i = same s in
    omega (arith, ints)

-- the excess of a set that is given by its digits
abbrev pub excess_on : List ℕ → (ℕ → List (List ℕ)) → List ℕ → List ℕ → ℤ
excess_on s d js e = pos (total_units (λ j. least_of (cost e) (d j)) js) -ℤ pos (cost e s)

pub lyapunov-plus : (s : List ℕ) (u : ℕ → List ℕ → ℤ) (js : List ℕ) → AllStrongSubstitutes s u js → (p e : List ℕ) → Bits e
    → excess_on s (λ j. demand s (u j) p) js e ≡ lyapunov s u js p -ℤ lyapunov s u js (plus p e)
unfolding lyapunov
lyapunov-plus s u js strong p e bits = let i = all js strong in let k = cost-plus_left p e s in omega (arith, ints)
  where
    all : (js : List ℕ) → AllStrongSubstitutes s u js
        → pos (total_units (λ j. least_of (cost e) (demand s (u j) p)) js) ≡ sum_over (λ j. indirect_utility s (u j) p) js -ℤ sum_over (λ j. indirect_utility s (u j) (plus p e)) js
    all [] strong = omega (arith, ints)
    all (j ∷ js) strong = let i = all js strong.1 in let k = least_of_step s (u j) strong.0 p e bits in omega (arith, ints)

-- by its number or by its digits, a set has the same excess and leads to the same prices
pub excess-digits : (s : List ℕ) (u : ℕ → List ℕ → ℤ) (p js : List ℕ) (set : ℕ)
    → excess s (λ j. demand s (u j) p) js set ≡ excess_on s (λ j. demand s (u j) p) js (set_of (length s) set)
excess-digits s u p js set = λ i. pos (all js i) -ℤ pos (quantity_in-cost s set i)
  where
    all : (js : List ℕ)
        → total_units (λ j. least (demand s (u j) p) set) js ≡ total_units (λ j. least_of (cost (set_of (length s) set)) (demand s (u j) p)) js
    all [] = refl
    all (j ∷ js) = λ i. least-cost s (u j) p set i + all js i

pub raised-digits : (s p : List ℕ) (set : ℕ) → length p ≡ length s → raised p set ≡ plus p (set_of (length s) set)
raised-digits s p set same = raised-plus p set ∙ ap (λ n. plus p (set_of n set)) same

pub lyapunov-raised : (s : List ℕ) (u : ℕ → List ℕ → ℤ) (js : List ℕ) → AllStrongSubstitutes s u js → (p : List ℕ) (set : ℕ)
    → length p ≡ length s → excess s (λ j. demand s (u j) p) js set ≡ lyapunov s u js p -ℤ lyapunov s u js (raised p set)
lyapunov-raised s u js strong p set same =
    excess-digits s u p js set ∙ lyapunov-plus s u js strong p (set_of (length s) set) (Bits-set_of (length s) set)
    ∙ ap (λ q. lyapunov s u js p -ℤ lyapunov s u js q) (sym (raised-digits s p set same))

-- halfway between two price vectors, rounded down and rounded up
rounded_up : (z : List ℕ) → map (λ n. (n + 1) / 2) z ≡ plus (map (λ n. n / 2) z) (odds z)
rounded_up [] = refl
rounded_up (n ∷ z) = let i : (n + 1) / 2 ≡ n / 2 + n % 2 = omega arith in let j = rounded_up z in cc

rounded : (z x : List ℕ) → cost z x ≡ cost (map (λ n. n / 2) z) x + cost (plus (map (λ n. n / 2) z) (odds z)) x
rounded [] x = refl
rounded (n ∷ z) [] = refl
rounded (n ∷ z) (a ∷ x) =
    let i = rounded z x in
    let e : n ≡ n / 2 + (n / 2 + n % 2) = omega arith in
    let k = ap (λ m. m * a) e in
    omega arith

Bits-odds : (z : List ℕ) → Bits (odds z)
Bits-odds [] = tt
Bits-odds (n ∷ z) = (omega arith, Bits-odds z)

pub lyapunov-halfway : (s : List ℕ) (u : ℕ → List ℕ → ℤ) (js : List ℕ) → AllStrongSubstitutes s u js → (p q : List ℕ)
    → (lyapunov s u js (halfway_down p q) +ℤ lyapunov s u js (halfway_up p q)) ≤ℤ (lyapunov s u js p +ℤ lyapunov s u js q)
lyapunov-halfway s u js strong p q =
    let z = plus p q in
    let up = ap (lyapunov s u js) (rounded_up z) in
    let i = lyapunov-convex s u js strong p q (halfway_down p q) (odds z) (Bits-odds z) (λ x. omega (arith, cost-plus_left p q x, rounded z x)) in
    omega (arith, ints)
