-- Marginal values that fall are strong substitutes: a unit goes alone.
use Rattle.std.proofs.Common.{◌≡◌, ◌≤◌, ◌<◌, inl, ℕ, zero, suc, ◌+◌, ◌-◌, List, [], ◌∷◌, take, drop, arith, ap, refl}
use Rattle.std.specs.List.{AllByRecursion}
use Rattle.lot_base.specs.Goods.{at, one_more, one_less, AtMost}
use Rattle.lot_base.specs.Box.{box}
use Rattle.lot_base.specs.Economy.{IsStrongSubstitutes}
use Rattle.std.specs.Prelude.{map}
use Rattle.valuation.specs.Values.{valuation_of}
use Rattle.valuation.specs.Forms.{total, marginal_value}
use Rattle.valuation.specs.Descending.{IsDescending, AreDescending}
use Rattle.valuation.proofs.Exchanges.{strong-of}

-- one unit more adds its entry
total-next : (es : List ℕ) (n : ℕ) → total (take (suc n) es) ≡ total (take n es) + at es n
total-next [] zero = refl
total-next [] (suc n) = refl
total-next (e ∷ es) zero = omega arith
total-next (e ∷ es) (suc n) = let i = total-next es n in omega (arith, i)

all-at : (v s : ℕ) (es : List ℕ) → AllByRecursion (λ w. w ≤ v) (take s es) → (j : ℕ) → j < s → at es j ≤ v
all-at v zero es all j low = absurd (omega (arith, low))
all-at v (suc s) [] all j low = omega arith
all-at v (suc s) (e ∷ es) all zero low = all.0
all-at v (suc s) (e ∷ es) all (suc j) low = all-at v s es all.1 j (omega (arith, low))

falls : (s : ℕ) (es : List ℕ) → IsDescending (take s es) → (i j : ℕ) → i ≤ j → j < s → at es j ≤ at es i
falls zero es h i j up low = absurd (omega (arith, low))
falls (suc s) [] h i j up low = omega arith
falls (suc s) (e ∷ es) h zero zero up low = omega arith
falls (suc s) (e ∷ es) h zero (suc j) up low = all-at e s es h.0 j (omega (arith, low))
falls (suc s) (e ∷ es) h (suc i) zero up low = absurd (omega (arith, up))
falls (suc s) (e ∷ es) h (suc i) (suc j) up low = falls s es h.1 i j (omega (arith, up)) (omega (arith, low))

-- of one good
unit-goes : (s : ℕ) (es : List ℕ) → IsDescending (take s es) → (a b : ℕ) → b < a → a ≤ s → total (take a es) + total (take b es) ≤ total (take (a - 1) es) + total (take (b + 1) es)
unit-goes s es h zero b lt low = absurd (omega (arith, lt))
unit-goes s es h (suc a) b lt low =
    let e : suc a - 1 ≡ a = omega arith in
    let f : b + 1 ≡ suc b = omega arith in
    let x = total-next es a in
    let y = total-next es b in
    let p = ap (λ n. total (take n es)) e in
    let q = ap (λ n. total (take n es)) f in
    let g = falls s es h b a (omega (arith, lt)) (omega (arith, low)) in
    omega (arith, x, y, p, q, g)

unit-of : (s es x y : List ℕ) (k : ℕ) → AreDescending s es → AtMost x s → AtMost y s → at y k < at x k
    → marginal_value s es x + marginal_value s es y ≤ marginal_value s es (one_less x k) + marginal_value s es (one_more y k)
unit-of [] es [] y k d hx hy lt = absurd (omega (arith, lt))
unit-of [] es (a ∷ x) y k d hx hy lt = absurd hx
unit-of (c ∷ s) es [] y k d hx hy lt = absurd hx
unit-of (c ∷ s) es (a ∷ x) [] k d hx hy lt = absurd hy
unit-of (c ∷ s) es (a ∷ x) (b ∷ y) zero d hx hy lt = let g = unit-goes c es d.0 a b lt hx.0 in omega (arith, g)
unit-of (c ∷ s) es (a ∷ x) (b ∷ y) (suc k) d hx hy lt = let i = unit-of s (drop c es) x y k d.1 hx.1 hy.1 lt in omega (arith, i)

pub marginal-strong : (s es : List ℕ) → AreDescending s es → IsStrongSubstitutes s (valuation_of s (map (marginal_value s es) (box s)))
marginal-strong s es d = strong-of (marginal_value s es) s (λ x y k hx hy lt. inl (unit-of s es x y k d hx hy lt))
