-- One unit of any good, the best of them: strong substitutes.
use Rattle.std.proofs.Common.{◌≡◌, ◌≢◌, ◌≤◌, ◌<◌, ◌⊎◌, inl, inr, ℕ, zero, suc, true, cond, nat_le, List, [], ◌∷◌, length, map, arith, ap, refl, sym, ◌∙◌}
use Rattle.std.specs.Prelude.{if◌then◌else◌}
use Rattle.std.proofs.lemmas.Bool.{cases_lt}
use Rattle.std.proofs.lemmas.Bool.Decides.{nat_tests}
use Rattle.lot_base.specs.Goods.{at, one_more, one_less, AtMost}
use Rattle.lot_base.specs.Box.{box}
use Rattle.lot_base.specs.Economy.{IsStrongSubstitutes}
use Rattle.lot_base.proofs.Vec.{at-up_other, at-down_other, length-below, within_from_at}
use Rattle.valuation.specs.Values.{valuation_of}
use Rattle.valuation.specs.Forms.{unit_value}
use Rattle.valuation.proofs.Exchanges.{Exchanges, strong-of, up-same, length-less, less-same}

-- the unit of a good counts where there is one
counts : (q w : ℕ) → (if nat_le 1 (suc q) then w else 0) ≡ w
counts q w = let t : nat_le 1 (suc q) ≡ true = grind (arith, nat_tests) in ap (λ b. cond b w 0) t

-- no good of which there is a unit is worth more
bounds : (v x : List ℕ) (k : ℕ) → 0 < at x k → at v k ≤ unit_value v x
bounds [] x k has = omega arith
bounds (w ∷ v) [] k has = absurd (omega (arith, has))
bounds (w ∷ v) (zero ∷ x) zero has = absurd (omega (arith, has))
bounds (w ∷ v) (suc q ∷ x) zero has = let c = counts q w in omega (arith, c)
bounds (w ∷ v) (q ∷ x) (suc k) has = let i = bounds v x k has in omega (arith, i)

-- nothing counts, or the unit of some good
data Best (v x : List ℕ) : Type 0 where
  Nothing : unit_value v x ≡ 0 → Best v x
  Unit_of : (k : ℕ) → 0 < at x k → unit_value v x ≡ at v k → Best v x

best : (v x : List ℕ) → Best v x
best [] x = Nothing refl
best (w ∷ v) [] = Nothing refl
best (w ∷ v) (zero ∷ x) = by (best v x)
  where
    by : Best v x → Best (w ∷ v) (zero ∷ x)
    by (Nothing e) = Nothing (omega (arith, e))
    by (Unit_of k has e) = Unit_of (suc k) has (omega (arith, e))
best (w ∷ v) (suc q ∷ x) = by (best v x) (cases_lt (unit_value v x) w)
  where
    by : Best v x → (unit_value v x < w) ⊎ (w ≤ unit_value v x) → Best (w ∷ v) (suc q ∷ x)
    by rest (inl less) = let c = counts q w in Unit_of 0 (omega arith) (omega (arith, less, c))
    by (Nothing e) (inr more) = let c = counts q w in Nothing (omega (arith, e, more, c))
    by (Unit_of k has e) (inr more) = let c = counts q w in Unit_of (suc k) has (omega (arith, e, more, c))

-- with every good of which x has a unit, y is worth no less
covers : (v x y : List ℕ) → ((k : ℕ) → 0 < at x k → 0 < at y k) → unit_value v x ≤ unit_value v y
covers v x y some = by (best v x)
  where
    by : Best v x → unit_value v x ≤ unit_value v y
    by (Nothing e) = omega (arith, e)
    by (Unit_of k has e) = let b = bounds v y k (some k has) in omega (arith, e, b)

same-or : (l k : ℕ) → (l ≡ k) ⊎ (l ≢ k)
same-or zero zero = inl refl
same-or zero (suc k) = inr (λ e. omega arith)
same-or (suc l) zero = inr (λ e. omega arith)
same-or (suc l) (suc k) = by (same-or l k)
  where
    by : (l ≡ k) ⊎ (l ≢ k) → (suc l ≡ suc k) ⊎ (suc l ≢ suc k)
    by (inl e) = inl (ap suc e)
    by (inr n) = inr (λ e. n (omega arith))

up-some : (y : List ℕ) (k l : ℕ) → 0 < at y l → 0 < at (one_more y k) l
up-some y k l has = by (same-or l k)
  where
    by : (l ≡ k) ⊎ (l ≢ k) → 0 < at (one_more y k) l
    by (inl e) =
        let inside = within_from_at y l has in
        let u = up-same y l inside in
        let f = ap (λ n. at (one_more y n) l) e in
        omega (arith, u, f)
    by (inr n) = let e = at-up_other y k l n in omega (arith, e, has)

unit-goes : (v s x y : List ℕ) (k : ℕ) → AtMost x s → AtMost y s → at y k < at x k → Exchanges (unit_value v) x y k
unit-goes v s x y k hx hy lt = by (best v x)
  where
    in-y : k < length y
    in-y = let a = within_from_at x k (omega (arith, lt)) in let b = length-below x s hx in let c = length-below y s hy in omega (arith, a, b, c)

    y-more : unit_value v y ≤ unit_value v (one_more y k)
    y-more = covers v y (one_more y k) (λ l has. up-some y k l has)

    k-more : at v k ≤ unit_value v (one_more y k)
    k-more = bounds v (one_more y k) k (let u = up-same y k in-y in omega (arith, u))

    -- the best of x is its only unit of k
    last : unit_value v x ≡ at v k → at y k ≡ 0 → Best v y → Exchanges (unit_value v) x y k
    last e none (Nothing f) = inl (omega (arith, e, f, k-more))
    last e none (Unit_of l has f) =
        let other : l ≢ k = λ same. let g = ap (at y) same in omega (arith, g, none, has) in
        there l has f other (cases_lt 0 (at x l))
      where
        inside-of : (l : ℕ) → 0 < at y l → l < length (one_less x k)
        inside-of l has = let a = within_from_at y l has in let b = length-below x s hx in let c = length-below y s hy in let d = length-less x k in omega (arith, a, b, c, d)

        there : (l : ℕ) → 0 < at y l → unit_value v y ≡ at v l → l ≢ k → (0 < at x l) ⊎ (at x l ≤ 0) → Exchanges (unit_value v) x y k
        there l has f other (inl some) =
            let d = at-down_other x k l other in
            let b = bounds v (one_less x k) l (omega (arith, d, some)) in
            inl (omega (arith, e, f, b, k-more))
        there l has f other (inr lacks) =
            let d = at-down_other x k l other in
            let inside : l < length (one_less x k) = inside-of l has in
            let u = up-same (one_less x k) l inside in
            let b = bounds v (one_more (one_less x k) l) l (omega (arith, u)) in
            let w = at-down_other (one_more y k) l k (λ same. other (sym same)) in
            let z = up-same y k in-y in
            let c = bounds v (one_less (one_more y k) l) k (omega (arith, w, z)) in
            inr (l, omega (arith, has, lacks), omega (arith, e, f, b, c))

    by : Best v x → Exchanges (unit_value v) x y k
    by (Nothing e) = inl (omega (arith, e, y-more))
    by (Unit_of m has e) = of (same-or m k)
      where
        of : (m ≡ k) ⊎ (m ≢ k) → Exchanges (unit_value v) x y k
        of (inr n) =
            let d = at-down_other x k m n in
            let b = bounds v (one_less x k) m (omega (arith, d, has)) in
            inl (omega (arith, e, b, y-more))
        of (inl same) = two (cases_lt 1 (at x k))
          where
            is : unit_value v x ≡ at v k
            is = e ∙ ap (at v) same

            two : (1 < at x k) ⊎ (at x k ≤ 1) → Exchanges (unit_value v) x y k
            two (inl more) =
                let d = less-same x k in
                let b = bounds v (one_less x k) k (omega (arith, d, more)) in
                inl (omega (arith, is, b, y-more))
            two (inr one) = last is (omega (arith, lt, one)) (best v y)

pub unit-strong : (v s : List ℕ) → IsStrongSubstitutes s (valuation_of s (map (unit_value v) (box s)))
unit-strong v s = strong-of (unit_value v) s (unit-goes v s)
