-- So many units that count, the best of them: strong substitutes.
use Rattle.std.proofs.Common.{◌≡◌, ◌≢◌, ◌≤◌, ◌<◌, ◌⊎◌, inl, inr, ℕ, zero, suc, ◌+◌, List, [], ◌∷◌, length, map, arith, ap}
use Rattle.std.proofs.lemmas.Bool.{cases_lt}
use Rattle.lot_base.specs.Goods.{cost, at, one_more, one_less, AtMost}
use Rattle.lot_base.specs.Box.{box}
use Rattle.lot_base.specs.Economy.{IsStrongSubstitutes}
use Rattle.lot_base.proofs.Vec.{cost-one_more, cost-one_less, AtMost-one_more, AtMost-one_less, at-below, at-up_other, at-down_other, length-below, within_from_at}
use Rattle.valuation.specs.Values.{valuation_of}
use Rattle.valuation.specs.Forms.{total, capped_value}
use Rattle.valuation.proofs.Capped.{Reaches, bounded, reached, less-in}
use Rattle.valuation.proofs.Exchanges.{Exchanges, strong-of, more-both, less-both, length-less, up-within}

total-up : (x : List ℕ) (k : ℕ) → k < length x → total (one_more x k) ≡ total x + 1
total-up [] k h = absurd (omega (arith, h))
total-up (a ∷ x) zero h = omega arith
total-up (a ∷ x) (suc k) h = let i = total-up x k (omega (arith, h)) in omega (arith, i)

total-down : (x : List ℕ) (k : ℕ) → 0 < at x k → total (one_less x k) + 1 ≡ total x
total-down [] k h = absurd (omega (arith, h))
total-down (a ∷ x) zero h = omega (arith, h)
total-down (a ∷ x) (suc k) h = let i = total-down x k h in omega (arith, i)

-- more units in all are more of some good
some-more : (x y : List ℕ) → length x ≡ length y → total x < total y → (l : ℕ) × (at x l < at y l)
some-more [] [] same lt = absurd (omega (arith, lt))
some-more [] (b ∷ y) same lt = absurd (omega (arith, same))
some-more (a ∷ x) [] same lt = absurd (omega (arith, same))
some-more (a ∷ x) (b ∷ y) same lt = elim (cases_lt a b) [
  | inl less ↦ (0, less)
  | inr more ↦ let t = some-more x y (omega (arith, same)) (omega (arith, lt, more)) in (suc t.0, t.1)
]

-- as many units in all, and less of one good, are more of some other
other-more : (x y : List ℕ) (k : ℕ) → length x ≡ length y → total x ≤ total y → at y k < at x k → (l : ℕ) × (at x l < at y l)
other-more [] y k same few lt = absurd (omega (arith, lt))
other-more (a ∷ x) [] k same few lt = absurd (omega (arith, same))
other-more (a ∷ x) (b ∷ y) zero same few lt = let t = some-more x y (omega (arith, same)) (omega (arith, few, lt)) in (suc t.0, t.1)
other-more (a ∷ x) (b ∷ y) (suc k) same few lt = elim (cases_lt a b) [
  | inl less ↦ (0, less)
  | inr more ↦ let t = other-more x y k (omega (arith, same)) (omega (arith, few, more)) lt in (suc t.0, t.1)
]

unit-goes : (v s : List ℕ) (cap : ℕ) (x y : List ℕ) (k : ℕ) → AtMost x s → AtMost y s → at y k < at x k → Exchanges (capped_value v cap) x y k
unit-goes v s cap x y k hx hy lt = by (reached v cap x) (reached v cap y)
  where
    in-y : k < length y
    in-y = let a = within_from_at x k (omega (arith, lt)) in let b = length-below x s hx in let c = length-below y s hy in omega (arith, a, b, c)

    by : Reaches v cap x → Reaches v cap y → Exchanges (capped_value v cap) x y k
    by rx ry = of (cases_lt (at X k) (at x k))
      where
        X : List ℕ
        X = rx.bundle

        Y : List ℕ
        Y = ry.bundle

        same-length : length X ≡ length Y
        same-length = let a = length-below X x rx.below in let b = length-below Y y ry.below in let c = length-below x s hx in let d = length-below y s hy in omega (arith, a, b, c, d)

        k-in : k < length Y
        k-in = let b = length-below Y y ry.below in let c = in-y in omega (arith, b, c)

        Y-low : at Y k ≤ at y k
        Y-low = at-below Y y k ry.below

        -- the best of y has room for a unit of k
        room : at x k ≤ at X k → total Y < cap → Exchanges (capped_value v cap) x y k
        room all few =
            let a = bounded v cap (one_more y k) (one_more Y k) (more-both Y y k ry.below) (let t = total-up Y k k-in in omega (arith, t, few)) in
            let c = cost-one_more v Y k k-in in
            let has : 0 < at X k = omega (arith, all, lt) in
            let b = bounded v cap (one_less x k) (one_less X k) (less-both X x k rx.below) (let t = total-down X k has in let f = rx.few in omega (arith, t, f)) in
            let d = cost-one_less v X k has in
            let e = rx.is in
            let f = ry.is in
            inl (omega (arith, a, b, c, d, e, f))

        -- the best of y is full: a unit of another good goes back
        full : at x k ≤ at X k → cap ≤ total Y → Exchanges (capped_value v cap) x y k
        full all many = back (other-more X Y k same-length (let f = rx.few in omega (arith, f, many)) (let q = Y-low in omega (arith, all, lt, q)))
          where
            has : 0 < at X k
            has = omega (arith, all, lt)

            back : ((l : ℕ) × (at X l < at Y l)) → Exchanges (capped_value v cap) x y k
            back t = to (cases_lt (at X l) (at x l))
              where
                l : ℕ
                l = t.0

                apart : l ≢ k
                apart same = let p = ap (at X) same in let q = ap (at Y) same in let r = t.1 in let z = Y-low in omega (arith, p, q, r, z, all, lt)

                l-in : l < length (one_less X k)
                l-in = let a = within_from_at Y l (let r = t.1 in omega (arith, r)) in let b = same-length in let c = length-less X k in omega (arith, a, b, c)

                l-has : 0 < at (one_more Y k) l
                l-has = let e = at-up_other Y k l apart in let r = t.1 in omega (arith, e, r)

                X-few : total (one_more (one_less X k) l) ≤ cap
                X-few = let a = total-up (one_less X k) l l-in in let b = total-down X k has in let c = rx.few in omega (arith, a, b, c)

                Y-few : total (one_less (one_more Y k) l) ≤ cap
                Y-few = let a = total-down (one_more Y k) l l-has in let b = total-up Y k k-in in let c = ry.few in omega (arith, a, b, c)

                worth : cost v X + cost v Y ≡ cost v (one_more (one_less X k) l) + cost v (one_less (one_more Y k) l)
                worth = let a = cost-one_more v (one_less X k) l l-in in let b = cost-one_less v X k has in let c = cost-one_less v (one_more Y k) l l-has in let d = cost-one_more v Y k k-in in omega (arith, a, b, c, d)

                to : (at X l < at x l) ⊎ (at x l ≤ at X l) → Exchanges (capped_value v cap) x y k
                to (inl some) =
                    let p = at-down_other X k l apart in
                    let q = at-down_other x k l apart in
                    let a = bounded v cap (one_less x k) (one_more (one_less X k) l) (AtMost-one_more (one_less X k) (one_less x k) l (less-both X x k rx.below) (omega (arith, p, q, some))) X-few in
                    let b = bounded v cap (one_more y k) (one_less (one_more Y k) l) (AtMost-one_less (one_more Y k) (one_more y k) l (more-both Y y k ry.below)) Y-few in
                    let e = rx.is in
                    let f = ry.is in
                    let w = worth in
                    inl (omega (arith, a, b, e, f, w))
                to (inr none) =
                    let a = bounded v cap (one_more (one_less x k) l) (one_more (one_less X k) l) (more-both (one_less X k) (one_less x k) l (less-both X x k rx.below)) X-few in
                    let b = bounded v cap (one_less (one_more y k) l) (one_less (one_more Y k) l) (less-both (one_more Y k) (one_more y k) l (more-both Y y k ry.below)) Y-few in
                    let e = rx.is in
                    let f = ry.is in
                    let w = worth in
                    let r = t.1 in
                    let z = at-below Y y l ry.below in
                    inr (l, omega (arith, none, r, z), omega (arith, a, b, e, f, w))

        of : (at X k < at x k) ⊎ (at x k ≤ at X k) → Exchanges (capped_value v cap) x y k
        of (inl less) =
            let a = bounded v cap (one_less x k) X (less-in X x k rx.below less) rx.few in
            let b = bounded v cap (one_more y k) Y (up-within Y y k ry.below) ry.few in
            let e = rx.is in
            let f = ry.is in
            inl (omega (arith, a, b, e, f))
        of (inr all) = elim (cases_lt (total Y) cap) [
          | inl few ↦ room all few
          | inr many ↦ full all many
        ]

pub capped-strong : (v s : List ℕ) (cap : ℕ) → IsStrongSubstitutes s (valuation_of s (map (capped_value v cap) (box s)))
capped-strong v s cap = strong-of (capped_value v cap) s (unit-goes v s cap)
