-- A unit that goes from a bundle to another one, for values in natural numbers, and for the valuation that a list of them stands for.
use Rattle.std.proofs.Common.{◌≡◌, ◌≤◌, ◌<◌, ◌⊎◌, inl, inr, ℕ, zero, suc, ◌+◌, ◌-◌, List, [], ◌∷◌, length, map, slice_index, arith, ap, refl, sym, ◌∙◌}
use Rattle.std.specs.Prelude.{◌+ℤ◌, ◌≤ℤ◌}
use Rattle.std.proofs.lemmas.Int.{ints}
use Rattle.std.proofs.lemmas.List.{take_all}
use Rattle.lot_base.specs.Goods.{at, one_more, one_less, AtMost, box_size}
use Rattle.lot_base.specs.Box.{box, index_of}
use Rattle.lot_base.specs.Economy.{IsStrongSubstitutes}
use Rattle.lot_base.proofs.Index.{bundle_at-index_of, index_of-small, length-box}
use Rattle.lot_base.proofs.Vec.{AtMost-one_more, AtMost-one_less, at-below}
use Rattle.valuation.specs.Values.{valuation_of}
use Rattle.valuation.proofs.Mapped.{map-at}

-- a unit of k goes from x to y, alone or against a unit of which y has more, and the two are worth as much together
abbrev pub Exchanges : (List ℕ → ℕ) → List ℕ → List ℕ → ℕ → Type 0
Exchanges f x y k =
    (f x + f y ≤ f (one_less x k) + f (one_more y k))
    ⊎ ((l : ℕ) × (at x l < at y l) × (f x + f y ≤ f (one_more (one_less x k) l) + f (one_less (one_more y k) l)))

-- more of both keeps what is at most
pub more-both : (x y : List ℕ) (k : ℕ) → AtMost x y → AtMost (one_more x k) (one_more y k)
more-both [] [] k h = tt
more-both [] (b ∷ y) k h = absurd h
more-both (a ∷ x) [] k h = absurd h
more-both (a ∷ x) (b ∷ y) zero h = (let p = h.0 in omega (arith, p), h.1)
more-both (a ∷ x) (b ∷ y) (suc k) h = (h.0, more-both x y k h.1)

pub less-both : (x y : List ℕ) (k : ℕ) → AtMost x y → AtMost (one_less x k) (one_less y k)
less-both [] [] k h = tt
less-both [] (b ∷ y) k h = absurd h
less-both (a ∷ x) [] k h = absurd h
less-both (a ∷ x) (b ∷ y) zero h = (let p = h.0 in omega (arith, p), h.1)
less-both (a ∷ x) (b ∷ y) (suc k) h = (h.0, less-both x y k h.1)

pub up-same : (x : List ℕ) (k : ℕ) → k < length x → at (one_more x k) k ≡ at x k + 1
up-same [] k h = absurd (omega arith)
up-same (a ∷ x) zero h = refl
up-same (a ∷ x) (suc k) h = up-same x k (omega arith)

pub same-most : (x : List ℕ) → AtMost x x
same-most [] = tt
same-most (a ∷ x) = (omega arith, same-most x)

pub down-below : (x : List ℕ) (k l : ℕ) → at (one_less x k) l ≤ at x l
down-below x k l = at-below (one_less x k) x l (AtMost-one_less x x k (same-most x))

pub length-less : (x : List ℕ) (k : ℕ) → length (one_less x k) ≡ length x
length-less [] k = refl
length-less (a ∷ x) zero = refl
length-less (a ∷ x) (suc k) = ap suc (length-less x k)

pub less-same : (x : List ℕ) (k : ℕ) → at (one_less x k) k ≡ at x k - 1
less-same [] k = refl
less-same (a ∷ x) zero = refl
less-same (a ∷ x) (suc k) = less-same x k

-- what is at most a bundle is so with a unit more of it
pub up-within : (x y : List ℕ) (k : ℕ) → AtMost x y → AtMost x (one_more y k)
up-within [] [] k h = tt
up-within [] (b ∷ y) k h = absurd h
up-within (a ∷ x) [] k h = absurd h
up-within (a ∷ x) (b ∷ y) zero h = (let p = h.0 in omega (arith, p), h.1)
up-within (a ∷ x) (b ∷ y) (suc k) h = (h.0, up-within x y k h.1)

-- the value at the index of a bundle
pub value-is : (f : List ℕ → ℕ) (s x : List ℕ) → AtMost x s → slice_index (map f (box s)) (index_of s x) ≡ f x
value-is f s x h =
    let low = index_of-small s x h in
    let whole = ap (λ xs. slice_index (map f xs) (index_of s x)) (take_all (box_size s) (box s) (let e = length-box s in omega (arith, e))) in
    sym whole ∙ map-at f s (box_size s) (index_of s x) low low ∙ ap f (bundle_at-index_of s x h)

-- values that exchange are strong substitutes
pub strong-of : (f : List ℕ → ℕ) (s : List ℕ) → ((x y : List ℕ) (k : ℕ) → AtMost x s → AtMost y s → at y k < at x k → Exchanges f x y k) → IsStrongSubstitutes s (valuation_of s (map f (box s)))
strong-of f s exchanges x y k hx hy lt = by (exchanges x y k hx hy lt)
  where
    by : Exchanges f x y k
        → (((valuation_of s (map f (box s)) x) +ℤ (valuation_of s (map f (box s)) y)) ≤ℤ ((valuation_of s (map f (box s)) (one_less x k)) +ℤ (valuation_of s (map f (box s)) (one_more y k))))
        ⊎ ((l : ℕ) × (at x l < at y l) × (((valuation_of s (map f (box s)) x) +ℤ (valuation_of s (map f (box s)) y)) ≤ℤ ((valuation_of s (map f (box s)) (one_more (one_less x k) l)) +ℤ (valuation_of s (map f (box s)) (one_less (one_more y k) l)))))
    by (inl h) =
        let a = value-is f s x hx in
        let b = value-is f s y hy in
        let c = value-is f s (one_less x k) (AtMost-one_less x s k hx) in
        let room = at-below x s k hx in
        let d = value-is f s (one_more y k) (AtMost-one_more y s k hy (omega (arith, lt, room))) in
        inl (omega (arith, ints))
    by (inr h) =
        let l = h.0 in
        let less = h.1 in
        let a = value-is f s x hx in
        let b = value-is f s y hy in
        let room = at-below x s k hx in
        let up = AtMost-one_more y s k hy (omega (arith, lt, room)) in
        let down = AtMost-one_less x s k hx in
        let other = at-below y s l hy in
        let lower = down-below x k l in
        let c = value-is f s (one_more (one_less x k) l) (AtMost-one_more (one_less x k) s l down (omega (arith, less, other, lower))) in
        let d = value-is f s (one_less (one_more y k) l) (AtMost-one_less (one_more y k) s l up) in
        let worth = h.2 in
        inr (l, less, omega (arith, ints))
