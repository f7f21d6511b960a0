-- The goodwise lesser and greater of two price vectors: convex functions over them, and the order of price vectors.
use Rattle.std.proofs.Common.{◌≡◌, ℕ, List, [], ◌∷◌, length, arith, ap, refl, ◌∙◌}
use Rattle.std.specs.Prelude.{ℤ, ◌+ℤ◌, ◌≤ℤ◌}
use Rattle.std.proofs.lemmas.Int.{ints}
use Prim.Native.Nat.{min, max}
use Rattle.lot_base.proofs.Vec.{at-below, length-below}
use Rattle.lot_base.proofs.Vectors.{Apart, above, join, lower, total}
use Rattle.lot_base.specs.Goods.{AtMost, at, plus}
use Rattle.lyapunov.proofs.Convex.{IsMidConvex, Within-total, join-above, length-above, length-plus, submodular}
use Rattle.lyapunov.proofs.Entrywise.{AtMost-at, at-join, at-lower, at-rest, at-sum, same-at}

pub length-lower : (p q : List ℕ) → length (lower p q) ≡ min (length p) (length q)
length-lower [] q = omega arith
length-lower (a ∷ p) [] = omega arith
length-lower (a ∷ p) (b ∷ q) = let i = length-lower p q in omega arith

pub length-join : (p q : List ℕ) → length (join p q) ≡ max (length p) (length q)
length-join p q = ap length (join-above p q) ∙ (omega (arith, length-plus p (above q p), length-above q p))

Apart-above : (p q : List ℕ) → Apart (above p q) (above q p)
Apart-above [] q = tt
Apart-above (a ∷ p) [] = tt
Apart-above (a ∷ p) (b ∷ q) = (omega arith, Apart-above p q)

-- submodularity over the goodwise lesser and greater
pub lattice : (g : List ℕ → ℤ) → IsMidConvex g → (p q : List ℕ) → length p ≡ length q → (g (lower p q) +ℤ g (join p q)) ≤ℤ (g p +ℤ g q)
lattice g mid p q l =
    let a = above p q in
    let b = above q p in
    let r = lower p q in
    let la = length-above p q in
    let lb = length-above q p in
    let lr = length-lower p q in
    let lz = length-plus r b in
    let i = submodular g mid (total b) b (Within-total b) (total a) r a (Within-total a) (Apart-above p q) in
    let x = ap g (same-at (plus r a) p (omega (arith, length-plus r a)) (λ k. omega (arith, at-sum r a k, at-lower p q k, at-rest p q k))) in
    let y = ap g (same-at (plus r b) q (omega arith) (λ k. omega (arith, at-sum r b k, at-lower p q k, at-rest q p k))) in
    let z = ap g (same-at (plus (plus r b) a) (join p q) (omega (arith, length-plus (plus r b) a, length-join p q)) (λ k. omega (arith, at-sum (plus r b) a k, at-sum r b k, at-lower p q k, at-rest q p k, at-rest p q k, at-join p q k))) in
    omega (arith, ints)

-- orders of vectors
pub AtMost-same : (x y : List ℕ) → AtMost x y → AtMost y x → x ≡ y
AtMost-same x y h i = same-at x y (length-below x y h) (λ k. omega (arith, at-below x y k h, at-below y x k i))

pub AtMost-self : (x : List ℕ) → AtMost x x
AtMost-self x = AtMost-at x x refl (λ k. omega arith)

pub AtMost-more : (x y z : List ℕ) → AtMost x y → AtMost y z → AtMost x z
AtMost-more x y z h i = AtMost-at x z (length-below x y h ∙ length-below y z i) (λ k. omega (arith, at-below x y k h, at-below y z k i))

pub AtMost-raised : (p e : List ℕ) → length e ≡ length p → AtMost p (plus p e)
AtMost-raised p e l = AtMost-at p (plus p e) (omega (arith, length-plus p e)) (λ k. omega (arith, at-sum p e k))

-- the goodwise lesser and greater lie between
pub lower-left : (p q : List ℕ) → length p ≡ length q → AtMost (lower p q) p
lower-left p q l = AtMost-at (lower p q) p (omega (arith, length-lower p q)) (λ k. omega (arith, at-lower p q k))

pub lower-both : (o p q : List ℕ) → AtMost o p → AtMost o q → AtMost o (lower p q)
lower-both o p q h i = AtMost-at o (lower p q) (omega (arith, length-lower p q, length-below o p h, length-below o q i)) (λ k. omega (arith, at-lower p q k, at-below o p k h, at-below o q k i))

pub join-left : (p q : List ℕ) → length p ≡ length q → AtMost p (join p q)
join-left p q l = AtMost-at p (join p q) (omega (arith, length-join p q)) (λ k. omega (arith, at-join p q k))

pub join-both : (p q t : List ℕ) → AtMost p t → AtMost q t → AtMost (join p q) t
join-both p q t h i = AtMost-at (join p q) t (omega (arith, length-join p q, length-below p t h, length-below q t i)) (λ k. omega (arith, at-join p q k, at-below p t k h, at-below q t k i))

-- where the lesser is the first, the first is below the second
pub below_of_lower : (p q : List ℕ) → length p ≡ length q → lower p q ≡ p → AtMost p q
below_of_lower p q l e = AtMost-at p q l (λ k. let i = ap (λ z. at z k) e in omega (arith, at-lower p q k))
